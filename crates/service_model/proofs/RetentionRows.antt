-- two runs of a workflow that are deleted once their retention is over, computed over the definitions
use Rattle.std.proofs.Common.{◌≡◌, List, [], ◌∷◌, ◌++◌, None, Some, refl, Ok, Err}
use Rattle.service_model_types.specs.declared.answer.Answer.TheVariants as says
use Rattle.service_model_types.specs.declared.content.Content.{Content}
use Rattle.service_model_types.specs.Replies.{Reply}
use Rattle.wf_event_values.specs.declared.policies.DeadlineClass.TheVariants.{ExecutionTimeout, Retention}
use Rattle.wf_event_values.specs.declared.refusal.Refusal.TheVariants.{NotFound}
use Rattle.service_model_types.specs.declared.request.Operation.TheVariants as operation
use Rattle.service_model.proofs.ExecutionRows.{continued_script, timed, turn}
use Rattle.service_model.proofs.RowWords.{Step, after_from, fired, run, main, a}
use Rattle.wf_event.specs.Role.{role, opens, settles, closing_status}
use Rattle.service_model.specs.Windows.{placed, first_closing}
use Rattle.service_model.specs.Pending.{is_in_use, in_use, phase, attempt, last_noted, last_details, was_cancel_requested, task}
use Rattle.service_model.specs.RunState.{beginning, signal_requests, cancel_request, no_run}
use Rattle.service_model.specs.Retry.{wait, verdict}
use Rattle.service_model.specs.Deadlines.{dues}
use Rattle.service_model.specs.IdPolicy.{decide}
use Rattle.service_model.specs.Outcome.{latest_run}
use Rattle.service_model.specs.Starts.{start}
use Rattle.service_model.specs.Signals.{signal, signal_with_start}
use Rattle.service_model.specs.Cancels.{request_cancel, terminate}
use Rattle.service_model.specs.Reads.{history, describe}
use Rattle.service_model.specs.Completion.{pending_so_far, in_use_so_far, judge_fields_good, judge, judge_all, failed_task, completed_task}
use Rattle.service_model.specs.Tasks.{start_task, complete_workflow_task, fail_workflow_task}
use Rattle.service_model.specs.Activities.{complete_activity, cancel_activity, fail_activity, heartbeat}
use Rattle.service_model.specs.TimerTurns.{least, fire, timer_turn}
use Rattle.service_model.specs.Counts.{next_transfer, acknowledge, next_dispatch, dispatched}
use Rattle.service_model.specs.Deliveries.{effect, deliver}
use Rattle.service_model.specs.Shown.{key_of, put_in_order, put_all, cancels, is_canceled_firing, numbered}
use Rattle.service_model.specs.Service.{outcome, opening, answer_to}

-- a shard that keeps what has closed for a second
abbrev kept_content : Content
kept_content = opening (record { service = 1; shard = 0; shards = 1; queues = main ∷ []; retention = 1000 })

abbrev kept_behind : List Step → Step → Reply
kept_behind ss s = answer_to (after_from kept_content ss) s.0 s.1

abbrev over_script : List Step
over_script = continued_script ++ turn 100 ∷ []

abbrev away_script : List Step
away_script = over_script ++ turn 1060 ∷ turn 1100 ∷ []

abbrev start_again : Step
start_again = (1100, (timed 0).1)

-- each is deleted a second after it closed; neither is found then, and the ordinal of neither is used again
pub retentions_end :
    (kept_behind continued_script (turn 100) ≡ fired ExecutionTimeout 100 2 1)
    × (kept_behind over_script (turn 1059) ≡ Ok says.NothingDue)
    × (kept_behind over_script (turn 1060) ≡ fired Retention 1060 1 5)
    × (kept_behind (over_script ++ turn 1060 ∷ []) (turn 1099) ≡ Ok says.NothingDue)
    × (kept_behind (over_script ++ turn 1060 ∷ []) (turn 1100) ≡ fired Retention 1100 2 3)
    × (kept_behind away_script (1100, operation.History (record { workflow_id = a; run = None })) ≡ Err NotFound)
    × (kept_behind away_script (1100, operation.History (record { workflow_id = a; run = Some (run 1) })) ≡ Err NotFound)
    × (kept_behind away_script start_again ≡ Ok (says.Started (run 3)))
unfolding role opens settles closing_status placed first_closing key_of put_in_order put_all cancels is_canceled_firing numbered is_in_use in_use phase attempt last_noted last_details was_cancel_requested task beginning signal_requests cancel_request no_run wait verdict dues decide latest_run start signal signal_with_start request_cancel terminate history describe pending_so_far in_use_so_far judge_fields_good judge judge_all failed_task completed_task start_task complete_workflow_task fail_workflow_task complete_activity cancel_activity fail_activity heartbeat least fire timer_turn next_transfer acknowledge next_dispatch dispatched effect deliver outcome
retentions_end = (refl, refl, refl, refl, refl, refl, refl, refl)
