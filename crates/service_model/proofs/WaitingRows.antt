-- which tasks wait, and whose dispatches were counted, computed over the definitions
use Rattle.std.proofs.Common.{◌≡◌, ℕ, List, [], ◌∷◌, ◌++◌, refl}
use Rattle.std.specs.Prelude.{codes}
use Rattle.service_model.proofs.RowWords.{Step, after_all, start_a, start_of, take_task, b, main}
use Rattle.wf_event_values.specs.declared.policies.TaskKind.TheVariants.{Workflow}
use Rattle.service_model_types.specs.declared.content.Dispatch.{Dispatch}
use Rattle.service_model_types.specs.declared.request.Operation.TheVariants as operation
use Rattle.wf_event.specs.Role.{role, opens, settles, closing_status}
use Rattle.service_model.specs.Windows.{placed, first_closing}
use Rattle.service_model.specs.Shown.{key_of, put_in_order, put_all, cancels, is_canceled_firing, numbered}
use Rattle.service_model.specs.Pending.{is_in_use, in_use, phase, attempt, last_noted, last_details, was_cancel_requested, task}
use Rattle.service_model.specs.RunState.{beginning, signal_requests, cancel_request, no_run}
use Rattle.service_model.specs.Retry.{wait, verdict}
use Rattle.service_model.specs.Deadlines.{dues}
use Rattle.service_model.specs.IdPolicy.{decide}
use Rattle.service_model.specs.Outcome.{latest_run}
use Rattle.service_model.specs.Starts.{start}
use Rattle.service_model.specs.Signals.{signal, signal_with_start}
use Rattle.service_model.specs.Cancels.{request_cancel, terminate}
use Rattle.service_model.specs.Reads.{history, describe}
use Rattle.service_model.specs.Completion.{pending_so_far, in_use_so_far, judge_fields_good, judge, judge_all, failed_task, completed_task}
use Rattle.service_model.specs.Tasks.{start_task, complete_workflow_task, fail_workflow_task}
use Rattle.service_model.specs.Activities.{complete_activity, cancel_activity, fail_activity, heartbeat}
use Rattle.service_model.specs.TimerTurns.{least, fire, timer_turn}
use Rattle.service_model.specs.Counts.{next_transfer, acknowledge, next_dispatch, dispatched}
use Rattle.service_model.specs.Deliveries.{effect, deliver}
use Rattle.service_model.specs.Service.{outcome}
use Rattle.service_model.specs.Waiting.{waiting, waiting_counted}

-- the first workflow task of the run with this ordinal
abbrev first_task : ℕ → Dispatch
first_task run = record { queue = main; hint = record { kind = Workflow; shard = 0; run = run; event = 2; attempt = 1 } }

-- two runs
abbrev pub two_starts : List Step
two_starts = start_a ∷ (0, start_of b (codes "r2")) ∷ []

-- two runs, the first workflow task of the first of which was handed to its queue
abbrev pub one_counted : List Step
one_counted = two_starts ++ (0, operation.NextDispatch) ∷ (0, operation.Dispatched 1) ∷ []

pub both_wait :
    (waiting (after_all two_starts) ≡ first_task 1 ∷ first_task 2 ∷ [])
    × (waiting_counted (after_all two_starts) ≡ [])
unfolding role opens settles closing_status placed first_closing key_of put_in_order put_all cancels is_canceled_firing numbered is_in_use in_use phase attempt last_noted last_details was_cancel_requested task beginning signal_requests cancel_request no_run wait verdict dues decide latest_run start signal signal_with_start request_cancel terminate history describe pending_so_far in_use_so_far judge_fields_good judge judge_all failed_task completed_task start_task complete_workflow_task fail_workflow_task complete_activity cancel_activity fail_activity heartbeat least fire timer_turn next_transfer acknowledge next_dispatch dispatched effect deliver outcome
both_wait = (refl, refl)

-- the hint of the one that was handed over is pushed again; that of the other comes by its own dispatch
pub one_was_counted :
    (waiting (after_all one_counted) ≡ first_task 1 ∷ first_task 2 ∷ [])
    × (waiting_counted (after_all one_counted) ≡ first_task 1 ∷ [])
unfolding role opens settles closing_status placed first_closing key_of put_in_order put_all cancels is_canceled_firing numbered is_in_use in_use phase attempt last_noted last_details was_cancel_requested task beginning signal_requests cancel_request no_run wait verdict dues decide latest_run start signal signal_with_start request_cancel terminate history describe pending_so_far in_use_so_far judge_fields_good judge judge_all failed_task completed_task start_task complete_workflow_task fail_workflow_task complete_activity cancel_activity fail_activity heartbeat least fire timer_turn next_transfer acknowledge next_dispatch dispatched effect deliver outcome
one_was_counted = (refl, refl)

-- once it was taken it waits no more
pub counted_and_taken :
    (waiting (after_all (one_counted ++ (0, take_task 1 2 1) ∷ [])) ≡ first_task 2 ∷ [])
    × (waiting_counted (after_all (one_counted ++ (0, take_task 1 2 1) ∷ [])) ≡ [])
unfolding role opens settles closing_status placed first_closing key_of put_in_order put_all cancels is_canceled_firing numbered is_in_use in_use phase attempt last_noted last_details was_cancel_requested task beginning signal_requests cancel_request no_run wait verdict dues decide latest_run start signal signal_with_start request_cancel terminate history describe pending_so_far in_use_so_far judge_fields_good judge judge_all failed_task completed_task start_task complete_workflow_task fail_workflow_task complete_activity cancel_activity fail_activity heartbeat least fire timer_turn next_transfer acknowledge next_dispatch dispatched effect deliver outcome
counted_and_taken = (refl, refl)
