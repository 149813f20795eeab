-- a workflow whose execution is over, however many runs it took, computed over the definitions
use Rattle.std.proofs.Common.{◌≡◌, ℕ, List, [], ◌∷◌, ◌++◌, None, Some, refl, Ok}
use Rattle.std.specs.Prelude.{codes}
use Rattle.wf_event.specs.declared.attributes.Attributes.TheVariants as event
use Rattle.wf_command.specs.declared.command.Command.TheVariants as command
use Rattle.service_model_types.specs.declared.answer.Answer.TheVariants as says
use Rattle.wf_event_values.specs.declared.policies.ReusePolicy.TheVariants.{AllowDuplicate}
use Rattle.wf_event_values.specs.declared.policies.ConflictPolicy.TheVariants.{Fail}
use Rattle.wf_event_values.specs.declared.policies.DeadlineClass.TheVariants.{ExecutionTimeout}
use Rattle.service_model_types.specs.declared.request.Operation.TheVariants as operation
use Rattle.service_model.proofs.RowWords.{Step, reply_behind, history_behind, take_task, complete, event_at, scheduled, fired, run, main, a}
use Rattle.wf_event.specs.Role.{role, opens, settles, closing_status}
use Rattle.service_model.specs.Windows.{placed, first_closing}
use Rattle.service_model.specs.Pending.{is_in_use, in_use, phase, attempt, last_noted, last_details, was_cancel_requested, task}
use Rattle.service_model.specs.RunState.{beginning, signal_requests, cancel_request, no_run}
use Rattle.service_model.specs.Retry.{wait, verdict}
use Rattle.service_model.specs.Deadlines.{dues}
use Rattle.service_model.specs.IdPolicy.{decide}
use Rattle.service_model.specs.Outcome.{latest_run}
use Rattle.service_model.specs.Starts.{start}
use Rattle.service_model.specs.Signals.{signal, signal_with_start}
use Rattle.service_model.specs.Cancels.{request_cancel, terminate}
use Rattle.service_model.specs.Reads.{history, describe}
use Rattle.service_model.specs.Completion.{pending_so_far, in_use_so_far, judge_fields_good, judge, judge_all, failed_task, completed_task}
use Rattle.service_model.specs.Tasks.{start_task, complete_workflow_task, fail_workflow_task}
use Rattle.service_model.specs.Activities.{complete_activity, cancel_activity, fail_activity, heartbeat}
use Rattle.service_model.specs.TimerTurns.{least, fire, timer_turn}
use Rattle.service_model.specs.Counts.{next_transfer, acknowledge, next_dispatch, dispatched}
use Rattle.service_model.specs.Deliveries.{effect, deliver}
use Rattle.service_model.specs.Shown.{key_of, put_in_order, put_all, cancels, is_canceled_firing, numbered}
use Rattle.service_model.specs.Service.{outcome}

abbrev pub timed : ℕ → Step
timed run_timeout = (0, operation.Start (record { workflow_id = a; workflow_type = codes "w"; task_queue = main; input = []; request_id = Some (codes "r1"); reuse = AllowDuplicate; conflict = Fail; run_timeout = run_timeout; task_timeout = 0; execution_timeout = 100 }))

abbrev pub turn : ℕ → Step
turn at = (at, operation.TimerTurn)

abbrev pub continued_script : List Step
continued_script = timed 0 ∷ (0, take_task 1 2 1) ∷ (60, complete 1 2 1 (command.ContinueAsNewWorkflowExecution (record { workflow_type = None; task_queue = None; input = []; run_timeout = None; task_timeout = None }) ∷ [])) ∷ []

-- the run that follows ends at the deadline that the first one was given
pub executions_end :
    (reply_behind continued_script (turn 99) ≡ Ok says.NothingDue)
    × (reply_behind continued_script (turn 100) ≡ fired ExecutionTimeout 100 2 1)
    × (history_behind (continued_script ++ turn 100 ∷ []) 2 ≡ event_at 1 60 (event.WorkflowExecutionStarted (record { workflow_id = a; workflow_type = codes "w"; task_queue = main; input = []; run_timeout = 0; task_timeout = 10000; continued_from = Some (run 1); parent = None; execution_deadline = Some 100 })) ∷ scheduled 2 60 1 ∷ event_at 3 100 event.WorkflowExecutionTimedOut ∷ [])
unfolding role opens settles closing_status placed first_closing key_of put_in_order put_all cancels is_canceled_firing numbered is_in_use in_use phase attempt last_noted last_details was_cancel_requested task beginning signal_requests cancel_request no_run wait verdict dues decide latest_run start signal signal_with_start request_cancel terminate history describe pending_so_far in_use_so_far judge_fields_good judge judge_all failed_task completed_task start_task complete_workflow_task fail_workflow_task complete_activity cancel_activity fail_activity heartbeat least fire timer_turn next_transfer acknowledge next_dispatch dispatched effect deliver outcome
executions_end = (refl, refl, refl)

-- of one moment it fires before the run's own timeout
pub executions_end_first : reply_behind (timed 100 ∷ []) (turn 100) ≡ fired ExecutionTimeout 100 1 1
unfolding role opens settles closing_status placed first_closing key_of put_in_order put_all cancels is_canceled_firing numbered is_in_use in_use phase attempt last_noted last_details was_cancel_requested task beginning signal_requests cancel_request no_run wait verdict dues decide latest_run start signal signal_with_start request_cancel terminate history describe pending_so_far in_use_so_far judge_fields_good judge judge_all failed_task completed_task start_task complete_workflow_task fail_workflow_task complete_activity cancel_activity fail_activity heartbeat least fire timer_turn next_transfer acknowledge next_dispatch dispatched effect deliver outcome
executions_end_first = refl
