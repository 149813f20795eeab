-- MEANING: the fields of each operation: their faults are looked for in the order in which they stand here
use Rattle.std.specs.Prelude.{ℕ, true, [], Result, Ok}
use Rattle.serde_json.specs.Data.{Data}
use Rattle.wf_event_values.specs.declared.refusal.Refusal.{Refusal}
use Rattle.wf_event_values.specs.declared.field.Field.TheVariants as field
use Rattle.wf_event_values.specs.declared.policies.TaskKind.TheVariants.{Workflow, Activity}
use Rattle.service_model_types.specs.declared.call.Call.{Call}
use Rattle.service_model_types.specs.declared.call.Call.TheVariants as call
use Rattle.service_model_types.specs.declared.call.StepCall.TheVariants as step
use Rattle.service_model_types.specs.declared.request.Signal.{Signal}
use Rattle.service_model_types.specs.declared.request.CompleteWorkflowTask.{CompleteWorkflowTask}
use Rattle.service_model_types.specs.declared.request.FailWorkflowTask.{FailWorkflowTask}
use Rattle.service_model_types.specs.declared.request.Read.{Read}
use Rattle.service_model_types.specs.declared.request.Operation.{Operation}
use Rattle.service_model_types.specs.declared.request.Operation.TheVariants as operation
use Rattle.service_model_types.specs.declared.settings.Settings.{Settings}
use Rattle.wire_fields.specs.Steps.{◌>>=◌}
use Rattle.wire_fields.specs.Kinds.{text_of, id_of, run_of, token_of}
use Rattle.wire_fields.specs.Fields.{required, or_default, optional}
use Rattle.wire_requests.specs.Activities.{activity_text_of, fail_activity_of}
use Rattle.wire_requests.specs.Commands.{commands_of}
use Rattle.wire_requests.specs.CancelFields.{request_cancel_of, terminate_of}
use Rattle.wire_requests.specs.Polls.{poll_of}
use Rattle.wire_requests.specs.Starts.{start_of, signal_with_start_of}
use Rattle.wire_requests.specs.Tasks.{workflow_task_in}
use Rattle.wire_requests.specs.Turns.{dispatch_turn_of, timer_turn_of, transfer_turn_of}
use Rattle.wire_requests.specs.declared.op.Op.{Op}
use Rattle.wire_requests.specs.declared.op.Op.TheVariants as op

-- signal
unfoldable pub signal_of : Data → Result Signal Refusal
signal_of line = do
  workflow_id ← required id_of field.WorkflowId line
  run ← optional run_of field.Run line
  name ← required text_of field.Name line
  input ← or_default text_of [] field.Input line
  request_id ← optional id_of field.RequestId line
  Ok (record { workflow_id = workflow_id; run = run; name = name; input = input; request_id = request_id })

-- complete_workflow_task
unfoldable pub complete_workflow_task_of : Settings → Data → Result CompleteWorkflowTask Refusal
complete_workflow_task_of settings line = do
  task ← required token_of field.Token line >>= workflow_task_in settings
  commands ← required commands_of field.Commands line
  Ok (record { task = task; commands = commands })

-- fail_workflow_task
unfoldable pub fail_workflow_task_of : Settings → Data → Result FailWorkflowTask Refusal
fail_workflow_task_of settings line = do
  task ← required token_of field.Token line >>= workflow_task_in settings
  message ← or_default text_of [] field.Message line
  Ok (record { task = task; message = message })

-- history and describe
unfoldable pub read_of : Data → Result Read Refusal
read_of line = do
  workflow_id ← required id_of field.WorkflowId line
  run ← optional run_of field.Run line
  Ok (record { workflow_id = workflow_id; run = run })

-- the request of an operation at a moment
abbrev pub asks : ℕ → Operation → Result Call Refusal
asks at operation = Ok (call.Step (step.Request (record { at = at; operation = operation })))

-- what a line of this operation asks for, at the line's moment
abbrev pub call_of : Settings → Op → ℕ → Data → Result Call Refusal
call_of settings op.Start at line = start_of line >>= (λ x. asks at (operation.Start x))
call_of settings op.Signal at line = signal_of line >>= (λ x. asks at (operation.Signal x))
call_of settings op.SignalWithStart at line = signal_with_start_of line >>= (λ x. asks at (operation.SignalWithStart x))
call_of settings op.RequestCancel at line = request_cancel_of line >>= (λ x. asks at (operation.RequestCancel x))
call_of settings op.Terminate at line = terminate_of line >>= (λ x. asks at (operation.Terminate x))
call_of settings op.CompleteWorkflowTask at line =
    complete_workflow_task_of settings line >>= (λ x. asks at (operation.CompleteWorkflowTask x))
call_of settings op.FailWorkflowTask at line = fail_workflow_task_of settings line >>= (λ x. asks at (operation.FailWorkflowTask x))
call_of settings op.CompleteActivity at line = activity_text_of settings field.Result line >>= (λ x. asks at (operation.CompleteActivity x))
call_of settings op.FailActivity at line = fail_activity_of settings line >>= (λ x. asks at (operation.FailActivity x))
call_of settings op.CancelActivity at line = activity_text_of settings field.Details line >>= (λ x. asks at (operation.CancelActivity x))
call_of settings op.Heartbeat at line = activity_text_of settings field.Details line >>= (λ x. asks at (operation.Heartbeat x))
call_of settings op.History at line = read_of line >>= (λ x. asks at (operation.History x))
call_of settings op.Describe at line = read_of line >>= (λ x. asks at (operation.Describe x))
call_of settings op.TimerTurn at line = timer_turn_of settings at line >>= (λ x. Ok (call.Step (step.TimerTurn x)))
call_of settings op.PollWorkflowTask at line = poll_of Workflow at line >>= (λ x. Ok (call.Poll x))
call_of settings op.PollActivityTask at line = poll_of Activity at line >>= (λ x. Ok (call.Poll x))
call_of settings op.DispatchTurn at line = dispatch_turn_of settings at line >>= (λ x. Ok (call.DispatchTurn x))
call_of settings op.TransferTurn at line = transfer_turn_of settings at line >>= (λ x. Ok (call.TransferTurn x))
