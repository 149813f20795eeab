-- MEANING: what a line can ask for
use Rattle.std.specs.Prelude.{List, ℕ, [], ◌∷◌, codes, Option, Result}
use Rattle.std.specs.Option.{ok_or}
use Rattle.serde_json.specs.Data.{Data}
use Rattle.wf_event_values.specs.declared.field.Field.{Field}
use Rattle.wf_event_values.specs.declared.refusal.Refusal.{Refusal}
use Rattle.wf_event_values.specs.declared.refusal.Refusal.TheVariants.{InvalidArgument}
use Rattle.wire_fields.specs.Kinds.{string_of, named}
use Rattle.wire_fields.specs.Steps.{◌>>=◌}
use Rattle.wire_requests.specs.declared.op.Op.{Op}
use Rattle.wire_requests.specs.declared.op.Op.TheVariants.{Start, Signal, SignalWithStart, RequestCancel, Terminate, CompleteWorkflowTask, FailWorkflowTask, CompleteActivity, FailActivity, CancelActivity, Heartbeat, History, Describe, TimerTurn, PollWorkflowTask, PollActivityTask, DispatchTurn, TransferTurn}

-- the name of an operation
abbrev pub op_name : Op → List ℕ
op_name Start = codes "start"
op_name Signal = codes "signal"
op_name SignalWithStart = codes "signal_with_start"
op_name RequestCancel = codes "request_cancel"
op_name Terminate = codes "terminate"
op_name CompleteWorkflowTask = codes "complete_workflow_task"
op_name FailWorkflowTask = codes "fail_workflow_task"
op_name CompleteActivity = codes "complete_activity"
op_name FailActivity = codes "fail_activity"
op_name CancelActivity = codes "cancel_activity"
op_name Heartbeat = codes "heartbeat"
op_name History = codes "history"
op_name Describe = codes "describe"
op_name TimerTurn = codes "timer_turn"
op_name PollWorkflowTask = codes "poll_workflow_task"
op_name PollActivityTask = codes "poll_activity_task"
op_name DispatchTurn = codes "dispatch_turn"
op_name TransferTurn = codes "transfer_turn"

-- the operation that has this name
abbrev pub op_named : List ℕ → Option Op
op_named =
    named op_name (Start ∷ Signal ∷ SignalWithStart ∷ RequestCancel ∷ Terminate ∷ CompleteWorkflowTask ∷ FailWorkflowTask ∷ CompleteActivity
    ∷ FailActivity ∷ CancelActivity ∷ Heartbeat ∷ History ∷ Describe ∷ TimerTurn ∷ PollWorkflowTask ∷ PollActivityTask ∷ DispatchTurn
    ∷ TransferTurn ∷ [])

abbrev pub op_of : Field → Data → Result Op Refusal
op_of field d = string_of field d >>= (λ text. ok_or (op_named text) (InvalidArgument field))
