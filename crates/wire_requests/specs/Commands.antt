-- MEANING: the commands of a completion
use Rattle.std.specs.Prelude.{ℕ, List, [], ◌∷◌, codes, Option, Result, Ok}
use Rattle.std.specs.Option.{ok_or}
use Rattle.serde_json.specs.Data.{Data}
use Rattle.wf_event_values.specs.declared.field.Field.{Field}
use Rattle.wf_event_values.specs.declared.field.Field.TheVariants as field
use Rattle.wf_event_values.specs.declared.refusal.Refusal.{Refusal}
use Rattle.wf_event_values.specs.declared.refusal.Refusal.TheVariants.{InvalidArgument}
use Rattle.wf_command.specs.declared.command.Command.{Command}
use Rattle.wf_command.specs.declared.command.Command.TheVariants as command
use Rattle.wf_command.specs.declared.command.ContinueAsNew.{ContinueAsNew as Continue}
use Rattle.wf_command.specs.declared.command.RecordMarker.{RecordMarker as Marker}
use Rattle.wf_command.specs.declared.command.StartTimer.{StartTimer as Timer}
use Rattle.service_model_types.specs.Limits.{most_commands}
use Rattle.wire_fields.specs.Steps.{◌>>=◌, for_each}
use Rattle.wire_fields.specs.Kinds.{string_of, text_of, id_of, number_of, span_of, named, elements_of}
use Rattle.wire_fields.specs.Fields.{required, or_default, optional}
use Rattle.wire_requests.specs.ActivityCommands.{activity_of}
use Rattle.wire_requests.specs.ExternalCommands.{child_of, external_cancel_of, external_signal_of}
use Rattle.wire_requests.specs.declared.commands.CommandType.{CommandType}
use Rattle.wire_requests.specs.declared.commands.CommandType.TheVariants.{ScheduleActivityTask, RequestCancelActivityTask, StartTimer, CancelTimer, RecordMarker, CompleteWorkflowExecution, FailWorkflowExecution, CancelWorkflowExecution, ContinueAsNewWorkflowExecution, StartChildWorkflowExecution, SignalExternalWorkflowExecution, RequestCancelExternalWorkflowExecution}

-- the name of a type of command
abbrev pub type_name : CommandType → List ℕ
type_name ScheduleActivityTask = codes "ScheduleActivityTask"
type_name RequestCancelActivityTask = codes "RequestCancelActivityTask"
type_name StartTimer = codes "StartTimer"
type_name CancelTimer = codes "CancelTimer"
type_name RecordMarker = codes "RecordMarker"
type_name CompleteWorkflowExecution = codes "CompleteWorkflowExecution"
type_name FailWorkflowExecution = codes "FailWorkflowExecution"
type_name CancelWorkflowExecution = codes "CancelWorkflowExecution"
type_name ContinueAsNewWorkflowExecution = codes "ContinueAsNewWorkflowExecution"
type_name StartChildWorkflowExecution = codes "StartChildWorkflowExecution"
type_name SignalExternalWorkflowExecution = codes "SignalExternalWorkflowExecution"
type_name RequestCancelExternalWorkflowExecution = codes "RequestCancelExternalWorkflowExecution"

-- the type that has this name
abbrev pub type_named : List ℕ → Option CommandType
type_named =
    named type_name (ScheduleActivityTask ∷ RequestCancelActivityTask ∷ StartTimer ∷ CancelTimer ∷ RecordMarker ∷ CompleteWorkflowExecution
    ∷ FailWorkflowExecution ∷ CancelWorkflowExecution ∷ ContinueAsNewWorkflowExecution ∷ StartChildWorkflowExecution
    ∷ SignalExternalWorkflowExecution ∷ RequestCancelExternalWorkflowExecution ∷ [])

abbrev pub type_of : Field → Data → Result CommandType Refusal
type_of field d = string_of field d >>= (λ text. ok_or (type_named text) (InvalidArgument field))

-- StartTimer
unfoldable pub timer_of : Data → Result Timer Refusal
timer_of d = do
  timer_id ← required id_of field.TimerId d
  duration ← or_default span_of 0 field.Duration d
  Ok (record { timer_id = timer_id; duration = duration })

-- RecordMarker
unfoldable pub marker_of : Data → Result Marker Refusal
marker_of d = do
  name ← or_default text_of [] field.Name d
  details ← or_default text_of [] field.Details d
  Ok (record { name = name; details = details })

-- ContinueAsNewWorkflowExecution
unfoldable pub continue_of : Data → Result Continue Refusal
continue_of d = do
  workflow_type ← optional text_of field.WorkflowType d
  task_queue ← optional id_of field.TaskQueue d
  input ← or_default text_of [] field.Input d
  run_timeout ← optional span_of field.RunTimeout d
  task_timeout ← optional span_of field.TaskTimeout d
  Ok (record {
    workflow_type = workflow_type;
    task_queue = task_queue;
    input = input;
    run_timeout = run_timeout;
    task_timeout = task_timeout;
  })

-- the fields of each type of command: their faults are looked for in the order in which they stand here
abbrev pub fields_of : CommandType → Data → Result Command Refusal
fields_of ScheduleActivityTask d = activity_of d >>= (λ x. Ok (command.ScheduleActivityTask x))
fields_of RequestCancelActivityTask d = required number_of field.Scheduled d >>= (λ x. Ok (command.RequestCancelActivityTask x))
fields_of StartTimer d = timer_of d >>= (λ x. Ok (command.StartTimer x))
fields_of CancelTimer d = required id_of field.TimerId d >>= (λ x. Ok (command.CancelTimer x))
fields_of RecordMarker d = marker_of d >>= (λ x. Ok (command.RecordMarker x))
fields_of CompleteWorkflowExecution d = or_default text_of [] field.Result d >>= (λ x. Ok (command.CompleteWorkflowExecution x))
fields_of FailWorkflowExecution d = or_default text_of [] field.Message d >>= (λ x. Ok (command.FailWorkflowExecution x))
fields_of CancelWorkflowExecution d = or_default text_of [] field.Details d >>= (λ x. Ok (command.CancelWorkflowExecution x))
fields_of ContinueAsNewWorkflowExecution d = continue_of d >>= (λ x. Ok (command.ContinueAsNewWorkflowExecution x))
fields_of StartChildWorkflowExecution d = child_of d >>= (λ x. Ok (command.StartChildWorkflowExecution x))
fields_of SignalExternalWorkflowExecution d = external_signal_of d >>= (λ x. Ok (command.SignalExternalWorkflowExecution x))
fields_of RequestCancelExternalWorkflowExecution d = external_cancel_of d >>= (λ x. Ok (command.RequestCancelExternalWorkflowExecution x))

-- a command: its type, and the fields of that type
unfoldable pub command_of : Data → Result Command Refusal
command_of d = required type_of field.Type d >>= (λ type. fields_of type d)

-- at most 10,000 commands; the first faulty one counts
abbrev pub commands_of : Field → Data → Result (List Command) Refusal
commands_of field d = elements_of most_commands field d >>= for_each command_of
