-- MEANING: the commands that reach other workflows: children, and runs outside
use Rattle.std.specs.Prelude.{[], Result, Ok}
use Rattle.std.specs.Option.{ok_or}
use Rattle.serde_json.specs.Data.{Data}
use Rattle.wf_event_values.specs.declared.field.Field.{Field}
use Rattle.wf_event_values.specs.declared.field.Field.TheVariants as field
use Rattle.wf_event_values.specs.declared.policies.ParentClosePolicy.TheVariants.{Terminate}
use Rattle.wf_event_values.specs.declared.policies.ReusePolicy.TheVariants.{AllowDuplicate}
use Rattle.wf_event_values.specs.declared.refusal.Refusal.{Refusal}
use Rattle.wf_event_values.specs.declared.refusal.Refusal.TheVariants.{InvalidArgument}
use Rattle.wf_event_values.specs.Run.{Run}
use Rattle.wf_command.specs.declared.command.RequestCancelExternal.{RequestCancelExternal as Cancel}
use Rattle.wf_command.specs.declared.command.SignalExternal.{SignalExternal as Signal}
use Rattle.wf_command.specs.declared.command.StartChild.{StartChild as Child}
use Rattle.task_token.specs.RunTexts.{run_named}
use Rattle.wire_fields.specs.Steps.{◌>>=◌}
use Rattle.wire_fields.specs.Kinds.{id_of, parent_close_of, reuse_of, span_of, string_of, text_of}
use Rattle.wire_fields.specs.Fields.{optional, or_default, required}

-- a run that a command names: unlike in a line of its own, a text that names no run is an invalid argument
abbrev pub command_run_of : Field → Data → Result Run Refusal
command_run_of field d = string_of field d >>= (λ text. ok_or (run_named text) (InvalidArgument field))

-- StartChildWorkflowExecution
unfoldable pub child_of : Data → Result Child Refusal
child_of d = do
  workflow_id ← required id_of field.WorkflowId d
  workflow_type ← or_default text_of [] field.WorkflowType d
  task_queue ← required id_of field.TaskQueue d
  input ← or_default text_of [] field.Input d
  reuse ← or_default reuse_of AllowDuplicate field.Reuse d
  parent_close ← or_default parent_close_of Terminate field.ParentClose d
  run_timeout ← or_default span_of 0 field.RunTimeout d
  task_timeout ← or_default span_of 0 field.TaskTimeout d
  Ok (record {
    workflow_id = workflow_id;
    workflow_type = workflow_type;
    task_queue = task_queue;
    input = input;
    reuse = reuse;
    parent_close = parent_close;
    run_timeout = run_timeout;
    task_timeout = task_timeout;
  })

-- SignalExternalWorkflowExecution
unfoldable pub external_signal_of : Data → Result Signal Refusal
external_signal_of d = do
  workflow_id ← required id_of field.WorkflowId d
  run ← optional command_run_of field.Run d
  name ← or_default text_of [] field.Name d
  input ← or_default text_of [] field.Input d
  Ok (record { workflow_id = workflow_id; run = run; name = name; input = input })

-- RequestCancelExternalWorkflowExecution
unfoldable pub external_cancel_of : Data → Result Cancel Refusal
external_cancel_of d = do
  workflow_id ← required id_of field.WorkflowId d
  run ← optional command_run_of field.Run d
  Ok (record { workflow_id = workflow_id; run = run })
