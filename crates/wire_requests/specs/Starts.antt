-- MEANING: the fields of a start: their faults are looked for in the order in which they stand here
use Rattle.std.specs.Prelude.{[], Result, Ok}
use Rattle.serde_json.specs.Data.{Data}
use Rattle.wf_event_values.specs.declared.refusal.Refusal.{Refusal}
use Rattle.wf_event_values.specs.declared.field.Field.TheVariants as field
use Rattle.wf_event_values.specs.declared.policies.ReusePolicy.TheVariants.{AllowDuplicate}
use Rattle.wf_event_values.specs.declared.policies.ConflictPolicy.TheVariants.{Fail}
use Rattle.service_model_types.specs.declared.request.SignalWithStart.{SignalWithStart}
use Rattle.service_model_types.specs.declared.request.Start.{Start}
use Rattle.wire_fields.specs.Steps.{◌>>=◌}
use Rattle.wire_fields.specs.Kinds.{text_of, id_of, span_of, reuse_of, conflict_of}
use Rattle.wire_fields.specs.Fields.{required, or_default, optional}

-- start
unfoldable pub start_of : Data → Result Start Refusal
start_of line = do
  workflow_id ← required id_of field.WorkflowId line
  workflow_type ← required text_of field.WorkflowType line
  task_queue ← required id_of field.TaskQueue line
  input ← or_default text_of [] field.Input line
  request_id ← optional id_of field.RequestId line
  reuse ← or_default reuse_of AllowDuplicate field.Reuse line
  conflict ← or_default conflict_of Fail field.Conflict line
  run_timeout ← or_default span_of 0 field.RunTimeout line
  task_timeout ← or_default span_of 0 field.TaskTimeout line
  execution_timeout ← or_default span_of 0 field.ExecutionTimeout line
  Ok (record {
    workflow_id = workflow_id;
    workflow_type = workflow_type;
    task_queue = task_queue;
    input = input;
    request_id = request_id;
    reuse = reuse;
    conflict = conflict;
    run_timeout = run_timeout;
    task_timeout = task_timeout;
    execution_timeout = execution_timeout;
  })

-- signal_with_start: the fields of a start without a conflict policy, and those of the signal
unfoldable pub signal_with_start_of : Data → Result SignalWithStart Refusal
signal_with_start_of line = do
  workflow_id ← required id_of field.WorkflowId line
  workflow_type ← required text_of field.WorkflowType line
  task_queue ← required id_of field.TaskQueue line
  input ← or_default text_of [] field.Input line
  request_id ← optional id_of field.RequestId line
  reuse ← or_default reuse_of AllowDuplicate field.Reuse line
  run_timeout ← or_default span_of 0 field.RunTimeout line
  task_timeout ← or_default span_of 0 field.TaskTimeout line
  execution_timeout ← or_default span_of 0 field.ExecutionTimeout line
  name ← required text_of field.Name line
  signal_input ← or_default text_of [] field.SignalInput line
  Ok (record {
    workflow_id = workflow_id;
    workflow_type = workflow_type;
    task_queue = task_queue;
    input = input;
    request_id = request_id;
    reuse = reuse;
    run_timeout = run_timeout;
    task_timeout = task_timeout;
    execution_timeout = execution_timeout;
    name = name;
    signal_input = signal_input;
  })
