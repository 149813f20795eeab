-- MEANING: the fields of what asks a run to cancel, and of what terminates it: their faults are looked for in the
-- order in which they stand here
use Rattle.std.specs.Prelude.{[], Result, Ok}
use Rattle.serde_json.specs.Data.{Data}
use Rattle.wf_event_values.specs.declared.refusal.Refusal.{Refusal}
use Rattle.wf_event_values.specs.declared.field.Field.TheVariants as field
use Rattle.service_model_types.specs.declared.request.RequestCancel.{RequestCancel}
use Rattle.service_model_types.specs.declared.request.Terminate.{Terminate}
use Rattle.wire_fields.specs.Steps.{◌>>=◌}
use Rattle.wire_fields.specs.Kinds.{text_of, id_of, run_of}
use Rattle.wire_fields.specs.Fields.{required, or_default, optional}

-- request_cancel
unfoldable pub request_cancel_of : Data → Result RequestCancel Refusal
request_cancel_of line = do
  workflow_id ← required id_of field.WorkflowId line
  run ← optional run_of field.Run line
  request_id ← optional id_of field.RequestId line
  Ok (record { workflow_id = workflow_id; run = run; request_id = request_id })

-- terminate
unfoldable pub terminate_of : Data → Result Terminate Refusal
terminate_of line = do
  workflow_id ← required id_of field.WorkflowId line
  run ← optional run_of field.Run line
  reason ← or_default text_of [] field.Reason line
  Ok (record { workflow_id = workflow_id; run = run; reason = reason })
