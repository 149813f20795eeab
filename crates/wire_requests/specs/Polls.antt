-- MEANING: the lines that ask a task queue for a task
use Rattle.std.specs.Prelude.{ℕ, Result, Ok}
use Rattle.serde_json.specs.Data.{Data}
use Rattle.wf_event_values.specs.declared.policies.TaskKind.{TaskKind}
use Rattle.wf_event_values.specs.declared.refusal.Refusal.{Refusal}
use Rattle.wf_event_values.specs.declared.field.Field.TheVariants as field
use Rattle.service_model_types.specs.declared.call.Poll.{Poll}
use Rattle.wire_fields.specs.Steps.{◌>>=◌}
use Rattle.wire_fields.specs.Kinds.{id_of}
use Rattle.wire_fields.specs.Fields.{required}

-- poll_workflow_task and poll_activity_task
unfoldable pub poll_of : TaskKind → ℕ → Data → Result Poll Refusal
poll_of kind at line = do
  task_queue ← required id_of field.TaskQueue line
  Ok (record { kind = kind; task_queue = task_queue; at = at })
