-- MEANING: the commands on activities
use Rattle.std.specs.Prelude.{[], Result, Ok}
use Rattle.serde_json.specs.Data.{Data}
use Rattle.wf_event_values.specs.declared.field.Field.TheVariants as field
use Rattle.wf_event_values.specs.declared.refusal.Refusal.{Refusal}
use Rattle.wf_command.specs.declared.command.ScheduleActivityTask.{ScheduleActivityTask as Activity}
use Rattle.wire_fields.specs.Steps.{◌>>=◌}
use Rattle.wire_fields.specs.Kinds.{id_of, span_of, text_of}
use Rattle.wire_fields.specs.Fields.{required, or_default}
use Rattle.wire_requests.specs.RetryPolicies.{policy_of, default_policy}

-- ScheduleActivityTask
unfoldable pub activity_of : Data → Result Activity Refusal
activity_of d = do
  activity_id ← required id_of field.ActivityId d
  activity_type ← or_default text_of [] field.ActivityType d
  task_queue ← required id_of field.TaskQueue d
  input ← or_default text_of [] field.Input d
  schedule_to_start ← or_default span_of 0 field.ScheduleToStart d
  start_to_close ← or_default span_of 0 field.StartToClose d
  schedule_to_close ← or_default span_of 0 field.ScheduleToClose d
  heartbeat ← or_default span_of 0 field.Heartbeat d
  retry ← or_default policy_of default_policy field.Retry d
  Ok (record {
    activity_id = activity_id;
    activity_type = activity_type;
    task_queue = task_queue;
    input = input;
    schedule_to_start = schedule_to_start;
    start_to_close = start_to_close;
    schedule_to_close = schedule_to_close;
    heartbeat = heartbeat;
    retry = retry;
  })
