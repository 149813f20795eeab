-- MEANING: what is asked of a running activity
use Rattle.std.specs.Prelude.{[], false, Result, Ok}
use Rattle.serde_json.specs.Data.{Data}
use Rattle.wf_event_values.specs.declared.field.Field.{Field}
use Rattle.wf_event_values.specs.declared.field.Field.TheVariants as field
use Rattle.wf_event_values.specs.declared.refusal.Refusal.{Refusal}
use Rattle.service_model_types.specs.declared.request.ActivityText.{ActivityText}
use Rattle.service_model_types.specs.declared.request.FailActivity.{FailActivity}
use Rattle.service_model_types.specs.declared.settings.Settings.{Settings}
use Rattle.wire_fields.specs.Steps.{◌>>=◌}
use Rattle.wire_fields.specs.Kinds.{flag_of, text_of, token_of}
use Rattle.wire_fields.specs.Fields.{required, or_default, optional}
use Rattle.wire_requests.specs.Tasks.{activity_task_in}

-- complete_activity, cancel_activity and heartbeat: a token, and a text under a key of their own
unfoldable pub activity_text_of : Settings → Field → Data → Result ActivityText Refusal
activity_text_of settings key line = do
  task ← required token_of field.Token line >>= activity_task_in settings
  text ← or_default text_of [] key line
  Ok (record { task = task; text = text })

-- fail_activity
unfoldable pub fail_activity_of : Settings → Data → Result FailActivity Refusal
fail_activity_of settings line = do
  task ← required token_of field.Token line >>= activity_task_in settings
  message ← or_default text_of [] field.Message line
  error_type ← optional text_of field.ErrorType line
  non_retryable ← or_default flag_of false field.NonRetryable line
  Ok (record { task = task; message = message; error_type = error_type; non_retryable = non_retryable })
