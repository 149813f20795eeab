-- MEANING: the task that a token names
use Rattle.std.specs.Prelude.{Bool, true, false, not, nat_lt, Result, Ok, Err, if◌then◌else◌}
use Rattle.wf_event_values.specs.declared.policies.TaskKind.{TaskKind}
use Rattle.wf_event_values.specs.declared.policies.TaskKind.TheVariants.{Workflow, Activity}
use Rattle.wf_event_values.specs.declared.refusal.Refusal.{Refusal}
use Rattle.wf_event_values.specs.declared.refusal.Refusal.TheVariants.{InvalidToken}
use Rattle.service_model_types.specs.declared.settings.Settings.{Settings}
use Rattle.service_model_types.specs.declared.request.TakenTask.{TakenTask}
use Rattle.task_token.specs.declared.token.TaskToken.{TaskToken}
use Rattle.wire_fields.specs.Steps.{◌>>=◌}

abbrev pub is_workflow : TaskKind → Bool
is_workflow Workflow = true
is_workflow Activity = false

-- the task that a token names, whatever its kind is
abbrev pub named_task : TaskToken → TakenTask
named_task t = record { shard = t.shard; run = t.run; event = t.event; attempt = t.attempt }

-- the same, where its kind is the right one
abbrev pub task_of_kind : Bool → TaskToken → Result TakenTask Refusal
task_of_kind is_right t = if is_right then Ok (named_task t) else Err InvalidToken

-- a task whose shard is there
abbrev pub shard_is_there : Settings → TakenTask → Result TakenTask Refusal
shard_is_there settings t = if nat_lt t.shard settings.shards then Ok t else Err InvalidToken

-- the task that a token names, where it is of the right kind and its shard is there
abbrev pub task_in : Settings → Bool → TaskToken → Result TakenTask Refusal
task_in settings is_right t = task_of_kind is_right t >>= shard_is_there settings

-- the workflow task that a token names: one of the other kind, or of a shard that is not there, names none
abbrev pub workflow_task_in : Settings → TaskToken → Result TakenTask Refusal
workflow_task_in settings t = task_in settings (is_workflow t.kind) t

-- the activity's task that a token names, in the same way
abbrev pub activity_task_in : Settings → TaskToken → Result TakenTask Refusal
activity_task_in settings t = task_in settings (not (is_workflow t.kind)) t
