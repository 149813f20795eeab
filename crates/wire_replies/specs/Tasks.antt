-- MEANING: tasks that were taken
use Rattle.std.specs.Prelude.{ℕ, codes}
use Rattle.serde_json.specs.Data.{Members}
use Rattle.wf_event_values.specs.declared.policies.TaskKind.{TaskKind}
use Rattle.wf_event_values.specs.declared.policies.TaskKind.TheVariants.{Workflow, Activity}
use Rattle.wf_event_values.specs.Run.{Run}
use Rattle.task_token.specs.declared.token.TaskToken.{TaskToken}
use Rattle.task_token.specs.TokenTexts.{token_text}
use Rattle.service_model_types.specs.declared.answer.WorkflowTask.{WorkflowTask}
use Rattle.service_model_types.specs.declared.answer.ActivityTask.{ActivityTask}
use Rattle.wire_pages.specs.Members.{◌▸◌, number_member, optional, run_member, text_member}

-- the token of a task: its kind, run, scheduled event and attempt
abbrev pub token_of : TaskKind → Run → ℕ → ℕ → TaskToken
token_of kind run scheduled attempt = record { kind = kind; shard = run.shard; run = run.ordinal; event = scheduled; attempt = attempt }

abbrev pub token_member : TaskKind → Run → ℕ → ℕ → Members → Members
token_member kind run scheduled attempt ms = ms ▸ text_member (codes "token") (token_text (token_of kind run scheduled attempt))

-- a workflow task
unfoldable pub workflow_task_members : WorkflowTask → Members → Members
workflow_task_members t ms =
    ms ▸ text_member (codes "ok") (codes "task") ▸ number_member (codes "attempt") t.attempt ▸ run_member (codes "run") t.run
    ▸ number_member (codes "started") t.started ▸ token_member Workflow t.run t.scheduled t.attempt
    ▸ text_member (codes "workflow_id") t.workflow_id

-- an activity, and what it is handed
unfoldable pub activity_members : ActivityTask → Members → Members
activity_members t ms =
    ms ▸ text_member (codes "activity_id") t.activity_id ▸ text_member (codes "activity_type") t.activity_type
    ▸ optional (text_member (codes "details")) t.details ▸ text_member (codes "input") t.input

-- an activity's attempt
unfoldable pub activity_task_members : ActivityTask → Members → Members
activity_task_members t ms =
    ms ▸ text_member (codes "ok") (codes "task") ▸ activity_members t ▸ number_member (codes "attempt") t.attempt
    ▸ run_member (codes "run") t.run ▸ token_member Activity t.run t.scheduled t.attempt ▸ text_member (codes "workflow_id") t.workflow_id
