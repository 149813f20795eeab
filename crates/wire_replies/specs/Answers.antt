-- MEANING: the members of a reply, by its answer: the answer's name under `ok`, and what it says
use Rattle.std.specs.Prelude.{ℕ, List, Bool, codes}
use Rattle.serde_json.specs.Data.{Members, no_members, put}
use Rattle.wf_event_values.specs.declared.policies.Cause.{Cause}
use Rattle.wf_event_values.specs.declared.policies.RetryState.{RetryState}
use Rattle.wf_event_values.specs.Names.{cause_name, class_name, retry_state_name, status_name}
use Rattle.wf_event_values.specs.Run.{Run}
use Rattle.service_model_types.specs.declared.answer.Acknowledged.{Acknowledged as Counted}
use Rattle.service_model_types.specs.declared.answer.Acknowledged.TheVariants.{Acknowledged, Already, OutOfOrder}
use Rattle.service_model_types.specs.declared.answer.Answer.{Answer}
use Rattle.service_model_types.specs.declared.answer.Answer.TheVariants as answer
use Rattle.service_model_types.specs.declared.answer.Description.{Description}
use Rattle.service_model_types.specs.declared.answer.Fired.{Fired}
use Rattle.service_model_types.specs.declared.answer.History.{History}
use Rattle.service_model_types.specs.declared.answer.Retrying.{Retrying}
use Rattle.wire_events.specs.Events.{event_list}
use Rattle.wire_pages.specs.Members.{◌▸◌, boolean_member, number_member, run_member, text_member}
use Rattle.wire_replies.specs.Tasks.{workflow_task_members, activity_task_members}

-- the number of the line that is answered
abbrev pub line_member : ℕ → Members
line_member line = no_members ▸ number_member (codes "line") line

-- an answer's name
abbrev pub ok_member : List ℕ → Members → Members
ok_member name ms = ms ▸ text_member (codes "ok") name

-- an answer that names a run
abbrev pub with_run : List ℕ → Run → Members → Members
with_run name run ms = ms ▸ ok_member name ▸ run_member (codes "run") run

-- an answer that names a transfer or a dispatch by its number
abbrev pub with_number : List ℕ → ℕ → Members → Members
with_number name number ms = ms ▸ ok_member name ▸ number_member (codes "number") number

-- a completion that failed the workflow task
abbrev pub task_failed_members : Cause → Members → Members
task_failed_members cause ms = ms ▸ ok_member (codes "task_failed") ▸ text_member (codes "cause") (cause_name cause)

-- a failure that closed the activity
abbrev pub activity_failed_members : RetryState → Members → Members
activity_failed_members state ms = ms ▸ ok_member (codes "failed") ▸ text_member (codes "retry") (retry_state_name state)

-- a failure that is retried
abbrev pub retrying_members : Retrying → Members → Members
retrying_members r ms =
    ms ▸ ok_member (codes "retrying") ▸ number_member (codes "attempt") r.attempt ▸ number_member (codes "ready") r.ready

-- a heartbeat
abbrev pub heartbeat_members : Bool → Members → Members
heartbeat_members cancel_requested ms = ms ▸ ok_member (codes "heartbeat") ▸ boolean_member (codes "cancel_requested") cancel_requested

-- a history
unfoldable pub history_members : History → Members → Members
history_members h ms = ms ▸ with_run (codes "history") h.run ▸ put (codes "events") (event_list h.events)

-- how many of each there are
unfoldable pub count_members : Description → Members → Members
count_members d ms =
    ms ▸ number_member (codes "activities") d.activities ▸ number_member (codes "cancels") d.cancels
    ▸ number_member (codes "children") d.children
    ▸ number_member (codes "held") d.held ▸ number_member (codes "length") d.length ▸ number_member (codes "signals") d.signals
    ▸ number_member (codes "timers") d.timers

-- a description
unfoldable pub description_members : Description → Members → Members
description_members d ms = ms ▸ with_run (codes "described") d.run ▸ text_member (codes "status") (status_name d.status) ▸ count_members d

-- a deadline that fired
unfoldable pub fired_members : Fired → Members → Members
fired_members f ms =
    ms ▸ with_run (codes "fired") f.run ▸ text_member (codes "class") (class_name f.class) ▸ number_member (codes "due") f.due
    ▸ number_member (codes "event") f.event

-- how a count was moved on
abbrev pub acknowledged_name : Counted → List ℕ
acknowledged_name Acknowledged = codes "acknowledged"
acknowledged_name Already = codes "already"
acknowledged_name OutOfOrder = codes "out_of_order"

-- an answer
abbrev pub answer_members : Answer → Members → Members
answer_members (answer.Started run) = with_run (codes "started") run
answer_members (answer.Existing run) = with_run (codes "existing") run
answer_members answer.Signaled = ok_member (codes "signaled")
answer_members answer.Repeated = ok_member (codes "repeated")
answer_members (answer.SignaledRun run) = with_run (codes "signaled") run
answer_members (answer.RepeatedRun run) = with_run (codes "repeated") run
answer_members answer.CancelRequested = ok_member (codes "cancel_requested")
answer_members answer.Terminated = ok_member (codes "terminated")
answer_members (answer.WorkflowTask task) = workflow_task_members task
answer_members (answer.ActivityTask task) = activity_task_members task
answer_members answer.Stale = ok_member (codes "stale")
answer_members answer.Completed = ok_member (codes "completed")
answer_members (answer.TaskFailed cause) = task_failed_members cause
answer_members answer.Failed = ok_member (codes "failed")
answer_members answer.ActivityCompleted = ok_member (codes "completed")
answer_members (answer.Retrying r) = retrying_members r
answer_members (answer.ActivityFailed state) = activity_failed_members state
answer_members answer.ActivityCanceled = ok_member (codes "canceled")
answer_members (answer.Heartbeat cancel_requested) = heartbeat_members cancel_requested
answer_members (answer.History h) = history_members h
answer_members (answer.Described d) = description_members d
answer_members (answer.Fired f) = fired_members f
answer_members answer.NothingDue = ok_member (codes "none")
answer_members (answer.Transfer t) = with_number (codes "taken") t.number
answer_members answer.NoTransfer = ok_member (codes "none")
answer_members (answer.Accepted number) = with_number (codes "accepted") number
answer_members (answer.AlreadyDelivered number) = with_number (codes "already") number
answer_members (answer.OutOfOrder number) = with_number (codes "out_of_order") number
answer_members (answer.Counted a) = ok_member (acknowledged_name a)
answer_members (answer.Dispatch d) = with_number (codes "taken") d.number
answer_members answer.NoDispatch = ok_member (codes "none")
answer_members answer.Empty = ok_member (codes "empty")
answer_members (answer.Taken number) = with_number (codes "taken") number
answer_members (answer.Pushed number) = with_number (codes "pushed") number
answer_members (answer.Dispatched number) = with_number (codes "dispatched") number
