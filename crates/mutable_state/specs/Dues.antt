-- PROOF: the deadlines that a run has of itself, and those of its pending timers and activities
use Rattle.std.specs.Prelude.{ℕ, if◌then◌else◌, List, [], ◌++◌, flat_map, Option, None, Some}
use Rattle.wf_event.specs.declared.event.Event.{Event}
use Rattle.wf_event.specs.declared.payloads.WorkflowExecutionStarted.{WorkflowExecutionStarted as StartedAttributes}
use Rattle.wf_event_values.specs.declared.policies.DeadlineClass.TheVariants.{RunTimeout, WorkflowTask as TaskTimeout}
use Rattle.wf_event.specs.declared.role.Class.TheVariants.{Activity, Timer}
use Rattle.service_model.specs.Deadlines.{Due, deadline_dues, due_after, timer_dues, activity_dues, pending_rows}
use Rattle.service_model.specs.RunState.{RunState, pending}
use Rattle.service_model.specs.Tasks.{is_started_task}
use Rattle.service_model.specs.TimerTurns.{RunDue}
use Rattle.timeouts.specs.Firsts.{first_of}
use Rattle.mutable_state.specs.declared.task.WorkflowTask.{WorkflowTask}
use Rattle.mutable_state.specs.declared.open.Open.{Open}
use Rattle.mutable_state.specs.declared.notes.Notes.{Notes}
use Rattle.mutable_state.specs.Noted.{kept_row}
use Rattle.mutable_state.specs.Opens.{event_at, is_pending_of}

-- that of its workflow task, where a worker has it
abbrev pub task_dues : StartedAttributes → WorkflowTask → List Due
task_dues a t = if is_started_task t.phase then due_after t.started_at a.task_timeout TaskTimeout t.scheduled else []

-- the deadline of its workflow's execution, its own timeout, where it began at this moment, and that of its workflow task
abbrev pub own_dues : ℕ → StartedAttributes → WorkflowTask → List Due
own_dues begun a t = deadline_dues a.execution_deadline ++ due_after begun a.run_timeout RunTimeout 1 ++ task_dues a t

-- the deadlines of a run's pending timers
abbrev pub pending_timer_dues : RunState → List Due
pending_timer_dues s = flat_map timer_dues (pending Timer s)

abbrev pub dues_of : Option Event → List Due
dues_of None = []
dues_of (Some e) = timer_dues e

-- that of a thing that is kept, where it is a pending timer
abbrev pub kept_dues : List Event → Open → List Due
kept_dues es o = if is_pending_of Timer o then dues_of (event_at o.opener.event es) else []

-- the deadlines of a run's pending activities
abbrev pub pending_activity_dues : RunState → List Due
pending_activity_dues s = flat_map activity_dues (pending_rows s)

abbrev pub activity_dues_of : Notes → Option Event → List Due
activity_dues_of n None = []
activity_dues_of n (Some e) = activity_dues (kept_row n e)

-- the deadlines of a thing that is kept, where it is a pending activity
abbrev pub kept_activity_dues : List Event → Open → List Due
kept_activity_dues es o = if is_pending_of Activity o then activity_dues_of o.notes (event_at o.opener.event es) else []

-- all of a thing that is kept
abbrev pub row_dues : List Event → Open → List Due
row_dues es o = kept_activity_dues es o ++ kept_dues es o

-- the first deadline of a thing that is kept, where the run's ordinal doesn't matter
abbrev pub first_in : List Event → Open → Option RunDue
first_in es o = first_of 0 (row_dues es o)
