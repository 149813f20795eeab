-- MEANING: the tasks of a shard that wait to be taken: their hints are pushed anew when a service is opened again, all
-- of them where it is opened from records, and those whose dispatch was counted where it is opened from a journal
use Rattle.std.specs.Prelude.{ℕ, if◌then◌else◌, ◌&&◌, ◌==◌, not, Bool, List, drop, filter, filter_map, flat_map, map, Option, None, option_and_then}
use Rattle.std.specs.List.{enumerate_from, list_any}
use Rattle.wf_event.specs.declared.event.Event.{Event}
use Rattle.wf_event.specs.declared.attributes.Attributes.{Attributes}
use Rattle.wf_event.specs.declared.attributes.Attributes.TheVariants.{WorkflowTaskScheduled, ActivityTaskScheduled}
use Rattle.service_model_types.specs.declared.content.Content.{Content}
use Rattle.service_model_types.specs.declared.content.Dispatch.{Dispatch}
use Rattle.service_model_types.specs.declared.content.Setup.{Setup}
use Rattle.service_model_types.specs.declared.request.Hint.{Hint}
use Rattle.service_model.specs.Issued.{row_dispatch, task_dispatch}
use Rattle.service_model.specs.RunState.{RunState, ActivityRow, last_task, state_of}
use Rattle.service_model.specs.Tasks.{is_queued, is_scheduled_task, pending_row}

-- an activity's attempt waits while it is queued
abbrev pub queued_dispatch : Setup → ℕ → ActivityRow → Option Dispatch
queued_dispatch setup run r = if is_queued r.phase then row_dispatch setup run r else None

-- the task that an event schedules, where it waits: the run's workflow task while it is scheduled, the attempt of a
-- pending activity while that is queued
abbrev pub waiting_task : Setup → ℕ → RunState → Event → Option Dispatch
waiting_task setup run s e = by_kind e.attributes
  where
    by_kind : Attributes → Option Dispatch
    by_kind (WorkflowTaskScheduled a) =
        if is_scheduled_task s.task && ((last_task s).scheduled == e.id) then task_dispatch setup run e else None
    by_kind (ActivityTaskScheduled a) = option_and_then (queued_dispatch setup run) (pending_row s e.id)
    by_kind _ = None

-- the tasks of a run that wait, in the order of the events that scheduled them
abbrev pub waiting_of : Setup → ℕ → RunState → List Dispatch
waiting_of setup run s = filter_map (waiting_task setup run s) s.shown

-- the tasks of all runs that wait, in the order of the runs
abbrev pub all_waiting : Setup → List RunState → List Dispatch
all_waiting setup states = flat_map (λ (p : ℕ × RunState). waiting_of setup p.0 p.1) (enumerate_from 1 states)

-- the tasks of a shard that wait
abbrev pub waiting : Content → List Dispatch
waiting S = all_waiting S.setup (map state_of S.runs)

-- whether two hints of a shard name one task: the same attempt of what one event scheduled
abbrev pub is_same_task : Hint → Hint → Bool
is_same_task h other = (h.run == other.run) && ((h.event == other.event) && (h.attempt == other.attempt))

-- whether one of these dispatches hands over the task
abbrev pub hands_over : List Dispatch → Dispatch → Bool
hands_over ds d = list_any (λ (other : Dispatch). is_same_task d.hint other.hint) ds

-- those of these tasks that none of the dispatches hands over
abbrev pub not_handed_over : List Dispatch → List Dispatch → List Dispatch
not_handed_over ds tasks = filter (λ d. not (hands_over ds d)) tasks

-- the tasks of a shard that wait and whose dispatches were counted; the hints of the others come by dispatch turns
abbrev pub waiting_counted : Content → List Dispatch
waiting_counted S = not_handed_over (drop S.dispatched S.dispatches) (waiting S)
