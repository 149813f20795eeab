-- PROOF: which of the tasks that a run scheduled wait, by the dispatches that were issued for them
use Rattle.std.specs.Prelude.{ℕ, Bool, if◌then◌else◌, ◌&&◌, ◌==◌, Option, None, Some, option_and_then}
use Rattle.wf_event_values.specs.declared.policies.TaskKind.{TaskKind}
use Rattle.wf_event_values.specs.declared.policies.TaskKind.TheVariants.{Workflow, Activity}
use Rattle.service_model_types.specs.declared.content.Dispatch.{Dispatch}
use Rattle.service_model_types.specs.declared.content.Setup.{Setup}
use Rattle.service_model.specs.Pending.{Task}
use Rattle.service_model.specs.RunState.{RunState, LastTask, last_task}
use Rattle.service_model.specs.Tasks.{is_scheduled_task, pending_row}
use Rattle.service_model.specs.Waiting.{queued_dispatch}

-- the attempt of the pending activity that this event scheduled, where it waits
abbrev pub waiting_attempt : Setup → ℕ → RunState → ℕ → Option Dispatch
waiting_attempt setup run s id = option_and_then (queued_dispatch setup run) (pending_row s id)

-- whether a workflow task waits, and this event scheduled it
abbrev pub is_waiting : Task → LastTask → ℕ → Bool
is_waiting task last id = is_scheduled_task task && (last.scheduled == id)

-- what waits of a task that was dispatched, by its kind: it, or the attempt at which its activity is
abbrev pub waiting_by : Setup → ℕ → RunState → Dispatch → TaskKind → Option Dispatch
waiting_by setup run s d Workflow = if is_waiting s.task (last_task s) d.hint.event then Some d else None
waiting_by setup run s d Activity = waiting_attempt setup run s d.hint.event

abbrev pub still_waiting : Setup → ℕ → RunState → Dispatch → Option Dispatch
still_waiting setup run s d = waiting_by setup run s d d.hint.kind
