-- PROOF: what a run answers when it is asked what is in use in it, and what is buffered
use Rattle.std.specs.Prelude.{◌≡◌, ℕ, Bool, false, if◌then◌else◌, bytes_eq, List, map, length, Option, None, Some, option_map}
use Rattle.std.specs.Option.{option_map_or}
use Rattle.std.specs.List.{AllByRecursion}
use Rattle.wf_event.specs.declared.event.Event.{Event}
use Rattle.wf_event.specs.declared.attributes.Attributes.{Attributes}
use Rattle.wf_event.specs.declared.attributes.Attributes.TheVariants.{ActivityTaskScheduled, TimerStarted, StartChildWorkflowExecutionInitiated, SignalExternalWorkflowExecutionInitiated, RequestCancelExternalWorkflowExecutionInitiated}
use Rattle.wf_event.specs.declared.role.Class.{Class}
use Rattle.wf_event.specs.Role.{Role, TimerFires, role}
use Rattle.service_model.specs.Pending.{is_settled}
use Rattle.service_model.specs.RunState.{RunState, used, held_attributes}
use Rattle.mutable_state.specs.declared.open.Open.{Open}
use Rattle.mutable_state.specs.Formed.{IsFromOutside, SettlesTo, IdsTo}
use Rattle.mutable_state.specs.Opens.{is_of, event_at}

-- a thing in use: the event that opened it, the id that it is known by, and whether an event that settles it is buffered
pub record UsedRow : Type 0 where
  pub event : ℕ
  pub name : Option (List ℕ)
  pub is_settled : Bool

-- the id that what an event opens is known by: the one that the worker gave it, or that of the workflow that is asked
abbrev pub name_of : Attributes → Option (List ℕ)
name_of (ActivityTaskScheduled a) = Some a.activity_id
name_of (TimerStarted a) = Some a.timer_id
name_of (StartChildWorkflowExecutionInitiated a) = Some a.workflow_id
name_of (SignalExternalWorkflowExecutionInitiated a) = Some a.workflow_id
name_of (RequestCancelExternalWorkflowExecutionInitiated a) = Some a.workflow_id
name_of _ = None

-- whether the worker gave it this id
abbrev pub is_named : List ℕ → UsedRow → Bool
is_named name r = option_map_or (λ n. bytes_eq n name) r.name false

abbrev pub used_row : Class → RunState → Event → UsedRow
used_row c s e = record { event = e.id; name = name_of e.attributes; is_settled = is_settled c e.id (held_attributes s) }

-- what is kept of a thing in use, where it is of the class and the history has its event
abbrev pub used_at : Class → List Event → Open → Option UsedRow
used_at c es o = if is_of c o then (option_map (λ (e : Event). record {
  event = o.opener.event;
  name = name_of e.attributes;
  is_settled = o.is_settled;
}) (event_at o.opener.event es)) else None

-- what is in use of a class
abbrev pub used_rows : Class → RunState → List UsedRow
used_rows c s = map (used_row c s) (used c s)

-- the timer that an event fires, by the event that started it
abbrev pub fired_by : Role → Option ℕ
fired_by (TimerFires started) = Some started
fired_by _ = None

abbrev pub fired_timer : Attributes → Option ℕ
fired_timer a = fired_by (role a)

-- the timers that events that are buffered fire
abbrev pub held_firings : RunState → List (Option ℕ)
held_firings s = map fired_timer (held_attributes s)

-- what is in use, and what is settled by an event that is buffered, stands in the history, and such an event came from outside
pub record IsGrounded (s : RunState) : Type 0 where
  pub ids : (c : Class) → IdsTo (length s.shown) (used c s)
  pub settled : SettlesTo (length s.shown) (held_attributes s)
  pub outside : AllByRecursion IsFromOutside s.held

-- each of these is the event that the history shows under its id
abbrev pub AreShown : List Event → List Event → Type 0
AreShown shown es = AllByRecursion (λ (e : Event). event_at e.id shown ≡ Some e) es

-- the id that the worker gave to the timer that an event starts
abbrev pub timer_started : Attributes → Option (List ℕ)
timer_started (TimerStarted a) = Some a.timer_id
timer_started _ = None

abbrev pub started_timer : Option Event → Option (List ℕ)
started_timer None = None
started_timer (Some e) = timer_started e.attributes
