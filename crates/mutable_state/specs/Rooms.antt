-- PROOF: how much room a step's facts need in a run's tables
use Rattle.std.specs.Prelude.{ℕ, ◌+◌, ◌≤◌, Bool, ◌||◌, if◌then◌else◌, List, [], ◌∷◌, length, Option, is_some}
use Rattle.wf_event.specs.declared.attributes.Attributes.{Attributes}
use Rattle.wf_event.specs.Role.{opens}
use Rattle.service_model_types.specs.declared.journal.Fact.{Fact}
use Rattle.service_model_types.specs.declared.journal.Fact.TheVariants.{Event as an_event, Note as a_note}
use Rattle.service_model.specs.Pending.{Task}
use Rattle.service_model.specs.RunState.{signal_request_by, cancel_request_by}
use Rattle.mutable_state.specs.Steps.{is_held_back, task_after}
use Rattle.mutable_state.specs.declared.rooms.Rooms.{Rooms}

abbrev pub no_rooms : Rooms
no_rooms = record { events = 0; held = 0; requests = 0; rows = 0; deadlines = 0 }

abbrev pub plus : Rooms → Rooms → Rooms
plus a b = record {
  events = a.events + b.events;
  held = a.held + b.held;
  requests = a.requests + b.requests;
  rows = a.rows + b.rows;
  deadlines = a.deadlines + b.deadlines;
}

-- one, where it is so
abbrev pub one_if : Bool → ℕ
one_if b = if b then 1 else 0

-- whether an event is remembered as a request: it is one to cancel, or a signal that bears a request id
abbrev pub is_remembered : Option (List ℕ) → Attributes → Bool
is_remembered request a = is_some (signal_request_by request a) || is_some (cancel_request_by request a)

-- what a fact needs, where the workflow task stands so before it
abbrev pub need_of : Task → Fact → Rooms
need_of t (an_event f) = record {
  events = 1;
  held = one_if (is_held_back t f.attributes);
  requests = one_if (is_remembered f.request_id f.attributes);
  rows = one_if (is_some (opens f.attributes));
  deadlines = one_if (is_some (opens f.attributes));
}
need_of t (a_note n) = record { events = 0; held = 0; requests = 0; rows = 0; deadlines = 1 }

-- where the workflow task stands after a fact
abbrev pub task_behind : Fact → Task → Task
task_behind (an_event f) t = task_after f.attributes t
task_behind (a_note n) t = t

-- what facts need one after another
abbrev pub needs : Task → List Fact → Rooms
needs t [] = no_rooms
needs t (f ∷ fs) = plus (need_of t f) (needs (task_behind f t) fs)

-- there is as much room as is needed
pub record IsWithin (n r : Rooms) : Type 0 where
  pub events : n.events ≤ r.events
  pub held : n.held ≤ r.held
  pub requests : n.requests ≤ r.requests
  pub rows : n.rows ≤ r.rows
  pub deadlines : n.deadlines ≤ r.deadlines

abbrev pub AreAtMost : ℕ → Rooms → Type 0
AreAtMost n r = (r.events ≤ n) × (r.held ≤ n) × (r.requests ≤ n) × (r.rows ≤ n) × (r.deadlines ≤ n)

-- the room of a run: for so many facts, whichever they are, or for those that need no more than there is in its tables
pub data Room : Type 0 where
  ForAny : ℕ → Room
  ByNeed : Rooms → Room

-- these facts have room, where the workflow task stands so before them
abbrev pub Takes : Task → Room → List Fact → Type 0
Takes t (ForAny n) fs = length fs ≤ n
Takes t (ByNeed r) fs = IsWithin (needs t fs) r
