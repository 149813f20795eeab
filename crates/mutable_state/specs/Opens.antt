-- PROOF: what is kept of what is in use in a run: each thing by its class and the id of the event that opened it
use Rattle.std.specs.Prelude.{◌≡◌, ◌<◌, ℕ, Bool, true, false, if◌then◌else◌, not, ◌&&◌, ◌||◌, ◌==◌, List, [], ◌∷◌, ◌++◌, filter, filter_map, find, map, length, Option, None, Some, option_map, IsSome}
use Rattle.std.specs.List.{AllByRecursion}
use Rattle.wf_event.specs.declared.event.Event.{Event}
use Rattle.wf_event.specs.declared.attributes.Attributes.{Attributes}
use Rattle.wf_event.specs.declared.attributes.Attributes.TheVariants.{ActivityTaskCancelRequested}
use Rattle.wf_event.specs.declared.role.Class.{Class}
use Rattle.wf_event.specs.declared.role.Class.TheVariants.{Activity}
use Rattle.wf_event.specs.Role.{Role, TimerCancels, role, is_closing_role, opens, settles, class_number}
use Rattle.service_model_types.specs.declared.journal.NoteFact.{NoteFact}
use Rattle.service_model.specs.Pending.{Task, is_settling, is_settled}
use Rattle.service_model.specs.RunState.{ActivityRow, is_open_status}
use Rattle.service_model.specs.TimerTurns.{RunDue}
use Rattle.wf_event_values.specs.declared.policies.Status.{Status}
use Rattle.buffered.specs.Buffers.{Buffer, unheld, flushed}
pub use Rattle.buffered.specs.Buffers.{event_at}
use Rattle.wf_event.specs.declared.role.Opener.{Opener}
use Rattle.mutable_state.specs.declared.open.Open.{Open}
use Rattle.mutable_state.specs.Noted.{MayAdd, no_notes, asked, noted, kept_row}
use Rattle.mutable_state.specs.Formed.{IdsTo, SettlesTo}
use Rattle.mutable_state.specs.Steps.{carried, is_held_back, comes_last}

-- what is in use, for how much more there is room, and for how many more deadlines
pub record OpenRows : Type 0 where
  pub rows : List Open
  pub room : ℕ
  pub due_room : ℕ
  -- the first deadline that is kept of each
  pub firsts : List (Option RunDue)
  -- the last event that opened something
  pub last : ℕ

-- nothing, and no room
abbrev pub no_rows : OpenRows
no_rows = record { rows = []; room = 0; due_room = 0; firsts = []; last = 0 }

-- what is opened, with no note on it
abbrev pub new_open : Class → ℕ → Open
new_open c id = record { opener = record { class = c; event = id }; is_settled = false; notes = no_notes }

-- whether it is this one
abbrev pub is_one : Opener → Open → Bool
is_one k o = is_settling o.opener.class o.opener.event (Some k)

abbrev pub is_unmarked : Open → Bool
is_unmarked o = not o.is_settled

-- all but this one
abbrev pub without : Option Opener → List Open → List Open
without None os = os
without (Some k) os = filter (λ o. not (is_one k o)) os

-- this one has a settling event that is buffered
abbrev pub mark : Opener → Open → Open
mark k o = record o { is_settled = o.is_settled || is_one k o }

abbrev pub marked : Option Opener → List Open → List Open
marked None os = os
marked (Some k) os = map (mark k) os

-- what is kept that nothing buffered settles
abbrev pub unmarked : List Open → List Open
unmarked os = filter is_unmarked os

-- what is kept, and one more, where an event opens something
abbrev pub added : Option Class → ℕ → List Open → List Open
added None id os = os
added (Some c) id os = os ++ new_open c id ∷ []

abbrev pub activity_of : ℕ → Opener
activity_of id = record { class = Activity; event = id }

-- this activity is asked to cancel
abbrev pub ask : ℕ → Open → Open
ask id o = record o { notes = asked (is_one (activity_of id) o) o.notes }

abbrev pub asked_in : Option ℕ → List Open → List Open
asked_in None os = os
asked_in (Some id) os = map (ask id) os

-- which activity an event asks to cancel
abbrev pub asks_of : Attributes → Option ℕ
asks_of (ActivityTaskCancelRequested scheduled) = Some scheduled
asks_of _ = None

-- the first that is the activity, with one more note
abbrev pub noted_in : ℕ → NoteFact → List Open → List Open
noted_in at n [] = []
noted_in at n (o ∷ os) =
    if is_one (activity_of n.activity) o then record o { notes = noted at n.note o.notes } ∷ os
    else (o ∷ noted_in at n os)

-- the note may be made on the first that is the activity
abbrev pub MayAddTo : NoteFact → Option Open → Type 0
MayAddTo n None = Unit {0}
MayAddTo n (Some o) = MayAdd n.note o.notes

abbrev pub MayNote : NoteFact → List Open → Type 0
MayNote n os = MayAddTo n (find (λ o. is_one (activity_of n.activity) o) os)

-- which timer's firing is removed
abbrev pub cancels_of : Role → Option ℕ
cancels_of (TimerCancels started) = Some started
cancels_of _ = None

-- the history where way was made for an event
abbrev pub way_made : Bool → Option ℕ → Buffer → Buffer
way_made true canceled b = flushed b
way_made false None b = b
way_made false (Some started) b = unheld started b

abbrev pub is_of : Class → Open → Bool
is_of c o = class_number c == class_number o.opener.class

-- the event that opened it, where it is of the class
abbrev pub opened_at : Class → List Event → Open → Option Event
opened_at c es o = if is_of c o then event_at o.opener.event es else None

-- the events of a history that opened what is kept of a class
abbrev pub used_in : Class → List Open → List Event → List Event
used_in c os es = filter_map (opened_at c es) os

-- the row of an activity that is kept
abbrev pub row_at : List Event → Open → Option ActivityRow
row_at es o = option_map (kept_row o.notes) (opened_at Activity es o)

abbrev pub rows_in : List Open → List Event → List ActivityRow
rows_in os es = filter_map (row_at es) os

-- whether it is pending, and of the class
abbrev pub is_pending_of : Class → Open → Bool
is_pending_of c o = is_unmarked o && is_of c o

-- what is kept with one more event, which asks no activity to cancel, and has this id where it is written
abbrev pub open_with : Task → Attributes → ℕ → List Open → List Open
open_with t a id os =
    if is_held_back t a then marked (settles a) os
    else if is_closing_role (role a) then []
    else (added (opens a) id (without (settles a) (if comes_last t a then unmarked os else os)))

-- what is kept stands in the order of the events that opened it
abbrev pub Ascending : List Open → Type 0
Ascending [] = Unit {0}
Ascending (o ∷ os) = AllByRecursion (λ (x : Open). o.opener.event < x.opener.event) os × Ascending os

-- nothing is in use in a run that has closed
abbrev pub HasNoRowsClosed : Status → List Open → Type 0
HasNoRowsClosed status os = is_open_status status ≡ false → os ≡ []

-- what is kept agrees with the history and with what is buffered
pub record AgreesWith (b : Buffer) (os : List Open) : Type 0 where
  pub ids : IdsTo (length b.events) b.events
  pub grounded : SettlesTo (length b.events) (carried b.held)
  pub there : AllByRecursion (λ (o : Open). IsSome (event_at o.opener.event b.events)) os
  pub ascending : Ascending os
  pub marks : AllByRecursion (λ (o : Open). o.is_settled ≡ is_settled o.opener.class o.opener.event (carried b.held)) os
