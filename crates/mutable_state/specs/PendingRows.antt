-- PROOF: what is pending, by what opened it
use Rattle.std.specs.Prelude.{◌≡◌, ℕ, false, if◌then◌else◌, List, [], find, Option, None, option_map, option_and_then}
use Rattle.wf_event.specs.declared.event.Event.{Event}
use Rattle.wf_event.specs.declared.role.Class.{Class}
use Rattle.wf_event.specs.declared.role.Opener.{Opener}
use Rattle.service_model.specs.RunState.{RunState, ActivityRow, is_open, used}
use Rattle.mutable_state.specs.declared.notes.Notes.{Notes}
use Rattle.mutable_state.specs.declared.open.Open.{Open}
use Rattle.mutable_state.specs.declared.pending_row.PendingRow.{PendingRow}
use Rattle.mutable_state.specs.declared.pending_row.PendingRow.TheVariants.{Lent, Made}
use Rattle.mutable_state.specs.Noted.{kept_row}
use Rattle.mutable_state.specs.Opens.{event_at, is_one}

-- a thing by the event that opened it, and what is noted of it
pub record OpenedThing : Type 0 where
  pub event : Event
  pub notes : Notes

abbrev pub said : PendingRow → OpenedThing
said (Lent event notes) = record { event = event.now; notes = notes.now }
said (Made event notes) = record { event = event.value; notes = notes.value }

abbrev pub opening_event : PendingRow → Event
opening_event r = (said r).event

-- its row, where it is an activity
abbrev pub activity_said : PendingRow → ActivityRow
activity_said r = kept_row (said r).notes (said r).event

-- that of a thing that is kept, where no event that settles it is buffered
abbrev pub pending_at : List Event → ℕ → Open → Option OpenedThing
pending_at es id o = if o.is_settled then None else (option_map (λ (e : Event). record { event = e; notes = o.notes }) (event_at id es))

-- that of this opener, by what is kept
abbrev pub kept_pending : List Event → List Open → Opener → Option OpenedThing
kept_pending es os k = option_and_then (pending_at es k.event) (find (is_one k) os)

-- in a run that has closed nothing is in use
abbrev pub HasNothingClosed : RunState → Type 0
HasNothingClosed s = is_open s ≡ false → (c : Class) → used c s ≡ []
