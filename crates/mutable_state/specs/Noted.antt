-- PROOF: what is kept of the notes on an activity, and of its requests to cancel
use Rattle.std.specs.Prelude.{◌≡◌, ℕ, ◌+◌, Bool, false, ◌||◌, ◌==◌, None, Some}
use Rattle.wf_event.specs.declared.event.Event.{Event}
use Rattle.service_model_types.specs.declared.journal.Note.{Note}
use Rattle.service_model_types.specs.declared.journal.Note.TheVariants.{Taken, Ended, Ready, Beat}
use Rattle.service_model.specs.Pending.{IsQueued, IsRunning, IsWaiting}
use Rattle.service_model.specs.RunState.{ActivityRow}
use Rattle.mutable_state.specs.declared.notes.Notes.{Notes}

-- before the first note
abbrev pub no_notes : Notes
no_notes = record {
  phase = IsQueued;
  attempt = 1;
  ready = None;
  taken = None;
  sign_of_life = None;
  ended = None;
  details = None;
  cancel_requested = false;
}

-- notes with one more, at this moment
abbrev pub noted : ℕ → Note → Notes → Notes
noted at Taken n = record n { phase = IsRunning; taken = Some at; sign_of_life = Some at }
noted at Ended n = record n { phase = IsWaiting; attempt = n.attempt + 1; ended = Some at }
noted at Ready n = record n { phase = IsQueued; ready = Some at }
noted at (Beat details) n = record n { sign_of_life = Some at; details = Some details }

-- a note may be made: an attempt that ends has a number after it
abbrev pub MayAdd : Note → Notes → Type 0
MayAdd Ended n = (n.attempt == 4294967295) ≡ false
MayAdd _ n = Unit {0}

-- notes with a request to cancel, where there is one
abbrev pub asked : Bool → Notes → Notes
asked here n = record n { cancel_requested = n.cancel_requested || here }

-- the activity's row, by the event that scheduled it
abbrev pub kept_row : Notes → Event → ActivityRow
kept_row n e = record {
  opened = e;
  phase = n.phase;
  attempt = n.attempt;
  ready = n.ready;
  taken = n.taken;
  sign_of_life = n.sign_of_life;
  ended = n.ended;
  details = n.details;
  cancel_requested = n.cancel_requested;
}
