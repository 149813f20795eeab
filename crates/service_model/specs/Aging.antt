-- MEANING: of one workflow ID the older run goes first
use Rattle.std.specs.Prelude.{◌≡◌, ℕ, ◌<◌, ◌≤◌, true, false, List, [], find, map, slice_get, Some}
use Rattle.wf_event.specs.declared.event.Event.{Event}
use Rattle.service_model_types.specs.declared.content.Content.{Content}
use Rattle.service_model.specs.Deadlines.{is_closing_event}
use Rattle.service_model.specs.RunState.{RunState, id_of, is_open, is_there, state_of}

-- the runs at two places are there, under one workflow ID, and the first is the older one
pub record AreOfOne (runs : List RunState) (m n : ℕ) (s t : RunState) : Type 0 where
  pub older : m < n
  pub at_m : slice_get runs m ≡ Some s
  pub at_n : slice_get runs n ≡ Some t
  pub is_s : is_there s ≡ true
  pub is_t : is_there t ≡ true
  pub same : id_of s ≡ id_of t

-- the run shows the event that closed it, which is of no later moment than this one
pub record HasClosedBy (moment : ℕ) (s : RunState) : Type 0 where
  pub event : Event
  pub closing : find is_closing_event s.shown ≡ Some event
  pub no_later : event.at ≤ moment

-- the event is of this moment
pub record ClosesAt (moment : ℕ) (s : RunState) : Type 0 where
  pub event : Event
  pub closing : find is_closing_event s.shown ≡ Some event
  pub at : event.at ≡ moment

-- each run that has closed did so by the last moment, and of two of one workflow ID the older closed no later
pub record AreAged (last : ℕ) (runs : List RunState) : Type 0 where
  pub over : (n : ℕ) (s : RunState) → slice_get runs n ≡ Some s → is_there s ≡ true → is_open s ≡ false → HasClosedBy last s
  pub in_order : (m n : ℕ) (s t : RunState) → AreOfOne runs m n s t → is_open t ≡ false
      → (a b : Event) → find is_closing_event s.shown ≡ Some a → find is_closing_event t.shown ≡ Some b → a.at ≤ b.at

-- no older run of the workflow ID of the run at this place is there
pub record IsOldestRun (runs : List RunState) (n : ℕ) : Type 0 where
  pub first : (m : ℕ) (s t : RunState) → AreOfOne runs m n s t → ⊥

-- the runs of a content have closed by its last moment, and of two of one workflow ID the older no later
abbrev pub IsAged : Content → Type 0
IsAged S = AreAged S.last_moment (map state_of S.runs)

abbrev pub IsOldest : Content → ℕ → Type 0
IsOldest S n = IsOldestRun (map state_of S.runs) n

-- where the younger of two runs of one workflow ID was deleted, the older was too
pub record OlderFirst (old new : Content) : Type 0 where
  pub gone : (m n : ℕ) (s t : RunState) → AreOfOne (map state_of old.runs) m n s t → slice_get new.runs n ≡ Some []
      → slice_get new.runs m ≡ Some []
