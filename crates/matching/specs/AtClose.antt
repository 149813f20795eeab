-- MEANING: What a queue has come to when it is closed.
use Rattle.std.specs.Prelude.{◌≡◌, ℕ, List, ◌++◌, slice_get, Some}
use Rattle.service_model_types.specs.declared.request.Hint.{Hint}
use Rattle.matching.specs.declared.view.Part.{Part}
use Rattle.matching.specs.declared.view.View.{View}
use Rattle.matching.specs.Entries.{Entry, Begins, by, by_first, FromGiven, hints}

-- a pass's part: what it has seen, and what it did
abbrev pub part_of : View → Part
part_of v = record { number = v.number; put = v.put; taken = v.taken; pushed = v.pushed; popped = v.popped }

-- of all that was put and taken, a pass with this part had seen a beginning, and what bears its number is what it
-- did, each once and in order
pub record HasDone (t : Part) (put taken : List Entry) : Type 0 where
  pub seen_put : Begins t.put put
  pub seen_taken : Begins t.taken taken
  pub own_put : by t.number put ≡ t.pushed
  pub own_taken : by t.number taken ≡ t.popped

-- All that was ever put into a queue and taken from it, from these hints on, by so many passes with these parts. It
-- is one list each, whichever pass is asked
pub record IsEnd (held : List Hint) (given : ℕ) (parts : List Part) : Type 0 where
  pub put : List Entry
  pub taken : List Entry
  -- what was put after the first hints
  pub more : List Entry
  pub opened : put ≡ by_first held ++ more
  -- what still waits
  pub waiting : List Hint
  pub split : hints put ≡ hints taken ++ waiting
  pub given_more : FromGiven given more
  pub given_taken : FromGiven given taken
  pub each : (k : ℕ) (t : Part) → slice_get parts k ≡ Some t → HasDone t put taken
