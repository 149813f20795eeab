-- PROOF: some names among which those of all rows are
use Rattle.std.specs.Prelude.{◌≡◌, ℕ, Bool, false, List, Option, None, Some}
use Rattle.mutable_state.specs.Readers.{UsedRow}
use Rattle.task_completion.specs.Judging.{event_named}

-- what isn't among the names is no row's
abbrev pub Covers : (List ℕ → Bool) → List UsedRow → Type 0
Covers has rows = (name : List ℕ) → has name ≡ false → event_named name rows ≡ None

-- where there are names
abbrev pub Covered : Option (List ℕ → Bool) → List UsedRow → Type 0
Covered None rows = Unit {0}
Covered (Some has) rows = Covers has rows
