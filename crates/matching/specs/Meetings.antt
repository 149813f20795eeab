-- MEANING: What two passes that meet know of one queue afterwards.
use Rattle.std.specs.Prelude.{◌≡◌, ◌⊎◌, List}
use Rattle.matching.specs.declared.view.View.{View}
use Rattle.matching.specs.Entries.{Entry, Begins}
use Rattle.matching.specs.PassSteps.{with_seen}

-- of two lists one begins the other, and the third is the longer
abbrev pub IsLonger : List Entry → List Entry → List Entry → Type 0
IsLonger xs ys zs = (Begins xs ys × (zs ≡ ys)) ⊎ (Begins ys xs × (zs ≡ xs))

-- Of what was put, one pass had seen a beginning of what the other had, and so too of what was taken. Both have now
-- seen the longer of each. What else they know is as it was: their numbers, their own pushes and their own pops
pub record Agree (a b c d : View) : Type 0 where
  pub put : IsLonger a.put b.put c.put
  pub taken : IsLonger a.taken b.taken c.taken
  pub first : c ≡ with_seen a c.put c.taken
  pub second : d ≡ with_seen b c.put c.taken
