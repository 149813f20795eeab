-- PROOF: What passes tell each other at a queue.
use Rattle.std.specs.Prelude.{◌≡◌, ◌⊎◌, List, [], ◌∷◌, ◌++◌, length, nat_le, if◌then◌else◌}
use Rattle.matching.specs.declared.view.View.{View}
use Rattle.matching.specs.declared.view.Holder.TheVariants.{Note}
use Rattle.matching.specs.Entries.{Entry, Begins}
use Rattle.matching.specs.PassSteps.{nobody}
use Rattle.matching.specs.AtClose.{part_of}

-- the longer of two lists
abbrev pub longer : List Entry → List Entry → List Entry
longer xs ys = if nat_le (length xs) (length ys) then ys else xs

-- a note of what a pass has seen
abbrev pub note : View → View
note v = record nobody { kind = Note; put = v.put; taken = v.taken }

-- the pass after a note told it what another has seen
abbrev pub told_of : View → View → View
told_of v w = record v { told_put = w.put; told_taken = w.taken }

-- the pass after it compared what it was told with what it has seen
abbrev pub compared : View → View
compared v = record v { put = longer v.put v.told_put; taken = longer v.taken v.told_taken; told_put = []; told_taken = [] }

-- one of them begins the other
abbrev pub Comparable : List Entry → List Entry → Type 0
Comparable xs ys = Begins xs ys ⊎ Begins ys xs

-- what a look tells that compares
pub record Compares (v w : View) : Type 0 where
  pub put : Comparable v.put v.told_put
  pub taken : Comparable v.taken v.told_taken
  pub knows : w ≡ compared v

-- the pass after it took over what a note tells
abbrev pub adopted : View → View → View
adopted v w = record v { put = w.put; taken = w.taken }

-- the pass after another was handed in to it
abbrev pub taken_in : View → View → View
taken_in v w = record v { handed = v.handed ++ part_of w ∷ [] }

-- nothing was told that is not compared yet
abbrev pub IsQuiet : View → Type 0
IsQuiet v = (v.told_put ≡ []) × (v.told_taken ≡ [])
