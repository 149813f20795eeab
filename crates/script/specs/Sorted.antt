-- PROOF: steps with tickets, put into the order of their tickets, and those of a pass
use Rattle.std.specs.Prelude.{ℕ, ◌+◌, zero, suc, List, [], ◌∷◌, map, nat_lt, if◌then◌else◌}
use Rattle.gate.specs.declared.view.View.{View}
use Rattle.gate.specs.Merges.{beside}
use Rattle.gate.specs.Passes.{mine, tickets, width}
use Rattle.gate.specs.Records.{Run}
use Rattle.step_record.specs.declared.entry.Entry.{Entry}

module _ {A : Type 0} where
  -- a step before the first that has a greater ticket
  abbrev pub put : ℕ × (ℕ × A) → List (ℕ × (ℕ × A)) → List (ℕ × (ℕ × A))
  put x [] = x ∷ []
  put x (y ∷ ys) = if nat_lt x.0 y.0 then x ∷ y ∷ ys else y ∷ put x ys

  abbrev pub put_all : List (ℕ × (ℕ × A)) → List (ℕ × (ℕ × A)) → List (ℕ × (ℕ × A))
  put_all [] ys = ys
  put_all (x ∷ xs) ys = put x (put_all xs ys)

  -- the steps of a slot, from its entries and their tickets
  abbrev pub of_slot : ℕ → List (ℕ × A) → List (ℕ × (ℕ × A))
  of_slot k [] = []
  of_slot k (p ∷ ps) = (p.0, (k, p.1)) ∷ of_slot k ps

  -- the steps of m slots, from the slot n on, put into order
  abbrev pub sorted : (ℕ → List (ℕ × A)) → ℕ → ℕ → List (ℕ × (ℕ × A))
  sorted f n zero = []
  sorted f n (suc m) = put_all (of_slot n (f n)) (sorted f (n + 1) m)

module _ {Q C : Type 0} where
  -- of a slot, the pass's own entries with the tickets that it has seen there
  abbrev pub stamped_seen : View Q C → ℕ → List (ℕ × Entry Q)
  stamped_seen v k = beside (tickets v k) (mine v k)

  -- all its steps, each with its slot, in the order of their tickets
  unfoldable pub steps_seen : View Q C → Run Q
  steps_seen v = map (λ (x : ℕ × (ℕ × Entry Q)). x.1) (sorted (stamped_seen v) 0 (width v))
