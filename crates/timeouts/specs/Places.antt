-- PROOF: deadlines by numbers, of which each is known by an id
use Rattle.std.specs.Prelude.{◌≡◌, ℕ, zero, suc, List, map, Option, Some, None, slice_index_or}
use Rattle.std.specs.FinMap.{FinMap, get}
use Rattle.std.specs.Ordering.{nat_cmp}
use Rattle.timeouts.specs.declared.due.Due.{Due}
use Rattle.timeouts.specs.declared.deadlines.DueId.{DueId}

-- the deadline with the id, where there is one
abbrev pub known_by : FinMap nat_cmp Due → Option DueId → Option Due
known_by m None = None
known_by m (Some id) = get m id.number

-- the id that is noted so: none, or that of one less
abbrev pub noted : ℕ → Option DueId
noted zero = None
noted (suc n) = Some (record { number = n })

-- the ids of some notes
abbrev pub ids_of : List ℕ → List (Option DueId)
ids_of notes = map noted notes

-- each id is one number's, and the deadlines are those of the ids
pub record IsByPlace (m : FinMap nat_cmp Due) (ids : List (Option DueId)) : Type 0 where
  pub there : (k : ℕ) (id : DueId) → slice_index_or ids k None ≡ Some id → (d : Due) × (get m id.number ≡ Some d)
  pub apart : (j k : ℕ) (id : DueId) → slice_index_or ids j None ≡ Some id → slice_index_or ids k None ≡ Some id → j ≡ k
  pub only : (q : ℕ) (d : Due) → get m q ≡ Some d → (k : ℕ) × (slice_index_or ids k None ≡ Some (record { number = q }))
