-- PROOF: the first deadline of each thing that is kept lies in the run's heap
use Rattle.std.specs.Prelude.{◌≡◌, ℕ, true, List, map, filter_map, flat_map, slice_get, Option, None, Some, option_map, option_to_list}
use Rattle.std.specs.FinMap.{FinMap, get, insert, remove}
use Rattle.std.specs.Ordering.{nat_cmp}
use Rattle.wf_event.specs.declared.event.Event.{Event}
use Rattle.service_model.specs.TimerTurns.{RunDue}
use Rattle.timeouts.specs.declared.due.Due.{Due}
use Rattle.timeouts.specs.declared.deadlines.DueId.{DueId}
use Rattle.timeouts.specs.Places.{known_by}
use Rattle.timeouts.specs.Slots.{run_due}
use Rattle.mutable_state.specs.declared.open.Open.{Open}
use Rattle.mutable_state.specs.declared.rows.Row.{Row}
use Rattle.mutable_state.specs.Dues.{first_in}
use Rattle.mutable_state.specs.Opens.{OpenRows, is_unmarked}
use Rattle.mutable_state.specs.Rows.{passes}

-- a row's deadline is there, and is that of its event; what has one is in use and unmarked
abbrev pub FiledBy : FinMap nat_cmp Due → ℕ → Option Open → Option DueId → Type 0
FiledBy m event kept None = Unit {0}
FiledBy m event kept (Some id) = (passes is_unmarked kept ≡ true) × ((d : Due) × (get m id.number ≡ Some d) × (d.event ≡ event))

abbrev pub IsFiled : FinMap nat_cmp Due → Row → Type 0
IsFiled m r = FiledBy m r.event r.kept r.due

-- each row's deadline is there, and each that is there is a row's
pub record AreFiled (m : FinMap nat_cmp Due) (rs : List Row) : Type 0 where
  pub filed : (j : ℕ) (r : Row) → slice_get rs j ≡ Some r → IsFiled m r
  pub only : (q : ℕ) (d : Due) → get m q ≡ Some d → (j : ℕ) × (r : Row) × (slice_get rs j ≡ Some r) × (r.due ≡ Some (record { number = q }))

-- the first deadline that is kept of what is here
abbrev pub first_at : FinMap nat_cmp Due → Row → Option (Option RunDue)
first_at m r = option_map (λ (o : Open). option_map run_due (known_by m r.due)) r.kept

abbrev pub firsts_of : FinMap nat_cmp Due → List Row → List (Option RunDue)
firsts_of m rs = filter_map (first_at m) rs

-- of each thing that is kept the first deadline is, by this history
abbrev pub KeepsDues : List Event → OpenRows → Type 0
KeepsDues es v = v.firsts ≡ map (first_in es) v.rows

-- the first of all
abbrev pub all_firsts : List (Option RunDue) → List RunDue
all_firsts fs = flat_map (λ f. option_to_list f) fs

-- the id is that of a deadline that is there
abbrev pub HasId : FinMap nat_cmp Due → Option DueId → Type 0
HasId m None = Unit {0}
HasId m (Some id) = (d : Due) × (get m id.number ≡ Some d)

-- without the deadline that has the id
abbrev pub without_id : Option DueId → FinMap nat_cmp Due → FinMap nat_cmp Due
without_id None m = m
without_id (Some id) m = remove m id.number

-- a deadline was added under an id, or none
abbrev pub IsAdded : FinMap nat_cmp Due → FinMap nat_cmp Due → Option Due → Option DueId → Type 0
IsAdded m m' None None = m' ≡ m
IsAdded m m' (Some d) (Some id) = (get m id.number ≡ None) × (m' ≡ insert m id.number d)
IsAdded m m' _ _ = ⊥

-- the same deadline of another run
abbrev pub with_run : ℕ → RunDue → RunDue
with_run n d = record { run = n; at = d.at }

-- the deadline is that of the event
abbrev pub IsOfEvent : ℕ → Option Due → Type 0
IsOfEvent id None = Unit {0}
IsOfEvent id (Some d) = d.event ≡ id
