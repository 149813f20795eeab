-- MEANING: One moment of all slots, and what the count of all tickets tells a pass.
use Rattle.std.specs.Prelude.{◌≡◌, ℕ, zero, suc, ◌+◌, ◌<◌, List, length}
use Rattle.gate.specs.declared.view.Origin.{Origin}
use Rattle.gate.specs.declared.view.View.{View}
use Rattle.gate.specs.Records.{Begins, past, Run, InSlots, IsGrounded, grounds_by, grown, tickets_from}
use Rattle.gate.specs.Known.{at, base}

-- the sum of a number for each of the first n slots
abbrev pub total : (ℕ → ℕ) → ℕ → ℕ
total f zero = 0
total f (suc n) = total f n + f n

module _ {Q C : Type 0} where
  -- how many steps since the opening the pass has seen, on all slots together: one ticket each
  abbrev pub steps_seen : View Q C → ℕ
  steps_seen v = total (λ k. length (at v.tickets k)) (length v.origin.bases)

  -- of each slot the pass has seen as many tickets as entries since the opening
  abbrev pub IsPaired : View Q C → Type 0
  IsPaired v = (k : ℕ) → k < length v.origin.bases
      → Begins (base v.origin k) (at v.seen k) × (length (at v.tickets k) ≡ length (past (base v.origin k) (at v.seen k)))

-- All steps since the opening stand in one run, so many, which is grounded, and whose part on each slot begins with what the pass
-- has seen there
pub record Surveyed {Q C : Type 0} (grounds : List C → ℕ → Q → Type 0) (after : C → Q → C) (o : Origin Q C) (v : View Q C) (count : ℕ) : Type 0 where
  pub run : Run Q
  pub counts : length run ≡ count
  pub steps : InSlots (length o.bases) run
  pub grounded : IsGrounded (grounds_by grounds after o.starts) (base o) run
  pub seen : (k : ℕ) → k < length o.bases → Begins (at v.seen k) (grown (base o) run k)
  pub tickets : (k : ℕ) → k < length o.bases → Begins (at v.tickets k) (tickets_from 1 k run)

-- What the pass has seen of all slots is one moment of them: all steps up to some place in a grounded run, and nothing else
pub record IsMoment {Q C : Type 0} (grounds : List C → ℕ → Q → Type 0) (after : C → Q → C) (v : View Q C) : Type 0 where
  pub run : Run Q
  pub steps : InSlots (length v.origin.bases) run
  pub grounded : IsGrounded (grounds_by grounds after v.origin.starts) (base v.origin) run
  pub records : (k : ℕ) → k < length v.origin.bases → at v.seen k ≡ grown (base v.origin) run k
  pub numbers : (k : ℕ) → k < length v.origin.bases → at v.tickets k ≡ tickets_from 1 k run
