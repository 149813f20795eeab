-- rising keys, and where one stands
use Rattle.std.proofs.Common.{◌≡◌, ◌≢◌, ℕ, zero, suc, ◌+◌, ◌<◌, ◌≤◌, ◌⊎◌, inl, inr, List, [], ◌∷◌, ◌++◌, length, slice_index_or, sym, arith, subst}
use Rattle.std.specs.Prelude.{None}
use Rattle.std.specs.List.{AllByRecursion}
use Rattle.std.proofs.lemmas.Bool.{cases_eq, cases_lt}
use Rattle.mutable_state.specs.Rows.{AreRising, IsPlaceOf}

pub all-at : (P : ℕ → Type 0) (ks : List ℕ) (k : ℕ) → AllByRecursion P ks → k < length ks → P (slice_index_or ks k 0)
all-at P [] k h within = absurd (omega arith)
all-at P (x ∷ ks) zero h within = h.0
all-at P (x ∷ ks) (suc k) h within = all-at P ks k h.1 (omega arith)

pub rising-at : (ks : List ℕ) (i j : ℕ) → AreRising ks → i < j → j < length ks → slice_index_or ks i 0 < slice_index_or ks j 0
rising-at [] i j h less within = absurd (omega arith)
rising-at (x ∷ ks) i zero h less within = absurd (omega arith)
rising-at (x ∷ ks) zero (suc j) h less within = all-at (λ y. x < y) ks j h.0 (omega arith)
rising-at (x ∷ ks) (suc i) (suc j) h less within = rising-at ks i j h.1 (omega arith) (omega arith)

-- all before the middle are lower, where the middle is
pub lower-to : (ks : List ℕ) (key low middle : ℕ) → AreRising ks → middle < length ks → slice_index_or ks middle 0 < key → (k : ℕ) → k < middle + 1 → slice_index_or ks k 0 < key
lower-to ks key low middle rising within less k before = by (cases_eq k middle)
  where
    by : (k ≡ middle) ⊎ (k ≢ middle) → slice_index_or ks k 0 < key
    by (inl is) = subst (λ n. slice_index_or ks n 0 < key) (sym is) less
    by (inr other) = let rise = rising-at ks k middle rising (omega arith) within in omega arith

pub higher-from : (ks : List ℕ) (key middle : ℕ) → AreRising ks → key < slice_index_or ks middle 0 → (k : ℕ) → middle ≤ k → k < length ks → key < slice_index_or ks k 0
higher-from ks key middle rising more k behind within = by (cases_eq k middle)
  where
    by : (k ≡ middle) ⊎ (k ≢ middle) → key < slice_index_or ks k 0
    by (inl is) = subst (λ n. key < slice_index_or ks n 0) (sym is) more
    by (inr other) = let rise = rising-at ks middle k rising (omega arith) within in omega arith

pub nowhere : (ks : List ℕ) (key low high : ℕ) → high ≤ low → ((k : ℕ) → k < low → slice_index_or ks k 0 < key) → ((k : ℕ) → high ≤ k → k < length ks → key < slice_index_or ks k 0) → IsPlaceOf key ks None
nowhere ks key low high met lower higher k within = by (cases_lt k low)
  where
    by : (k < low) ⊎ (low ≤ k) → slice_index_or ks k 0 ≢ key
    by (inl before) = λ e. let l = lower k before in omega arith
    by (inr behind) = λ e. let h = higher k (omega arith) within in omega arith

pub rising-snoc : (ks : List ℕ) (k : ℕ) → AreRising ks → AllByRecursion (λ j. j < k) ks → AreRising (ks ++ k ∷ [])
rising-snoc [] k h lower = (tt, tt)
rising-snoc (x ∷ ks) k h lower = (all-snoc ks x k h.0 lower.0, rising-snoc ks k h.1 lower.1)
  where
    all-snoc : (ks : List ℕ) (x k : ℕ) → AllByRecursion (λ j. x < j) ks → x < k → AllByRecursion (λ j. x < j) (ks ++ k ∷ [])
    all-snoc [] x k h less = (less, tt)
    all-snoc (y ∷ ks) x k h less = (h.0, all-snoc ks x k h.1 less)

pub all-weaker : (P Q : ℕ → Type 0) → ((k : ℕ) → P k → Q k) → (ks : List ℕ) → AllByRecursion P ks → AllByRecursion Q ks
all-weaker P Q f [] h = tt
all-weaker P Q f (k ∷ ks) h = (f k h.0, all-weaker P Q f ks h.1)

pub all-end : (P : ℕ → Type 0) (ks : List ℕ) (k : ℕ) → AllByRecursion P ks → P k → AllByRecursion P (ks ++ k ∷ [])
all-end P [] k h last = (last, tt)
all-end P (x ∷ ks) k h last = (h.0, all-end P ks k h.1 last)
