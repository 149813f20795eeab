-- what holds of each member of a list up to a place
use Rattle.std.proofs.Common.{◌≡◌, ℕ, zero, suc, ◌+◌, ◌<◌, List, [], ◌∷◌, length, take, get_or, arith}
use Rattle.std.specs.List.{AllByRecursion}

one_more : {E : Type 0} (P : E → Type 0) (xs : List E) (i : ℕ) (d : E) → i < length xs → AllByRecursion P (take i xs) → P (get_or xs i d) → AllByRecursion P (take (suc i) xs)
one_more P [] i d lt h p = absurd (omega (arith, lt))
one_more P (x ∷ xs) zero d lt h p = (p, tt)
one_more P (x ∷ xs) (suc i) d lt h p = (h.0, one_more P xs i d (omega (arith, lt)) h.1 p)

pub all_more : {E : Type 0} (P : E → Type 0) (xs : List E) (i : ℕ) (d : E) → i < length xs → AllByRecursion P (take i xs) → P (get_or xs i d) → AllByRecursion P (take (i + 1) xs)
all_more P xs i d lt h p = let e : i + 1 ≡ suc i = omega arith in rw e (one_more P xs i d lt h p)
