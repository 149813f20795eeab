-- a text in which no line feed was found
use Rattle.std.proofs.Common.{◌≡◌, ℕ, List, [], ◌∷◌, take, true, false, eqb, zero, suc, ◌<◌, ◌≤◌, arith, length, get_or, refl}
use Rattle.std.proofs.lemmas.Bool.{false_from_ne_true}
use Rattle.wire_lines.specs.Pending.{has_feed}

pub free_front : (text : List ℕ) (n : ℕ) → n ≤ length text → ((k : ℕ) → k < n → ¬ (eqb (get_or text k 0) 10 ≡ true)) → has_feed (take n text) ≡ false
free_front [] zero h none = refl
free_front [] (suc n) h none = absurd (omega (arith, h))
free_front (b ∷ text) zero h none = refl
free_front (b ∷ text) (suc n) h none =
    rw (false_from_ne_true (eqb b 10) (none 0 (omega arith))) (free_front text n (omega arith) (λ k lt. none (suc k) (omega arith)))

pub free_all : (text : List ℕ) → ((k : ℕ) → k < length text → ¬ (eqb (get_or text k 0) 10 ≡ true)) → has_feed text ≡ false
free_all [] none = refl
free_all (b ∷ text) none = rw (false_from_ne_true (eqb b 10) (none 0 (omega arith))) (free_all text (λ k lt. none (suc k) (omega arith)))
