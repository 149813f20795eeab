use Rattle.std.proofs.Common.{◌≡◌, ℕ, ◌<◌, ◌≤◌, ◌%◌, ◌==◌, length, max, true, ap, ◌∙◌, arith}
use Rattle.std.specs.Int.{bit_at, w32}
use Rattle.std.proofs.lemmas.Nat.Bits.{bit_at_or, bit_at_set_same}
use Rattle.std.proofs.lemmas.Bool.Decides.{nat_tests}
use Rattle.wire_trees.specs.Borrowed.{is_marked}
use Rattle.wire_trees.proofs.lengths.mark.Goals as goal

low : (n : ℕ) → n % 32 < 32
low n = omega arith

-- the larger of two bits is set where the first is
larger : (x y : ℕ) → x ≤ 1 → y ≤ 1 → (x == 1) ≡ true → (max x y == 1) ≡ true
larger x y small_x small_y is = grind (arith, nat_tests)

-- a bit is 0 or 1
small : (n i : ℕ) → bit_at n i ≤ 1
small n i = omega arith

pub returns-clause-marked : goal.returns-clause-marked
unfolding is_marked
returns-clause-marked c = ap (λ x. x == 1) (bit_at_set_same w32 _ _ (low (length c.args.name.now)))

pub returns-clause-kept : goal.returns-clause-kept
unfolding is_marked
returns-clause-kept c = λ n is. ap (λ x. x == 1) (bit_at_or _ _ _) ∙ larger _ _ (small _ _) (small _ _) is
