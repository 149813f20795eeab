use Rattle.std.proofs.Common.{◌≡◌, ℕ, ◌+◌, ◌<◌, length, get_or}
use Rattle.std.specs.Prelude.{nat_lt, if◌then◌else◌}
use Rattle.matching.proofs.line.stamps.Given as goal

abbrev pub invariant-loop-i : goal.invariant-loop-i
invariant-loop-i l = (length l.row ≡ l.capacity + 48) × (get_or l.row 16 0 ≡ l.tail) × (get_or l.row 32 0 ≡ 0) × ((j : ℕ) → j < l.i → get_or l.row (j + 48) 0 ≡ (if nat_lt j l.count then j + 1 else j))
