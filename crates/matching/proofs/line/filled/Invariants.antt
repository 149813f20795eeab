use Rattle.std.proofs.Common.{◌≡◌, ℕ, ◌<◌, length, vec_len, vec_capacity, Some, slice_get}
use Rattle.matching.proofs.line.filled.Given as goal

abbrev pub invariant-loop-i : goal.invariant-loop-i
invariant-loop-i l = record {
  count : (length l.slots.items ≡ l.i) × (vec_len l.slots ≡ l.i);
  room : vec_capacity l.slots ≡ vec_capacity l.initial.slots;
  each : (j : ℕ) → j < l.i → slice_get l.slots.items j ≡ Some (slice_get l.waiting.items j);
}
