use Rattle.std.proofs.Common.{◌≡◌, ℕ, [], Some, length, slice_get}
use Rattle.gate_tests.proofs.pieces.handing.Given as goal

abbrev pub invariant-loop : goal.invariant-loop
invariant-loop g l = (length l.objects.items ≡ l.counter) × ((k : ℕ) (x : _) → slice_get l.objects.items k ≡ Some x → (x.0.object.value ≡ 0) × (x.1 ≡ []))
