use Rattle.std.proofs.Common.{◌≡◌, [], replicate}
use Rattle.sparse_numbers.proofs.pages.absent.Given as goal

abbrev pub invariant-loop-made : goal.invariant-loop-made
invariant-loop-made l = l.pages.items ≡ replicate l._made []
