use Rattle.std.proofs.Common.{◌≡◌, [], replicate, take}
use Rattle.sparse_numbers.proofs.pages.absent_first.Given as goal

abbrev pub invariant-loop-count : goal.invariant-loop-count
invariant-loop-count l = take l.count l.pages.items ≡ replicate l.count []
