use Rattle.std.proofs.Common.{◌≡◌, drop}
use Rattle.service.specs.Ranges.{are_different}
use Rattle.service.proofs.open.are_different.Given as goal

abbrev pub invariant-loop-place : goal.invariant-loop-place
invariant-loop-place l = are_different l.names ≡ are_different (drop l.place l.names)
