use Rattle.std.proofs.Common.{◌≡◌, length}
use Rattle.matching_tests.proofs.tests.names.Given as goal

abbrev pub invariant-loop : goal.invariant-loop
invariant-loop g l = length l.names.items ≡ l.counter
