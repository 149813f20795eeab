use Rattle.matching.specs.Named.{IsPassOf}
use Rattle.matching_tests.proofs.tests.send_all.Given as goal

abbrev pub invariant-loop : goal.invariant-loop
invariant-loop g l = IsPassOf l.pass l.queues
