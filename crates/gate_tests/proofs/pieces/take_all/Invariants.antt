use Rattle.std.proofs.Common.{◌≡◌}
use Rattle.gate.specs.GateViews.{IsPassOf}
use Rattle.gate.specs.Passes.{view, number}
use Rattle.gate_tests.proofs.pieces.take_all.Given as goal

abbrev pub invariant-loop : goal.invariant-loop
invariant-loop g l = IsPassOf l.pass l.gate × (number (view l.pass) ≡ number (view l.initial.pass))
