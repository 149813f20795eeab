use Rattle.std.proofs.Common.{◌≡◌, ◌<◌}
use Rattle.gate.specs.GateViews.{IsPassOf, slots}
use Rattle.gate.specs.Passes.{view, number}
use Rattle.gate_tests.proofs.pieces.step_often.Given as goal

abbrev pub invariant-loop-i : goal.invariant-loop-i
invariant-loop-i g l = IsPassOf l.pass l.gate × (number (view l.pass) ≡ number (view l.initial.pass))
