use Rattle.gate.specs.GateViews.{IsPassOf}
use Rattle.gate_bench.proofs.stepped.step_in_turn.Given as goal

abbrev pub invariant-loop-i : goal.invariant-loop-i
invariant-loop-i g l = IsPassOf l.pass l.gate
