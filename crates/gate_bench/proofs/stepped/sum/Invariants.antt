use Rattle.gate.specs.GateViews.{IsPassOf}
use Rattle.gate_bench.proofs.stepped.sum.Given as goal

abbrev pub invariant-loop-slot : goal.invariant-loop-slot
invariant-loop-slot g l = IsPassOf l.pass l.gate
