use Rattle.gate_tests.proofs.passes.open.Goals as goal

pub returns-clause-own : goal.returns-clause-own
returns-clause-own g c = λ k p there. (c.in-Ok.ensures.own k p there, (c.in-Ok.ensures.fresh k p there).named)
