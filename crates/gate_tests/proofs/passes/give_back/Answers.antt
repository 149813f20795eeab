use Rattle.std.proofs.Common.{◌≡◌}
use Rattle.gate.proofs.Lists.{each_snoc}
use Rattle.gate.specs.GateViews.{IsPassOf}
use Rattle.gate.specs.Passes.{number, view}
use Rattle.gate_tests.proofs.passes.give_back.Goals as goal

pub returns-clause-own : goal.returns-clause-own
returns-clause-own g c = each_snoc (λ n q. IsPassOf q c.args.gate.now × (number (view q) ≡ n)) _ _ _ c.in-Ok.ensures.items c.requires.own c.requires.pass
