use Rattle.std.proofs.Common.{rules, ◌≡◌, []}
use Rattle.gate.proofs.Lists.{each_snoc}
use Rattle.gate_tests.proofs.pieces.handing.Goals as goal

pub loop-preserved : goal.loop-preserved
loop-preserved g c = (search rules, each_snoc (λ k x. (x.0.object.value ≡ 0) × (x.1 ≡ [])) _ _ _ c.in-Ok.ensures.items c.loop.invariant.1 (c.at.ensures, c.new.ensures))
