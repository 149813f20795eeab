use Rattle.std.proofs.Common.{ap}
use Rattle.shard_gate.specs.GateViews.{PassView}
use Rattle.shard_gate.proofs.StepLemmas.{stepped-at-as, weaker}
use Rattle.shard_gate.proofs.shard_gate.ShardGate.step.Goals as goal

pub returns-clause-ok : goal.returns-clause-ok
returns-clause-ok g c =
    let laws = g.met.S.ShardObject in
    let same = ap (λ (p : PassView). p.known) c.pass.view_is in
    weaker c.step.result _ _ (λ r step. stepped-at-as _ _ _ _ _ _ _ _ _ laws.goes_on laws.answers laws.keeps_histories same _ _ r step) c.step.ensures.ok
