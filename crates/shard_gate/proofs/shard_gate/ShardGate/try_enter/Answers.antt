use Rattle.shard_gate.proofs.StepLemmas.{stepped-as}
use Rattle.shard_gate.proofs.shard_gate.ShardGate.try_enter.Goals as goal

pub returns-in-Ok-clause-ok : goal.returns-in-Ok-clause-ok
returns-in-Ok-clause-ok g c =
    let laws = g.met.S.ShardObject in
    stepped-as _ _ _ _ _ _ _ _ _ laws.goes_on laws.answers laws.keeps_histories c.into_inner.ensures.known _ _ _ c.in-Ok.ensures.ok
