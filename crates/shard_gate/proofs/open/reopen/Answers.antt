use Rattle.std.proofs.Common.{ap, ◌∙◌}
use Rattle.shard_gate.specs.Sources.{hinted}
use Rattle.shard_gate.proofs.OpenLemmas.{replay-as}
use Rattle.shard_gate.proofs.open.reopen.Goals as goal

pub returns-clause-waiting : goal.returns-clause-waiting
returns-clause-waiting g c =
    let found = c.in_ok-shard in
    c.in_ok-waiting.ensures.tasks _ found.ensures.stands
    ∙ ap (hinted c.args.source) (replay-as _ g.met.S.ShardObject.goes_on _ _ found.ensures.opening found.log c.args.log found.ensures.log)
