use Rattle.std.proofs.Common.{ap, subst}
use Rattle.service_model.specs.Service.{after}
use Rattle.service_model_types.specs.declared.content.Content.{Content}
use Rattle.service_model_types.specs.declared.request.Request.{Request}
use Rattle.gate.specs.declared.view.View.{View}
use Rattle.gate.specs.Moments.{Surveyed}
use Rattle.shard_gate.specs.GateViews.{PassView}
use Rattle.shard_gate.specs.Grounding.{grounds}
use Rattle.shard_gate.proofs.MomentLemmas.{surveyed-as}
use Rattle.shard_gate.proofs.shard_gate.ShardGate.survey.Goals as goal

pub returns-clause-run : goal.returns-clause-run
returns-clause-run g c =
    let laws = g.met.S.ShardObject in
    let same = ap (λ (p : PassView). p.known) c.pass.view_is in
    subst (λ (v : View Request Content). Surveyed grounds after v.origin v c.survey.result) same
    (surveyed-as _ _ laws.goes_on laws.needs_all _ _ _ c.survey.ensures.run)
