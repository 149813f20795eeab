use Rattle.std.proofs.Common.{◌≡◌, ap, subst, sym}
use Rattle.service_model.specs.Service.{after}
use Rattle.service_model_types.specs.declared.content.Content.{Content}
use Rattle.service_model_types.specs.declared.request.Request.{Request}
use Rattle.gate.specs.declared.view.View.{View}
use Rattle.gate.specs.Moments.{IsMoment, IsPaired, Surveyed, steps_seen}
use Rattle.shard_gate.specs.GateViews.{PassView}
use Rattle.shard_gate.specs.Grounding.{grounds}
use Rattle.shard_gate.proofs.MomentLemmas.{moment-as, surveyed-as}
use Rattle.shard_gate.proofs.shard_gate.ShardGate.has_seen_all.Goals as goal

pub has_seen_all-requires-clause-paired : goal.has_seen_all-requires-clause-paired
has_seen_all-requires-clause-paired g c =
    let same = ap (λ (p : PassView). p.known) c.pass.view_is in
    subst (λ (v : View Request Content). IsPaired v) (sym same) c.requires.paired

pub has_seen_all-requires-clause-steps : goal.has_seen_all-requires-clause-steps
has_seen_all-requires-clause-steps g c =
    let same = ap (λ (p : PassView). p.known) c.pass.view_is in
    subst (λ (v : View Request Content). steps_seen v ≡ c.args.steps) (sym same) c.requires.steps

pub returns-clause-moment : goal.returns-clause-moment
returns-clause-moment g c = λ all.
    let laws = g.met.S.ShardObject in
    let same = ap (λ (p : PassView). p.known) c.pass.view_is in
    subst (λ (v : View Request Content). IsMoment grounds after v) same
    (moment-as _ _ laws.goes_on laws.needs_all _ (c.has_seen_all.ensures.moment all))

pub returns-clause-unseen : goal.returns-clause-unseen
returns-clause-unseen g c = λ some.
    let laws = g.met.S.ShardObject in
    let same = ap (λ (p : PassView). p.known) c.pass.view_is in
    let (count, told, other) = c.has_seen_all.ensures.unseen some in (
      count,
      subst (λ (v : View Request Content). Surveyed grounds after v.origin v count) same
          (surveyed-as _ _ laws.goes_on laws.needs_all _ _ _ told),
      other,
    )
