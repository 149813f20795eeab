use Rattle.std.proofs.Common.{◌≡◌, ap, subst, sym}
use Rattle.service_model_types.specs.declared.content.Content.{Content}
use Rattle.service_model_types.specs.declared.request.Request.{Request}
use Rattle.gate.specs.declared.view.View.{View}
use Rattle.gate.specs.Moments.{IsPaired, steps_seen}
use Rattle.service.specs.ServiceViews.{Pass}
use Rattle.service.proofs.service.Service.has_seen_all.Goals as goal

pub has_seen_all-requires-clause-paired : goal.has_seen_all-requires-clause-paired
has_seen_all-requires-clause-paired g c =
    let same = ap (λ (p : Pass). p.inner.known) c.pass.view_is in
    subst (λ (v : View Request Content). IsPaired v) (sym same) c.requires.paired

pub has_seen_all-requires-clause-steps : goal.has_seen_all-requires-clause-steps
has_seen_all-requires-clause-steps g c =
    let same = ap (λ (p : Pass). p.inner.known) c.pass.view_is in
    subst (λ (v : View Request Content). steps_seen v ≡ c.args.steps) (sym same) c.requires.steps
