use Rattle.std.proofs.Common.{subst}
use Rattle.service_model_types.specs.declared.request.Request.{Request}
use Rattle.service.specs.Contents.{refusal_of_step, slot_of_step}
use Rattle.service.specs.Services.{IsServedOnBy}
use Rattle.service.proofs.RouteLemmas.{served-via}
use Rattle.service.proofs.service.Service.serve_step.Goals as goal

pub returns : goal.returns
returns g c =
    let x = c.args.self.now in
    let p = c.args.pass.now in
    let refusal = refusal_of_step x.settings c.args.call in
    let slot = slot_of_step x.settings c.args.call in
    let Done : Request → Type 0 = λ q. IsServedOnBy x p c.serve_on.new.pass refusal slot q c.serve_on.result in
    subst Done c.into_client.ensures (served-via x p c.serve_on.new.pass _ refusal slot _ _ c.requires c.route_of_step-route.ensures.route c.serve_on.ensures)
