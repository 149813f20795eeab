use Rattle.std.proofs.Common.{subst}
use Rattle.service_model_types.specs.declared.request.Request.{Request}
use Rattle.service.specs.Contents.{refusal_of_step, slot_of_step}
use Rattle.service.specs.Services.{IsTriedOn}
use Rattle.service.proofs.RouteLemmas.{tried-via}
use Rattle.service.proofs.service.Service.try_serve_step.Goals as goal

pub returns : goal.returns
returns g c =
    let x = c.args.self.now in
    let p = c.args.pass.now in
    let refusal = refusal_of_step x.settings c.args.call in
    let slot = slot_of_step x.settings c.args.call in
    let Done : Request → Type 0 = λ q. IsTriedOn x p c.try_serve_on.new.pass refusal slot q c.try_serve_on.result in
    subst Done c.into_client.ensures (tried-via x p c.try_serve_on.new.pass _ refusal slot _ _ c.requires c.route_of_step-route.ensures.route c.try_serve_on.ensures)
