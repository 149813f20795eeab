use Rattle.std.proofs.Common.{◌∙◌, ap, subst}
use Rattle.service_model_types.specs.declared.request.Request.{Request}
use Rattle.service.specs.Contents.{shard_refusal}
use Rattle.service.specs.Routes.{routed}
use Rattle.service.specs.Services.{IsTriedOn}
use Rattle.service.specs.ServiceViews.{Service}
use Rattle.service.proofs.RouteLemmas.{tried-via}
use Rattle.service.proofs.service.Service.try_timer_turn.Goals as goal

pub returns : goal.returns
returns g c =
    let x = c.args.self.now in
    let p = c.args.pass.now in
    let shard = c.args.shard in
    let Done : Request → Type 0 = λ q. IsTriedOn x p c.try_serve_on.new.pass (shard_refusal x.settings shard) shard q c.try_serve_on.result in
    let route = c.shard_route-route.ensures.route ∙ ap (λ (y : Service). routed (shard_refusal y.settings shard) shard) c.self.view_is in
    subst Done c.asked_by_client-turn.ensures (tried-via x p c.try_serve_on.new.pass _ (shard_refusal x.settings shard) shard _ _ c.requires route c.try_serve_on.ensures)
