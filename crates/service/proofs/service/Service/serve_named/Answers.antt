use Rattle.std.proofs.Common.{◌∙◌, ap}
use Rattle.service.specs.Contents.{shard_refusal}
use Rattle.service.specs.Routes.{routed}
use Rattle.service.specs.ServiceViews.{Service}
use Rattle.service.proofs.RouteLemmas.{served-via}
use Rattle.service.proofs.service.Service.serve_named.Goals as goal

pub returns-in-Ok : goal.returns-in-Ok
returns-in-Ok g c =
    let x = c.args.self.now in
    let shard = c.args.shard in
    let route = c.shard_route-route.ensures.route ∙ ap (λ (y : Service). routed (shard_refusal y.settings shard) shard) c.self.view_is in
    let done = served-via x c.args.pass.now c.serve_on.new.pass _ (shard_refusal x.settings shard) shard c.args.asked _ c.requires route c.in-Ok.ensures in
    record { own = done.own; named = done.named; hints = done.hints; ok = done.ok; err = tt }

pub returns : goal.returns
returns g c =
    let x = c.args.self.now in
    let shard = c.args.shard in
    let route = c.shard_route-route.ensures.route ∙ ap (λ (y : Service). routed (shard_refusal y.settings shard) shard) c.self.view_is in
    let done = served-via x c.args.pass.now c.serve_on.new.pass _ (shard_refusal x.settings shard) shard c.args.asked _ c.requires route c.in-Err.ensures in
    record { own = done.own; named = done.named; hints = done.hints; ok = tt; err = done.err }
