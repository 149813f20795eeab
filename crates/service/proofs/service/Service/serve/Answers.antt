use Rattle.std.proofs.Common.{◌∙◌, ap}
use Rattle.service.specs.Contents.{refusal_of}
use Rattle.service.specs.Routes.{routed}
use Rattle.service.specs.Services.{shard_of_request}
use Rattle.service.proofs.RouteLemmas.{served-via}
use Rattle.service.proofs.service.Service.serve.Goals as goal

pub returns : goal.returns
returns g c =
    let x = c.args.self.now in
    let route = c.route-route.ensures.route ∙ ap (λ q. routed (refusal_of x.settings q.operation) (shard_of_request x q)) c.request.ensures in
    served-via x c.args.pass.now c.serve_on.new.pass _ _ _ c.args.request _ c.requires route c.serve_on.ensures
