use Rattle.std.proofs.Common.{subst, sym}
use Rattle.shard_gate.specs.GateViews.{SeenGrounds}
use Rattle.service.specs.Services.{known_by}
use Rattle.service.proofs.service.Service.acknowledge.Goals as goal

pub serve_there-requires-clause-grounds : goal.serve_there-requires-clause-grounds
serve_there-requires-clause-grounds g c = subst (λ q. SeenGrounds (known_by c.args.pass.now) c.args.turn.from q) (sym c.request-asked.ensures) c.requires.grounds
