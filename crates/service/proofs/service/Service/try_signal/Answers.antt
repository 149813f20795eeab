use Rattle.std.proofs.Common.{subst}
use Rattle.service.specs.Services.{IsTried}
use Rattle.service.proofs.service.Service.try_signal.Goals as goal

pub returns : goal.returns
returns g c = subst (λ q. IsTried c.args.self.now c.args.pass.now c.try_serve.new.pass q c.try_serve.result) c.asked_by_client.ensures c.try_serve.ensures
