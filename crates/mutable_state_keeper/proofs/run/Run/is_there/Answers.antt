use Rattle.std.proofs.Common.{◌∙◌, ap, sym}
use Rattle.service_model.specs.RunState.{is_there}
use Rattle.mutable_state_keeper.proofs.run.Run.is_there.Goals as goal

pub returns : goal.returns
returns g c = sym c.self.invariant ∙ ap (λ v. is_there v.state) c.self.view_is
