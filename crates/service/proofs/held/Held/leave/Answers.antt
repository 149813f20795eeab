use Rattle.std.proofs.Common.{subst, sym}
use Rattle.service.specs.HeldPasses.{IsHeldBy}
use Rattle.service.specs.ServiceViews.{Held}
use Rattle.service.proofs.held.Held.leave.Goals as goal

pub returns-clause-own : goal.returns-clause-own
returns-clause-own g c = λ x held.
    let here = subst (λ (h : Held). IsHeldBy h x) (sym c.self.view_is) held in
    record { opened = here.opened; own = c.leave-inner.ensures.own x.gate here.own; hints = here.hints }
