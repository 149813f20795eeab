use Rattle.std.proofs.Common.{ℕ, ap, subst, arith}
use Rattle.service_model.specs.Growth.{KeepsHistories}
use Rattle.service_model.specs.Service.{after, answer}
use Rattle.gate.specs.Passes.{Stamped, SteppedAt}
use Rattle.shard_gate.specs.GateViews as gates
use Rattle.service.specs.Services.{known_by}
use Rattle.service.specs.ServiceViews.{Pass, Service}
use Rattle.service.proofs.ServedLemmas.{served-at-last}
use Rattle.service.proofs.service.Service.serve_there.Goals as goal

pub step-requires-clause-slot : goal.step-requires-clause-slot
step-requires-clause-slot g c =
    let below = c.requires.there in
    let slots = ap (λ (x : Service). gates.slots x.gate) c.self.view_is in
    omega (arith, below, c.requires.own.opened.slots, slots, c.from.ensures)

pub returns-in-Ok-clause-ok : goal.returns-in-Ok-clause-ok
returns-in-Ok-clause-ok g c =
    let w = c.step.new.pass.known in
    let same = ap (λ (p : Pass). p.inner.known) c.pass.view_is in
    let S : ℕ → Type 0 = λ s. SteppedAt after answer KeepsHistories (known_by c.args.pass.now) w s c.args.asked c.in-Ok.reply in
    let T : ℕ → Type 0 = λ s. Stamped (known_by c.args.pass.now) w s in
    let step = subst (λ v. SteppedAt after answer KeepsHistories v w c.from.result c.args.asked c.in-Ok.reply) same c.in-Ok.ensures.ok in
    let stamp = subst (λ v. Stamped v w c.from.result) same c.in-Ok.ensures.ticket in
    served-at-last c.args.pass.now w c.args.self.now c.args.shard c.args.asked c.in-Ok.reply c.requires.own (subst S c.from.ensures step) (subst T c.from.ensures stamp)
