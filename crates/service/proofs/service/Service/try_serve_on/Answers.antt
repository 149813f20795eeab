use Rattle.std.proofs.Common.{◌≡◌, ◌<◌, Err, Ok, ap, arith, refl, subst, sym}
use Rattle.std.specs.Prelude.{IfErr, IfOk}
use Rattle.service_model.specs.Growth.{KeepsHistories}
use Rattle.service_model.specs.Service.{after, answer}
use Rattle.gate.specs.Passes.{Stepped}
use Rattle.shard_gate.specs.GateViews as gates
use Rattle.service.specs.Routes.{IsTriedVia}
use Rattle.service.specs.ServiceViews.{Service}
use Rattle.service.proofs.ServedLemmas.{needs-nothing, tried}
use Rattle.service.proofs.service.Service.try_serve_on.Goals as goal

pub try_step-requires-clause-slot : goal.try_step-requires-clause-slot
try_step-requires-clause-slot g c =
    let below = subst (λ r. IfOk r (λ slot. slot < c.args.self.now.settings.shards)) c.in-Ok.is c.requires.there in
    let slots = ap (λ (x : Service). gates.slots x.gate) c.self.view_is in
    omega (arith, below, c.requires.own.opened.slots, slots)

pub returns-in-Err : goal.returns-in-Err
returns-in-Err g c =
    let x = c.args.self.now in
    let p = c.args.pass.now in
    subst (λ r. IsTriedVia x p p r c.args.request (Ok (Err c.in-Err.refusal))) (sym c.in-Err.is) (refl, refl)

pub returns-in-Ok : goal.returns-in-Ok
returns-in-Ok g c =
    let same = c.into_request.ensures.same in
    let x = c.args.self.now in
    let p = c.args.pass.now in
    let v = c.pass.inside.inner.known in
    let w = c.try_step.new.pass in
    let served = tried _ x _ p w c.self.view_is c.pass.view_is c.in-Ok.slot c.args.request c.try_step.result c.requires.own
    c.try_step.ensures.own c.try_step.ensures.named
    (subst (λ q. IfOk c.try_step.result (λ r. Stepped after answer KeepsHistories v w.known c.in-Ok.slot q r)) same c.try_step.ensures.ok)
    c.try_step.ensures.ticket
    (subst (λ q. IfErr c.try_step.result (λ e. e.1 ≡ q)) same c.try_step.ensures.back)
    c.try_step.ensures.err in
    subst (λ r. IsTriedVia x p (record { inner = w; hints = c.pass.inside.hints }) r c.args.request c.try_step.result) (sym c.in-Ok.is) served

pub try_step-requires-clause-grounds : goal.try_step-requires-clause-grounds
try_step-requires-clause-grounds g c = needs-nothing _ c.in-Ok.slot c.into_request.result.operation c.into_request.ensures.clients
