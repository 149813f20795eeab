use Rattle.std.proofs.Common.{◌∙◌, refl, subst, sym}
use Rattle.service_model_types.specs.declared.transfer.Transfer.{Transfer}
use Rattle.service.specs.CallRequests.{to_acknowledge}
use Rattle.service.specs.Services.{IsServedAtLast, known_by}
use Rattle.service.specs.TransferTurns.{Acknowledges, AfterDelivery}
use Rattle.shard_gate.specs.GateViews.{SeenGrounds}
use Rattle.service.proofs.GroundLemmas.{delivery-grounds}
use Rattle.service.proofs.TransferLemmas.{not-acknowledged}
use Rattle.service.proofs.service.Service.deliver.Goals as goal

pub returns-in_err-acknowledge-clause-err : goal.returns-in_err-acknowledge-clause-err
returns-in_err-acknowledge-clause-err g c =
    let x = c.args.self.now in
    let v = known_by c.args.pass.now in
    let met = known_by c.serve_there.new.pass in
    let w = known_by c.acknowledge.new.pass in
    let step = subst (λ q. IsServedAtLast x v met c.args.turn.to q c.in_ok-reply.reply) c.request-asked.ensures c.in_ok-reply.ensures.ok in
    not-acknowledged c.from_residual-in_err-acknowledge.result x c.args.turn c.args.transfer v met w c.in_ok-reply.reply step (sym c.goes_on.ensures ∙ c.if-not-goes_on.false) c.in_err-acknowledge.ensures.err

pub serve_there-requires-clause-grounds : goal.serve_there-requires-clause-grounds
serve_there-requires-clause-grounds g c = subst (λ q. SeenGrounds (known_by c.args.pass.now) c.args.turn.to q) (sym c.request-asked.ensures) c.requires.grounds

pub acknowledge-requires-clause-grounds : goal.acknowledge-requires-clause-grounds
acknowledge-requires-clause-grounds g c =
    let x = c.args.self.now in
    let v = known_by c.args.pass.now in
    let met = known_by c.serve_there.new.pass in
    let step = subst (λ q. IsServedAtLast x v met c.args.turn.to q c.in_ok-reply.reply) c.request-asked.ensures c.in_ok-reply.ensures.ok in
    let grounds = delivery-grounds x c.requires.own.opened v met c.args.turn.from c.args.turn.to c.args.turn.at c.args.turn.stop c.in_ok-reply.reply c.args.transfer step c.requires.source c.requires.grounds (sym c.goes_on.ensures ∙ c.if-not-goes_on.false) in
    subst (λ (t : Transfer). SeenGrounds met c.args.turn.from (to_acknowledge c.args.turn.at c.args.turn.to t.number)) (sym c.get.ensures) grounds

pub returns-then-not-goes_on-clause-ok : goal.returns-then-not-goes_on-clause-ok
returns-then-not-goes_on-clause-ok g c =
    let x = c.args.self.now in
    let v = known_by c.args.pass.now in
    let met = known_by c.serve_there.new.pass in
    record {
      met = met;
      step = subst (λ q. IsServedAtLast x v met c.args.turn.to q c.in_ok-reply.reply) c.request-asked.ensures c.in_ok-reply.ensures.ok;
      rest = subst (λ b. AfterDelivery x c.args.turn c.args.transfer.number b met met) (sym c.if-not-goes_on.true ∙ c.goes_on.ensures) refl;
    }

pub returns-clause-ok : goal.returns-clause-ok
returns-clause-ok g c =
    let x = c.args.self.now in
    let v = known_by c.args.pass.now in
    let met = known_by c.serve_there.new.pass in
    let w = known_by c.acknowledge.new.pass in
    let counted = subst (λ (t : Transfer). Acknowledges x c.args.turn t.number met w) c.get.ensures c.in_ok-acknowledge.ensures.ok in
    record {
      met = met;
      step = subst (λ q. IsServedAtLast x v met c.args.turn.to q c.in_ok-reply.reply) c.request-asked.ensures c.in_ok-reply.ensures.ok;
      rest = subst (λ b. AfterDelivery x c.args.turn c.args.transfer.number b met w) (sym c.if-not-goes_on.false ∙ c.goes_on.ensures) counted;
    }
