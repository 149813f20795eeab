use Rattle.std.proofs.Common.{subst, sym}
use Rattle.service.specs.Services.{IsServedAtLast, known_by}
use Rattle.service.proofs.ServedLemmas.{weaker}
use Rattle.shard_gate.specs.GateViews.{SeenGrounds}
use Rattle.service.proofs.GroundLemmas.{read-grounds}
use Rattle.service.proofs.TransferLemmas.{then-delivered, then-kept}
use Rattle.service.proofs.service.Service.transfer.Goals as goal

pub returns-clause-ok : goal.returns-clause-ok
returns-clause-ok g c =
    let x = c.args.self.now in
    let v = known_by c.args.pass.now in
    let met = known_by c.serve_there.new.pass in
    let w = known_by c.deliver.new.pass in
    let step = subst (λ q. IsServedAtLast x v met c.args.turn.from q c.in_ok-next.next) c.request-asked.ensures c.in_ok-next.ensures.ok in
    weaker c.deliver.result _ _ (λ r done. then-delivered x c.args.turn c.in-Ok.transfer v met w c.in_ok-next.next r step c.in-Ok.ensures c.in_default.not-AfterFirstPart done) c.deliver.ensures.ok

pub returns-clause-err : goal.returns-clause-err
returns-clause-err g c =
    let x = c.args.self.now in
    let v = known_by c.args.pass.now in
    let met = known_by c.serve_there.new.pass in
    let w = known_by c.deliver.new.pass in
    let step = subst (λ q. IsServedAtLast x v met c.args.turn.from q c.in_ok-next.next) c.request-asked.ensures c.in_ok-next.ensures.ok in
    then-kept c.deliver.result x c.args.turn c.in-Ok.transfer v met w c.in_ok-next.next step c.in-Ok.ensures c.deliver.ensures.err

pub serve_there-requires-clause-grounds : goal.serve_there-requires-clause-grounds
serve_there-requires-clause-grounds g c = subst (λ q. SeenGrounds (known_by c.args.pass.now) c.args.turn.from q) (sym c.request-asked.ensures) tt

pub deliver-requires-clause-source : goal.deliver-requires-clause-source
deliver-requires-clause-source g c =
    let x = c.args.self.now in
    let v = known_by c.args.pass.now in
    let met = known_by c.serve_there.new.pass in
    let step = subst (λ q. IsServedAtLast x v met c.args.turn.from q c.in_ok-next.next) c.request-asked.ensures c.in_ok-next.ensures.ok in
    (read-grounds x c.requires.own.opened v met c.args.turn.from c.args.turn.to c.args.turn.at c.in_ok-next.next c.in-Ok.transfer step c.in-Ok.ensures).0

pub deliver-requires-clause-grounds : goal.deliver-requires-clause-grounds
deliver-requires-clause-grounds g c =
    let x = c.args.self.now in
    let v = known_by c.args.pass.now in
    let met = known_by c.serve_there.new.pass in
    let step = subst (λ q. IsServedAtLast x v met c.args.turn.from q c.in_ok-next.next) c.request-asked.ensures c.in_ok-next.ensures.ok in
    (read-grounds x c.requires.own.opened v met c.args.turn.from c.args.turn.to c.args.turn.at c.in_ok-next.next c.in-Ok.transfer step c.in-Ok.ensures).1
