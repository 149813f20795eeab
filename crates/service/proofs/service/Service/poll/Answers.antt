use Rattle.std.proofs.Common.{subst, sym}
use Rattle.std.specs.Prelude.{Ok, Some}
use Rattle.matching.specs.Named.{Pops, known_by as waits_by}
use Rattle.service.specs.CallRequests.{to_start_task}
use Rattle.service.specs.Services.{IsServedAtLast, hints_by, known_by}
use Rattle.service.specs.Turns.{place_of}
use Rattle.service.specs.ServiceViews.{Pass, Service}
use Rattle.service.proofs.TurnLemmas.{polled}
use Rattle.service.proofs.service.Service.poll.Goals as goal

pub returns-in-Ok-clause-ok : goal.returns-in-Ok-clause-ok
returns-in-Ok-clause-ok g c =
    let x = c.args.self.now in
    let o = place_of x c.args.queue.now in
    let one = c.in-Ok-Some in
    let now = waits_by c.pop_hint.new.pass in
    let by_queues = subst (λ (y : Service). Pops (place_of y c.args.queue.now) c.args.kind (waits_by c.pass.inside.hints) now (Ok one.field-0)) c.self.view_is one.ensures.popped in
    let by_pass = subst (λ (q : Pass). Pops o c.args.kind (hints_by q) now (Ok one.field-0)) c.pass.view_is by_queues in
    let found = subst (λ f. Pops o c.args.kind (hints_by c.args.pass.now) now (Ok f)) one.field-0-is by_pass in
    let popped = subst (λ ws. Pops o c.args.kind (hints_by c.args.pass.now) ws (Ok (Some one.hint))) (sym c.in-Ok.ensures.hints) found in
    let served = subst (λ (q : Pass). IsServedAtLast x (known_by q) (known_by c.start_taken.new.pass) one.hint.shard (to_start_task c.args.at one.hint) c.in-Ok.reply) c.pass.view_is c.in-Ok.ensures.ok in
    polled x o c.args.kind c.args.at _ _ _ _ one.hint c.in-Ok.reply popped served

pub returns-in-Ok-clause-err : goal.returns-in-Ok-clause-err
returns-in-Ok-clause-err g c = tt
