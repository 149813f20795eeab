use Rattle.std.proofs.Common.{rules, ◌∙◌, ap, subst, sym}
use Rattle.std.specs.Prelude.{Err}
use Rattle.matching.specs.Named.{Pushes, capacity_of, known_by as waits_by}
use Rattle.service.specs.Services.{hints_by, known_by}
use Rattle.service.specs.Turns.{AnsweredOn, place_of}
use Rattle.service.specs.ServiceViews.{Service}
use Rattle.service.specs.CallRequests.{to_next_dispatch}
use Rattle.service.proofs.TurnLemmas.{not-pushed}
use Rattle.service.proofs.service.Service.dispatch_turn.Goals as goal

pub returns-in-Err-push_hint : goal.returns-in-Err-push_hint
returns-in-Err-push_hint g c =
    let x = c.args.self.now in
    let d = c.in-Ok.taken in
    let now = waits_by c.push_hint.new.pass in
    let refused = c.in-Err-push_hint.refusal in
    let here = c.in-Err-push_hint.ensures.pushed in
    let by_queues = subst (λ (y : Service). Pushes (place_of y d.dispatch.queue) (capacity_of y.queues) (waits_by c.pass.inside.hints) now d.dispatch.hint (Err refused)) c.self.view_is here in
    let hints = ap hints_by c.pass.view_is ∙ c.in_ok-reply.ensures.hints in
    let push = subst (λ hs. Pushes (place_of x d.dispatch.queue) (capacity_of x.queues) hs now d.dispatch.hint (Err refused)) hints by_queues in
    let v = known_by c.args.pass.now in
    let next = c.in_ok-reply.reply in
    let step = subst (λ w. AnsweredOn x c.args.shard v w (to_next_dispatch c.args.at) next) (sym (ap known_by c.pass.view_is)) c.in_ok-reply.ensures.ok in
    record {
      own = search rules;
      named = search rules;
      ok = not-pushed x c.args.shard c.args.at c.args.stop d v _ (hints_by c.args.pass.now) now next refused step c.in-Ok.ensures c.in_default.not-AfterFirstPart push;
      err = tt;
    }
