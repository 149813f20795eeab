use Rattle.std.proofs.Common.{rules, arith, ◌≡◌, [], ◌∷◌, ◌++◌, ap, sym, ◌∙◌, append_assoc, append-nil}
use Rattle.std.proofs.lemmas.Grind.{common_steps}
use Rattle.std.specs.Prelude.{filter_map}
use Rattle.shard_issued.specs.Awaiting.{still_waiting}
use Rattle.shard_issued.proofs.AwaitingLemmas.{found-one, found-none, waiting-among}
use Rattle.shard_issued.proofs.awaiting.waiting_tasks.Goals as goal

pub loop-dispatch-preserved-in-Continue-branch-5 : goal.loop-dispatch-preserved-in-Continue-branch-5
loop-dispatch-preserved-in-Continue-branch-5 g c =
    let f = still_waiting c.args.setup.now c.args.ordinal c.args.run.now.state in
    let d = c.in-Some.dispatch in (
      c.in_ok-push.ensures.items ∙ ap (λ l. l ++ c.in-Some-2.found ∷ []) c.loop-dispatch.invariant.0
          ∙ sym (found-one f c.loop-dispatch.yielded d c.in-Some-2.found (sym c.in_ok-found.ensures ∙ c.in-Some-2.is)),
      c.loop-dispatch.invariant.1 ∙ ap (λ l. c.loop-dispatch.yielded ++ l) c.in-Some.ensures.steps.0 ∙ sym (append_assoc c.loop-dispatch.yielded (d ∷ []) c.next.new.self.rest.items),
    )

pub loop-dispatch-preserved : goal.loop-dispatch-preserved
loop-dispatch-preserved g c =
    let f = still_waiting c.args.setup.now c.args.ordinal c.args.run.now.state in
    let d = c.in-Some.dispatch in (
      c.loop-dispatch.invariant.0 ∙ sym (found-none f c.loop-dispatch.yielded d (sym c.in_ok-found.ensures ∙ c.in_default.is)),
      c.loop-dispatch.invariant.1 ∙ ap (λ l. c.loop-dispatch.yielded ++ l) c.in-Some.ensures.steps.0 ∙ sym (append_assoc c.loop-dispatch.yielded (d ∷ []) c.next.new.self.rest.items),
    )

pub returns : goal.returns
returns g c =
    let s = c.args.run.now.state in
    let none : c.loop-dispatch.dispatch-iterator.rest.items ≡ [] = first_of (search rules, grind (arith, common_steps)) in
    let all = c.loop-dispatch.invariant.1 ∙ (ap (λ l. c.loop-dispatch.yielded ++ l) none ∙ append-nil c.loop-dispatch.yielded) in
    c.loop-dispatch.invariant.0 ∙ sym (ap (filter_map (still_waiting c.args.setup.now c.args.ordinal s)) all) ∙ waiting-among c.args.setup.now c.args.ordinal s s.shown
