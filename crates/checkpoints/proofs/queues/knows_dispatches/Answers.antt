use Rattle.std.proofs.Common.{◌≡◌, sym, arith, rules, Some, false}
use Rattle.std.specs.Prelude.{slice_get}
use Rattle.std.proofs.lemmas.Option.{slice_get_within}
use Rattle.service_model_types.specs.Routing.{knows_queue}
use Rattle.service_model_types.specs.declared.content.Dispatch.{Dispatch}
use Rattle.checkpoints.proofs.QueueLemmas.{all-got-pass, got-fails}
use Rattle.checkpoints.proofs.queues.knows_dispatches.Goals as goal

pub returns-then-not-knows_queue : goal.returns-then-not-knows_queue
returns-then-not-knows_queue g c =
    let here : slice_get c.args.store.now.waiting.items c.loop-index.index ≡ Some c.in-Some.dispatch.now = search rules in
    let fails : knows_queue c.args.store.now.setup c.in-Some.dispatch.now.queue ≡ false = search rules in
    sym (got-fails (λ (d : Dispatch). knows_queue c.args.store.now.setup d.queue) c.args.store.now.waiting.items c.loop-index.index c.in-Some.dispatch.now here fails)

pub returns : goal.returns
returns g c =
    sym (all-got-pass (λ (d : Dispatch). knows_queue c.args.store.now.setup d.queue) c.args.store.now.waiting.items (λ k d got. c.loop-index.invariant k d
    (let low = slice_get_within c.args.store.now.waiting.items k d got in omega (arith, low, c.loop-index-test.false, c.waiting_dispatches-index-end.ensures, c.loop-index.auto)) got))
