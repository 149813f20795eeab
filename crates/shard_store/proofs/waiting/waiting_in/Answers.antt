use Rattle.std.proofs.Common.{ap, append-nil, ◌∙◌, ◌+◌, sym, arith, take, ◌++◌}
use Rattle.std.proofs.Math.ListN.{get_or}
use Rattle.service_model.specs.Waiting.{all_waiting, waiting_of}
use Rattle.mutable_state.specs.RunView.{RunView}
use Rattle.shard_store.specs.ShardView.{states}
use Rattle.shard_store.proofs.PlaceLemmas.{none-waits}
use Rattle.shard_store.proofs.WaitingLemmas.{next-wait, all-wait}
use Rattle.shard_store.proofs.waiting.waiting_in.Goals as goal

pub loop-index-preserved-in_default : goal.loop-index-preserved-in_default
loop-index-preserved-in_default g c =
    let i = c.loop-index.index in
    let setup = c.args.setup.now in
    let runs = c.args.runs.now.items in
    let so_far = all_waiting setup (states (take i runs)) in
    c.loop-index.invariant ∙ sym (append-nil so_far)
    ∙ ap (λ l. so_far ++ l) (sym (none-waits setup (i + 1)) ∙ ap (λ (r : RunView). waiting_of setup (i + 1) r.state) (sym c.in_default.ensures.none ∙ c.index-place.ensures))
    ∙ sym (next-wait setup runs i c.index-place.result.now (omega arith))

pub loop-index-preserved : goal.loop-index-preserved
loop-index-preserved g c =
    let i = c.loop-index.index in
    let so_far = c.loop-index.waiting.items in
    c.in_ok-append.ensures.items ∙ ap (λ l. so_far ++ l) (c.in_ok-found.ensures ∙ ap (λ (r : RunView). waiting_of c.args.setup.now (i + 1) r.state) (c.in-Some.ensures.run ∙ c.index-place.ensures))
    ∙ ap (λ l. l ++ waiting_of c.args.setup.now (i + 1) (get_or c.args.runs.now.items i c.index-place.result.now).state) c.loop-index.invariant
    ∙ sym (next-wait c.args.setup.now c.args.runs.now.items i c.index-place.result.now (omega arith))

pub returns : goal.returns
returns g c = c.loop-index.invariant ∙ ap (λ rs. all_waiting c.args.setup.now (states rs)) (all-wait c.args.runs.now.items c.loop-index.index (omega arith))
