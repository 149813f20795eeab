use Rattle.std.proofs.Common.{◌≡◌, ◌+◌, ◌-◌, ◌≤◌, ◌++◌, ap, arith, replicate, ◌∙◌, List}
use Rattle.std.proofs.lemmas.List.{append_assoc, replicate-append-replicate}
use Rattle.service_model.specs.RunState.{RunState, no_run}
use Rattle.shard_store.specs.ShardView.{ShardState, ShardView, state, states}
use Rattle.shard_store.proofs.store.Store.restore_gone.Goals as goal

pub loop-left-preserved : goal.loop-left-preserved
loop-left-preserved g c =
    let before : ShardView = c.args.self.now in
    let some = c.min-some.result in
    let done = c.args.count - c.loop-left.left in
    let small : some ≤ c.loop-left.left = omega (arith, c.min-some.ensures) in
    let sum : done + some ≡ c.args.count - (c.loop-left.left - some) = omega (arith, small, c.loop-left.invariant.left) in
    let grown : ShardState → ShardState = λ s. record s { runs = s.runs ++ replicate some no_run } in
    let with_runs : List RunState → ShardState = λ l. record (state before) { runs = l } in
    record {
      state =
          c.add_gone.ensures ∙ ap grown (c.in_ok-reserve_runs.ensures.same ∙ c.loop-left.invariant.state)
          ∙ ap with_runs (append_assoc (states before.runs) (replicate done no_run) (replicate some no_run)
          ∙ ap (λ l. states before.runs ++ l) (replicate-append-replicate done some no_run ∙ ap (λ n. replicate n no_run) sum));
      left = omega (arith, c.loop-left.invariant.left);
    }
