use Rattle.std.proofs.Common.{◌≡◌, ◌-◌, ◌≤◌, ◌++◌, replicate}
use Rattle.service_model.specs.RunState.{no_run}
use Rattle.shard_store.specs.ShardView.{state, states}
use Rattle.shard_store.proofs.store.Store.restore_gone.Given as goal

abbrev pub invariant-loop-left : goal.invariant-loop-left
invariant-loop-left g l = record {
  state : state l.self ≡ record (state l.initial.self) { runs = states l.initial.self.runs ++ replicate (l.initial.left - l.left) no_run };
  left : l.left ≤ l.initial.left;
}

abbrev pub decreases-loop-left : goal.decreases-loop-left
decreases-loop-left g l = l.left
