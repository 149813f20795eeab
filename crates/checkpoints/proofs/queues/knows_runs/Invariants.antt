use Rattle.std.proofs.Common.{◌≡◌, ℕ, ◌<◌, slice_index_or, true}
use Rattle.service_model.specs.RunState.{no_run}
use Rattle.shard_store.specs.ShardView.{states}
use Rattle.checkpoints.specs.Queues.{knows_run}
use Rattle.checkpoints.proofs.queues.knows_runs.Given as goal

abbrev pub invariant-loop-index : goal.invariant-loop-index
invariant-loop-index g l = (k : ℕ) → k < l.index → knows_run l.store.setup (slice_index_or (states l.store.runs) k no_run) ≡ true
