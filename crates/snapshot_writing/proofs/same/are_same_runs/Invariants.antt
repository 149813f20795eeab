use Rattle.std.proofs.Common.{◌≡◌, ℕ, ◌<◌}
use Rattle.shard_store.specs.ShardView.{run_in}
use Rattle.snapshot_writing.proofs.same.are_same_runs.Given as goal

abbrev pub invariant-loop-index : goal.invariant-loop-index
invariant-loop-index g l = (m : ℕ) → m < l.index → run_in l.one m ≡ run_in l.other m
