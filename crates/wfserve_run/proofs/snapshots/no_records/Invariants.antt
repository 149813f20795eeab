use Rattle.std.proofs.Common.{◌≡◌, length}
use Rattle.wfserve_run.proofs.snapshots.no_records.Given as goal

abbrev pub invariant-loop-shard : goal.invariant-loop-shard
invariant-loop-shard l = length l.records.items ≡ l.shard
