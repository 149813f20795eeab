use Rattle.std.proofs.Common.{◌≤◌}
use Rattle.shard_snapshot.specs.SoFar.{IsSoFar}
use Rattle.shard_snapshot.proofs.text.restore.Given as goal

abbrev pub invariant-loop-count : goal.invariant-loop-count
invariant-loop-count g l = record {
  so_far : IsSoFar l.fn.setup (g.R.Read.remaining l.fn.reader.inner) (g.R.Read.remaining l.reader.inner) l.ahead l.count l.shard;
  grows : l.fn.reader.failures ≤ l.reader.failures;
}
