use Rattle.std.proofs.Common.{◌≡◌, length}
use Rattle.gate.specs.Records.{Each}
use Rattle.checkpoints.specs.Restored.{IsRestored}
use Rattle.wfserve_run.proofs.loading.load_all.Given as goal

abbrev pub invariant-loop-shard : goal.invariant-loop-shard
invariant-loop-shard g l = record {
  count : length l.shards.items ≡ l.shard;
  each : Each l.shards.items (λ k r. IsRestored g.S.Object.stands l.settings k r);
}
