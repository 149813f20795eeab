use Rattle.std.proofs.Common.{arith}
use Rattle.checkpoints.proofs.FaultLemmas.{large-service, long-retention, many-shards, past-shards, span-long}
use Rattle.checkpoints.proofs.restored.setup_in.Goals as goal
use Rattle.checkpoints.proofs.restored.setup_in.Goals.{then-settings-gt-MOST_SHARDS-via-then-settings-gt-MOST_SHARDS, then-settings-gt-MOST_SHARDS-via-else-settings-gt-MOST_SHARDS+then-shard-settings, then-settings-gt-MOST_SHARDS-via-else-settings-gt-MOST_SHARDS+else-shard-settings+then-settings}

pub returns-then-settings-gt-MOST_SHARDS-clause-none : goal.returns-then-settings-gt-MOST_SHARDS-clause-none
returns-then-settings-gt-MOST_SHARDS-clause-none c =
    elim c.then-settings-gt-MOST_SHARDS.branch [
      | then-settings-gt-MOST_SHARDS-via-then-settings-gt-MOST_SHARDS w ↦ many-shards c.args.settings.now c.args.shard (omega (arith, w.if-settings-gt-MOST_SHARDS.true))
      | then-settings-gt-MOST_SHARDS-via-else-settings-gt-MOST_SHARDS+then-shard-settings w ↦ past-shards c.args.settings.now c.args.shard (omega (arith, w.if-shard-settings.true))
      | then-settings-gt-MOST_SHARDS-via-else-settings-gt-MOST_SHARDS+else-shard-settings+then-settings w ↦ large-service c.args.settings.now c.args.shard (omega (arith, w.if-settings.true))
    ]

pub returns-in_default-clause-none : goal.returns-in_default-clause-none
returns-in_default-clause-none c = long-retention c.args.settings.now c.args.shard (span-long _ c.args.settings.now.retention c.new.result c.in_default.field-0 c.new.ensures c.in_default.is)
