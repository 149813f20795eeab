use Rattle.std.proofs.Common.{◌≡◌, length, replicate}
use Rattle.transfer.specs.Logs.{none_waits}
use Rattle.transfer.specs.Outboxes.{outgoing}
use Rattle.transfer.proofs.outbox.Outbox.new.Given as goal

abbrev pub invariant-loop-shard : goal.invariant-loop-shard
invariant-loop-shard l = (outgoing l.logs.items ≡ replicate l._shard none_waits) × (length l.logs.items ≡ l._shard)
