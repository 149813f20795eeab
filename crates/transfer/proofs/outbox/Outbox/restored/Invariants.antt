use Rattle.std.proofs.Common.{◌≡◌, take}
use Rattle.std.specs.Prelude.{map}
use Rattle.transfer.specs.Logs.{counted_off}
use Rattle.transfer.specs.Outboxes.{outgoing}
use Rattle.transfer.proofs.outbox.Outbox.restored.Given as goal

abbrev pub invariant-loop-count : goal.invariant-loop-count
invariant-loop-count l = outgoing l.logs.items ≡ map counted_off (take l.count-index l.acknowledged)
