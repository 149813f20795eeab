use Rattle.std.proofs.Common.{◌≡◌, ℕ, ◌<◌}
use Rattle.transfer.specs.Outboxes.{waiting_to}
use Rattle.snapshot_writing.proofs.same.are_same_transfers.Given as goal

abbrev pub invariant-loop-to : goal.invariant-loop-to
invariant-loop-to g l = (m : ℕ) → m < l.to → waiting_to l.one.outgoing m ≡ waiting_to l.other.outgoing m
