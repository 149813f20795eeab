use Rattle.std.proofs.Common.{◌≡◌, ℕ, ◌<◌}
use Rattle.std.specs.Prelude.{slice_get}
use Rattle.transfer.specs.Outboxes.{waiting_to}
use Rattle.snapshot_writing.proofs.same.are_same_transfers_to.Given as goal

abbrev pub invariant-loop-index : goal.invariant-loop-index
invariant-loop-index g l = (m : ℕ) → m < l.index → slice_get (waiting_to l.one.outgoing l.to).items m ≡ slice_get (waiting_to l.other.outgoing l.to).items m
