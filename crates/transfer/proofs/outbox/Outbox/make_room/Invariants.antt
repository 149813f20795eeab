use Rattle.std.proofs.Common.{◌≡◌, ℕ, ◌<◌, ◌≤◌, length}
use Rattle.transfer.specs.Outboxes.{outgoing, room_to, sent_to}
use Rattle.transfer.proofs.outbox.Outbox.make_room.Given as goal

abbrev pub invariant-loop-to : goal.invariant-loop-to
invariant-loop-to l =
    (outgoing l.self ≡ outgoing l.initial.self)
    × (length l.self ≡ length l.initial.self)
    × ((k : ℕ) → k < l.to → length (sent_to l.fn.sent k) ≤ room_to l.self k)
