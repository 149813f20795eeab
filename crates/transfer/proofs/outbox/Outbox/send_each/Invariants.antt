use Rattle.std.proofs.Common.{◌≡◌, length}
use Rattle.std.specs.Vec.Iter.{into_iter_items, into_iter_len}
use Rattle.transfer.specs.Outboxes.{outgoing, with_all_sent, HasRoomFor}
use Rattle.transfer.proofs.outbox.Outbox.send_each.Given as goal

abbrev pub invariant-loop-one : goal.invariant-loop-one
invariant-loop-one l =
    (goal.iterator-loop-one).can_next l.one-iterator
    × (goal.iterator-loop-one).is_finite l.one-iterator
    × (with_all_sent (into_iter_items l.one-iterator) 0 (outgoing l.self) ≡ with_all_sent l.fn.sent.items 0 (outgoing l.initial.self))
    × (length l.self ≡ length l.initial.self)
    × HasRoomFor l.self (into_iter_items l.one-iterator)
    × (length (into_iter_items l.one-iterator) ≡ into_iter_len l.one-iterator)
