use Rattle.std.proofs.Common.{refl}
use Rattle.transfer.proofs.OutboxLemmas.{outgoing-same, room_to-kept, room_to-there}
use Rattle.transfer.proofs.outbox.Outbox.reserve_at.Goals as goal

pub returns-clause-same : goal.returns-clause-same
returns-clause-same c = outgoing-same _ _ _ _ _ _ c.self.view_is refl c.index_mut-log.ensures.value c.requires c.reserve.ensures.waiting

pub returns-clause-ok : goal.returns-clause-ok
returns-clause-ok c = rw (room_to-there _ _ _ _ _ _ c.self.view_is refl c.index_mut-log.ensures.value c.requires) c.reserve.ensures.ok

pub returns-clause-room : goal.returns-clause-room
returns-clause-room c = room_to-kept _ _ _ _ _ _ c.self.view_is refl c.index_mut-log.ensures.value c.requires c.reserve.ensures.room
