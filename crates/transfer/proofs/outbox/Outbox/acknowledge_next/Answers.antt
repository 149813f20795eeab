use Rattle.transfer.proofs.OutboxLemmas.{outgoing-counted, room_to-kept}
use Rattle.transfer.proofs.outbox.Outbox.acknowledge_next.Goals as goal

pub returns-clause-counted : goal.returns-clause-counted
returns-clause-counted c = outgoing-counted _ _ _ _ _ _ c.self.view_is c.from.ensures c.index_mut-log.ensures.value c.requires.there c.acknowledge_next.ensures.waiting

pub returns-clause-room : goal.returns-clause-room
returns-clause-room c = room_to-kept _ _ _ _ _ _ c.self.view_is c.from.ensures c.index_mut-log.ensures.value c.requires.there c.acknowledge_next.ensures.room
