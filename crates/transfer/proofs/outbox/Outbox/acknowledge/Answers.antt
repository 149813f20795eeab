use Rattle.transfer.proofs.OutboxLemmas.{outgoing-acknowledged, room_to-kept}
use Rattle.transfer.proofs.outbox.Outbox.acknowledge.Goals as goal

pub returns-clause-counted : goal.returns-clause-counted
returns-clause-counted c = outgoing-acknowledged _ _ _ _ _ _ c.self.view_is c.from.ensures c.index_mut-log.ensures.value c.requires _ c.acknowledge.ensures.waiting

pub returns-clause-room : goal.returns-clause-room
returns-clause-room c = room_to-kept _ _ _ _ _ _ c.self.view_is c.from.ensures c.index_mut-log.ensures.value c.requires c.acknowledge.ensures.room
