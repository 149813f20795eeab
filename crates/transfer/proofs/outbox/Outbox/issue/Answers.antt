use Rattle.transfer.proofs.OutboxLemmas.{outgoing-issued, room_to-less}
use Rattle.transfer.proofs.outbox.Outbox.issue.Goals as goal

pub returns-clause-issued : goal.returns-clause-issued
returns-clause-issued c = outgoing-issued _ _ _ _ _ _ c.self.view_is c.from.ensures c.index_mut-log.ensures.value c.requires.there _ c.issue.ensures.waiting

pub returns-clause-room : goal.returns-clause-room
returns-clause-room c = room_to-less _ _ _ _ _ _ c.self.view_is c.from.ensures c.index_mut-log.ensures.value c.requires.there 1 c.issue.ensures.room
