use Rattle.std.proofs.Common.{◌∙◌, ap}
use Rattle.transfer.specs.Outboxes.{counted_to}
use Rattle.shard_issued.specs.Sending.{TransfersView}
use Rattle.shard_issued.proofs.transfers.Transfers.acknowledge.Goals as goal

pub returns : goal.returns
returns c =
    let t = c.self.inside in
    ap (λ l. record { sent = l; accepted = t.inbox; unsent = t.unsent; answer = t.answer }) c.acknowledge_next.ensures.counted
    ∙ ap (λ (v : TransfersView). record v { sent = counted_to v.sent c.args.to }) c.self.view_is
