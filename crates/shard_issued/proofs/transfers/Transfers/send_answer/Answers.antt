use Rattle.std.proofs.Common.{◌∙◌, ap, sym, List}
use Rattle.transfer.specs.Outboxes.{issued_to, outgoing}
use Rattle.service_model_types.specs.declared.transfer.TransferContent.{TransferContent}
use Rattle.transfer.specs.Logs.{Waiting}
use Rattle.shard_issued.specs.Sending.{TransfersView}
use Rattle.shard_issued.proofs.SendingLemmas.{answer-issued, no-answer, with_answer_sent}
use Rattle.shard_issued.proofs.transfers.Transfers.send_answer.Goals as goal

pub returns-in_default-clause-ok : goal.returns-in_default-clause-ok
returns-in_default-clause-ok c = no-answer c.args.self.now (ap (λ (v : TransfersView). v.answer) (sym c.self.view_is) ∙ c.in_default.is)

pub returns-in-Some-take-clause-ok : goal.returns-in-Some-take-clause-ok
returns-in-Some-take-clause-ok c =
    let t = c.self.inside in
    let a = c.in-Some-take.answer in
    let before : TransfersView = record { sent = outgoing t.outbox; accepted = t.inbox; unsent = t.unsent; answer = t.answer } in
    answer-issued before a (outgoing c.send.new.self) c.take.new.self (sym c.take.ensures.value ∙ c.in-Some-take.is)
    (c.send.ensures.issued ∙ ap (λ (l : List (Waiting TransferContent)). issued_to l a.to a.content) c.in_ok-make_room.ensures.same) c.take.ensures.after
    ∙ ap with_answer_sent c.self.view_is
