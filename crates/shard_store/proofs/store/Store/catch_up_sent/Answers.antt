use Rattle.std.proofs.Common.{◌∙◌, ap, sym, subst, length}
use Rattle.std.specs.Prelude.{option_to_list}
use Rattle.shard_issued.specs.Issuing.{all_waiting}
use Rattle.shard_issued.specs.Sending.{TransfersView, KeepsTransfers}
use Rattle.shard_issued.proofs.SendingLemmas.{answer-looked-up, length-sent}
use Rattle.shard_store.specs.ShardView.{ShardView, state, states}
use Rattle.shard_store.proofs.OutgoingLemmas.{both-moved}
use Rattle.shard_store.proofs.store.Store.catch_up_sent.Goals as goal

pub invariant_of-self-2 : goal.invariant_of-self-2
invariant_of-self-2 g c =
    let t = c.self.inside in
    let h = c.self.invariant in (
      h.0,
      h.1,
      h.2,
      h.3,
      h.4,
      subst (KeepsTransfers t.setup.shards (length t.runs.items)) (sym c.in_ok-send_answer.ensures.ok)
          (record { sent = length-sent (option_to_list t.transfers.answer) 0 t.transfers.sent ∙ h.5.sent; accepted = h.5.accepted; unsent = h.5.unsent }),
    )

pub returns-clause-same : goal.returns-clause-same
returns-clause-same g c =
    let t = c.self.inside in
    let runs = states t.runs.items in
    let none = ap (λ (v : ShardView). v.changed.unsent) c.self.view_is ∙ c.in_ok-catch_up_unsent.ensures.caught_up in
    both-moved t.setup runs t.last (all_waiting t.setup t.dispatches t.changed runs) (answer-looked-up t.setup t.transfers c.send_answer.new.self runs none c.in_ok-send_answer.ensures.ok) (ap (λ (x : TransfersView). x.accepted) c.in_ok-send_answer.ensures.ok)
    ∙ ap state c.self.view_is ∙ c.in_ok-catch_up_unsent.ensures.same
