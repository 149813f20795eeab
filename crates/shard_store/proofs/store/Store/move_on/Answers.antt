use Rattle.std.proofs.Common.{◌<◌, ◌∙◌, ap, sym, subst, length, List}
use Rattle.service_model_types.specs.declared.transfer.TransferContent.{TransferContent}
use Rattle.transfer.specs.Logs.{Waiting}
use Rattle.transfer.specs.Outboxes.{waiting_to}
use Rattle.shard_issued.specs.Issuing.{all_waiting}
use Rattle.shard_issued.specs.Sending.{TransfersView, KeepsTransfers}
use Rattle.shard_issued.proofs.SendingLemmas.{acknowledged-sends, length-counted}
use Rattle.shard_store.specs.Fitting.{MayCount, after_count}
use Rattle.shard_store.specs.ShardView.{ShardView, state, states}
use Rattle.shard_store.specs.declared.plan.Count.TheVariants.{Acknowledges}
use Rattle.shard_store.proofs.OutgoingLemmas.{all-issued, both-moved}
use Rattle.shard_store.proofs.store.Store.move_on.Goals as goal

pub acknowledge-requires-clause-some : goal.acknowledge-requires-clause-some
acknowledge-requires-clause-some g c =
    let t = c.self.inside in
    let to = c.in-Acknowledges.to in
    let may = subst (MayCount c.args.self.now) c.in-Acknowledges.is c.requires in
    let all = all-issued t.setup t.transfers (states t.runs.items) (ap (λ v. v.changed) c.self.view_is) (ap (λ v. v.outgoing) c.self.view_is) may.caught_up in
    subst (λ (l : List (Waiting TransferContent)). 0 < length (waiting_to l to).items) (sym all) may.some

pub invariant_of-self-in-Acknowledges : goal.invariant_of-self-in-Acknowledges
invariant_of-self-in-Acknowledges g c =
    let t = c.self.inside in
    let h = c.self.invariant in (
      h.0,
      h.1,
      h.2,
      h.3,
      h.4,
      subst (KeepsTransfers t.setup.shards (length t.runs.items)) (sym c.acknowledge.ensures)
          (record { sent = length-counted t.transfers.sent c.in-Acknowledges.to ∙ h.5.sent; accepted = h.5.accepted; unsent = h.5.unsent }),
    )

pub returns-in-Acknowledges-clause-state : goal.returns-in-Acknowledges-clause-state
returns-in-Acknowledges-clause-state g c =
    let t = c.self.inside in
    let runs = states t.runs.items in
    let to = c.in-Acknowledges.to in
    let may = subst (MayCount c.args.self.now) c.in-Acknowledges.is c.requires in
    let all = all-issued t.setup t.transfers runs (ap (λ v. v.changed) c.self.view_is) (ap (λ v. v.outgoing) c.self.view_is) may.caught_up in
    let some = subst (λ (l : List (Waiting TransferContent)). 0 < length (waiting_to l to).items) (sym all) may.some in
    both-moved t.setup runs t.last (all_waiting t.setup t.dispatches t.changed runs) (acknowledged-sends t.setup t.transfers c.acknowledge.new.self runs to some c.acknowledge.ensures) (ap (λ (x : TransfersView). x.accepted) c.acknowledge.ensures)
    ∙ ap (λ (v : ShardView). after_count (Acknowledges to) (state v)) c.self.view_is
    ∙ ap (λ k. after_count k (state c.args.self.now)) (sym c.in-Acknowledges.is)
