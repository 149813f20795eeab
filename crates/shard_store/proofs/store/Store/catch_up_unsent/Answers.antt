use Rattle.std.proofs.Common.{◌≡◌, ◌+◌, ◌<◌, ◌∙◌, ap, sym, subst, length, slice_index_or, Option, Some, IfSome}
use Rattle.std.specs.Prelude.{drop}
use Rattle.service_model.specs.Issued.{transfers_by}
use Rattle.service_model.specs.Outcome.{run_id}
use Rattle.service_model.specs.RunState.{no_run}
use Rattle.mutable_state.specs.RunView.{RunView}
use Rattle.shard_issued.specs.Issuing.{all_waiting}
use Rattle.shard_issued.specs.Sending.{TransfersView, KeepsTransfers, sent_since}
use Rattle.shard_issued.specs.declared.transfers.Unsent.{Unsent}
use Rattle.shard_issued.proofs.SendingLemmas.{length-sent, sent-looked-up}
use Rattle.shard_store.specs.ShardView.{ShardView, state, states}
use Rattle.shard_store.proofs.IndexLemmas.{states-at}
use Rattle.shard_store.proofs.OutgoingLemmas.{both-moved}
use Rattle.shard_store.proofs.store.Store.catch_up_unsent.Goals as goal

pub invariant_of-self-2 : goal.invariant_of-self-2
invariant_of-self-2 g c =
    let t = c.self.inside in
    let h = c.self.invariant in (
      h.0,
      h.1,
      h.2,
      h.3,
      h.4,
      subst (KeepsTransfers t.setup.shards (length t.runs.items)) (sym c.in_ok-send.ensures.ok)
          (record { sent = length-sent c.in_ok-sent.sent.items 0 t.transfers.sent ∙ h.5.sent; accepted = h.5.accepted; unsent = tt }),
    )

pub returns-clause-same : goal.returns-clause-same
returns-clause-same g c =
    let t = c.self.inside in
    let runs = states t.runs.items in
    let u = c.in-Some.unsent in
    let s = c.index-place.result.now.state in
    let unsent : t.transfers.unsent ≡ Some u = sym c.unsent.ensures ∙ c.in-Some.is in
    let low : u.index < length t.runs.items = subst (λ (o : Option Unsent). IfSome o (λ u. u.index < length t.runs.items)) unsent c.self.invariant.5.unsent in
    let here : slice_index_or runs u.index no_run ≡ s = states-at t.runs.items u.index c.index-place.result.now low ∙ ap (λ (v : RunView). v.state) (sym c.index-place.ensures) in
    let named = c.run_id-id.ensures ∙ ap (λ (v : ShardView). run_id v.setup (u.index + 1)) (sym c.self.view_is) in
    let found : c.in_ok-sent.sent.items ≡ sent_since t.setup u.shown (u.index + 1) (slice_index_or runs u.index no_run) =
    c.in_ok-sent.ensures ∙ ap (λ r. transfers_by t.setup r s (drop u.shown s.shown)) named ∙ ap (sent_since t.setup u.shown (u.index + 1)) (sym here) in
    both-moved t.setup runs t.last (all_waiting t.setup t.dispatches t.changed runs) (sent-looked-up t.setup t.transfers c.send.new.self runs u c.in_ok-sent.sent.items unsent found c.in_ok-send.ensures.ok) (ap (λ (x : TransfersView). x.accepted) c.in_ok-send.ensures.ok)
    ∙ ap state c.self.view_is
