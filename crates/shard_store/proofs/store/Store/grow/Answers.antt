use Rattle.std.proofs.Common.{◌≡◌, ℕ, ◌+◌, ◌<◌, length, length-set, sym, ap, subst, ◌∙◌, arith, slice_index_or, slice_set}
use Rattle.std.specs.Prelude.{List, None, Some}
use Rattle.service_model.specs.RunState.{RunState, no_run}
use Rattle.service_model.specs.Outcome.{latest_run}
use Rattle.mutable_state.specs.Steps.{after_step, FitStep}
use Rattle.mutable_state.proofs.GrowthLemmas.{beginning-stays}
use Rattle.service_model_types.specs.declared.transfer.TransferContent.{TransferContent}
use Rattle.service_model.specs.Issued.{dispatches_of, transfers_of}
use Rattle.transfer.specs.Outboxes.{with_all_sent}
use Rattle.shard_store.specs.Fitting.{after_added, state_at}
use Rattle.service_model_types.specs.declared.content.Dispatch.{Dispatch}
use Rattle.transfer.specs.Logs.{Waiting, with_issued}
use Rattle.service_model.specs.Issued.{readied}
use Rattle.shard_issued.specs.Issuing.{all_waiting}
use Rattle.shard_issued.specs.declared.changed.Changed.{Changed}
use Rattle.shard_issued.proofs.DispatchLemmas.{grown-waits}
use Rattle.shard_issued.specs.Outstanding.{HasShown, IsCaughtUp, outstanding}
use Rattle.indexmap.specs.IndexMap.{get_by_text}
use Rattle.shard_issued.specs.Sending.{TransfersView, KeepsTransfers, all_outgoing}
use Rattle.shard_issued.proofs.SendingLemmas.{grown-sends, runs-caught-up}
use Rattle.shard_store.specs.Places.{empty_place}
use Rattle.shard_store.specs.ShardView.{IsIndexed, ShardState, ShardView, state, states}
use Rattle.shard_issued.proofs.EachLemmas.{each-grown, each-same}
use Rattle.shard_store.proofs.IndexLemmas.{length-states, states-at, states-set, latest_run-set}
use Rattle.shard_store.proofs.store.Store.grow.Goals as goal

pub commit-requires-clause-there : goal.commit-requires-clause-there
commit-requires-clause-there g c = rw (ap (λ (v : ShardView). v.runs) c.self.view_is) c.requires.there

pub commit-requires-clause-room : goal.commit-requires-clause-room
commit-requires-clause-room g c = rw (ap (λ (v : ShardView). v.runs) c.self.view_is) c.requires.room

pub commit-requires-clause-fit : goal.commit-requires-clause-fit
commit-requires-clause-fit g c =
    let m = c.args.more.plan.change in
    let runs = c.self.inside.runs.items in
    let there : c.args.more.index < length runs = rw (ap (λ (v : ShardView). v.runs) c.self.view_is) c.requires.there in
    let fits : FitStep m.moment (state_at (states runs) c.args.more.index) m.facts = subst (λ (v : ShardView). FitStep m.moment (state_at (states v.runs) c.args.more.index) m.facts) (sym c.self.view_is) c.requires.fits in
    subst (λ s. FitStep m.moment s m.facts) (states-at runs c.args.more.index empty_place there) fits

pub invariant_of-self : goal.invariant_of-self
invariant_of-self g c =
    let b = c.self.inside in
    let runs = b.runs.items in
    let k = c.args.more.index in
    let m = c.args.more.plan.change in
    let (now, items, is) = c.commit.ensures.run in
    let there : k < length runs = rw (ap (λ (v : ShardView). v.runs) c.self.view_is) c.requires.there in
    let low : k < length (states runs) = omega (arith, there, length-states runs) in
    let caught_up = runs-caught-up b.changed b.transfers (subst (λ (v : ShardView). IsCaughtUp v.changed) (sym c.self.view_is) c.requires.caught_up) in
    let was = (slice_index_or runs k empty_place).state in
    let here : slice_index_or (states runs) k no_run ≡ was = states-at runs k empty_place there in
    let began : now.state.beginning ≡ was.beginning = ap (λ (s : RunState). s.beginning) is ∙ beginning-stays m.moment m.facts was in
    let later = ap states items ∙ states-set runs k now in
    let grown : Changed = record { grown = Some k; made = None } in (
      c.self.invariant.0,
      subst (IsIndexed (get_by_text b.index)) (sym items)
          (record { latest = λ id. c.self.invariant.1.latest id ∙ sym (ap (λ t. latest_run t id) (states-set runs k now) ∙ latest_run-set id (states runs) k now.state (began ∙ ap (λ (s : RunState). s.beginning) (sym here))) }),
      omega (arith, ap length items, length-set runs k now, c.self.invariant.2),
      each-same _ _ _ _ later (each-grown _ _ k (states runs) now.state caught_up low c.self.invariant.3),
      subst (λ l. HasShown l grown (states c.commit.new.self.items)) (sym c.mark_ready.ensures.shown) (each-same _ _ _ _ later (each-grown _ _ k (states runs) now.state caught_up low c.self.invariant.4)),
      subst (KeepsTransfers b.setup.shards (length c.commit.new.self.items)) (sym c.mark_grown.ensures)
          (record { sent = c.self.invariant.5.sent; accepted = c.self.invariant.5.accepted; unsent = omega (arith, there, ap length items, length-set runs k now) }),
    )

pub returns-clause-state : goal.returns-clause-state
returns-clause-state g c =
    let before = c.self.inside in
    let there : c.args.more.index < length before.runs.items = rw (ap (λ v. v.runs) c.self.view_is) c.requires.there in
    let m = c.args.more.plan.change in
    let k = c.args.more.index in
    let runs = states before.runs.items in
    let (one, items, is) = c.commit.ensures.run in
    let low : k < length runs = omega (arith, there, length-states before.runs.items) in
    let here : slice_index_or runs k no_run ≡ (slice_index_or before.runs.items k empty_place).state = states-at before.runs.items k empty_place there in
    let later = states c.commit.new.self.items in
    let now : later ≡ slice_set runs k (after_step m.moment m.facts (slice_index_or runs k no_run)) =
    ap states items ∙ states-set before.runs.items k one ∙ ap (λ s. slice_set runs k s) (is ∙ ap (after_step m.moment m.facts) (sym here)) in
    let fits : FitStep m.moment (slice_index_or runs k no_run) m.facts = subst (λ (v : ShardView). FitStep m.moment (state_at (states v.runs) k) m.facts) (sym c.self.view_is) c.requires.fits in
    let all_caught_up : IsCaughtUp (outstanding before.changed before.transfers) = subst (λ (v : ShardView). IsCaughtUp v.changed) (sym c.self.view_is) c.requires.caught_up in
    let waits = grown-waits before.setup before.dispatches c.mark_ready.new.self before.changed runs _ k m.moment m.facts
    (runs-caught-up before.changed before.transfers all_caught_up) c.mark_ready.ensures.waiting c.mark_ready.ensures.shown (c.mark_ready.ensures.ready ∙ c.readied-ready.ensures ∙ ap readied c.as_slice.ensures) low fits now c.self.invariant.4 in
    let sends = grown-sends before.setup before.transfers c.mark_grown.new.self before.dispatches.shown before.changed runs _ k c.shown-shown.result (after_step m.moment m.facts (slice_index_or runs k no_run))
    all_caught_up c.mark_grown.ensures c.shown-shown.ensures low now c.self.invariant.4 in
    let kept = ap (λ (t : TransfersView). t.accepted) c.mark_grown.ensures in
    let issued = with_issued (all_waiting before.setup before.dispatches before.changed runs) (dispatches_of before.setup (k + 1) (slice_index_or runs k no_run) (after_step m.moment m.facts (slice_index_or runs k no_run)) m.facts) in
    let S : List RunState → Waiting Dispatch → List (Waiting TransferContent) → List ℕ → ShardState = λ r w o a. record { setup = before.setup; runs = r; last = before.last; waiting = w; outgoing = o; accepted = a } in
    ap (λ w. S later w (all_outgoing before.setup c.mark_grown.new.self later) c.mark_grown.new.self.accepted) waits
    ∙ ap (λ o. S later issued o c.mark_grown.new.self.accepted) sends
    ∙ ap (λ a. S later issued (with_all_sent (transfers_of before.setup (k + 1) (slice_index_or runs k no_run) (after_step m.moment m.facts (slice_index_or runs k no_run))) 0 (all_outgoing before.setup before.transfers runs)) a) kept
    ∙ ap (λ r. S r issued (with_all_sent (transfers_of before.setup (k + 1) (slice_index_or runs k no_run) (after_step m.moment m.facts (slice_index_or runs k no_run))) 0 (all_outgoing before.setup before.transfers runs)) before.transfers.accepted) now
    ∙ ap (λ (v : ShardView). after_added (Some c.args.more) (state v)) c.self.view_is
