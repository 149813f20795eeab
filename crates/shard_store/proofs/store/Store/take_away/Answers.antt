use Rattle.std.proofs.Common.{◌≡◌, ℕ, ◌<◌, ◌∙◌, length, length-set, sym, ap, subst, arith, true, slice_set, List, Option, Some}
use Rattle.service_model.specs.Aging.{IsOldestRun}
use Rattle.service_model.specs.RunState.{RunState, id_of, is_there, no_run}
use Rattle.service_model_types.specs.declared.transfer.TransferContent.{TransferContent}
use Rattle.mutable_state.specs.RunView.{RunView}
use Rattle.timeouts.specs.declared.due.Due.{Due}
use Rattle.indexmap.specs.IndexMap.{get_by_text}
use Rattle.service_model_types.specs.declared.content.Dispatch.{Dispatch}
use Rattle.transfer.specs.Logs.{Waiting}
use Rattle.shard_issued.specs.Issuing.{all_waiting}
use Rattle.shard_issued.specs.Outstanding.{HasFirsts, HasShown, IsCaughtUp, outstanding}
use Rattle.shard_issued.specs.Sending.{KeepsTransfers, all_outgoing}
use Rattle.shard_issued.proofs.EachLemmas.{each-same}
use Rattle.shard_issued.proofs.SendingLemmas.{runs-caught-up}
use Rattle.shard_issued.proofs.TakenLemmas.{firsts-taken, shown-taken, taken-sends, taken-waits}
use Rattle.shard_store.specs.Fitting.{after_taken, state_at}
use Rattle.shard_store.specs.Places.{empty_place}
use Rattle.shard_store.specs.ShardView.{IsIndexed, ShardState, ShardView, state, states}
use Rattle.shard_store.proofs.IndexLemmas.{length-states, states-at, states-set, there-within}
use Rattle.shard_store.proofs.TakenLemmas.{indexed-taken}
use Rattle.shard_store.proofs.store.Store.take_away.Goals as goal

-- what stands at the place, and that it is one
record Here (v : ShardView) (runs : List RunView) (i : ℕ) : Type 0 where
  begun : is_there (state_at (states runs) i) ≡ true
  low : i < length runs

here : (v : ShardView) (runs : List RunView) (i : ℕ) → runs ≡ v.runs → is_there (state_at (states v.runs) i) ≡ true → Here v runs i
here v runs i is there =
    let begun : is_there (state_at (states runs) i) ≡ true = ap (λ l. is_there (state_at (states l) i)) is ∙ there in
    let low = there-within (states runs) i begun in
    record { begun = begun; low = omega (arith, low, length-states runs) }

pub index-place-requires : goal.index-place-requires
index-place-requires g c =
    let h = here c.args.self.now c.self.inside.runs.items c.args.index (ap (λ (v : ShardView). v.runs) c.self.view_is) c.requires.may.begun in
    h.low

pub clear-requires : goal.clear-requires
clear-requires g c =
    let h = here c.args.self.now c.self.inside.runs.items c.args.index (ap (λ (v : ShardView). v.runs) c.self.view_is) c.requires.may.begun in
    h.low

pub clear-requires-2 : goal.clear-requires-2
clear-requires-2 g c =
    let h = here c.args.self.now c.self.inside.runs.items c.args.index (ap (λ (v : ShardView). v.runs) c.self.view_is) c.requires.may.begun in
    let low = h.low in omega (arith, low, length-states c.self.inside.runs.items, c.self.invariant.3.count)

pub forget-requires : goal.forget-requires
forget-requires g c =
    let h = here c.args.self.now c.self.inside.runs.items c.args.index (ap (λ (v : ShardView). v.runs) c.self.view_is) c.requires.may.begun in
    let low = h.low in omega (arith, low, length-states c.self.inside.runs.items, c.self.invariant.4.count)

pub get-run-requires : goal.get-run-requires
get-run-requires g c =
    let runs = c.self.inside.runs.items in
    let h = here c.args.self.now runs c.args.index (ap (λ (v : ShardView). v.runs) c.self.view_is) c.requires.may.begun in
    ap (λ (v : RunView). is_there v.state) c.index-place.ensures ∙ ap is_there (sym (states-at runs c.args.index c.index-place.result.now h.low)) ∙ h.begun

pub invariant_of-self : goal.invariant_of-self
invariant_of-self g c =
    let b = c.self.inside in
    let i = c.args.index in
    let runs = b.runs.items in
    let rs = states runs in
    let h = here c.args.self.now runs i (ap (λ (v : ShardView). v.runs) c.self.view_is) c.requires.may.begun in
    let low : i < length rs = let l = h.low in omega (arith, l, length-states runs) in
    let oldest : IsOldestRun rs i = subst (λ (v : ShardView). IsOldestRun (states v.runs) i) (sym c.self.view_is) c.requires.oldest in
    let named = c.workflow_id-id.ensures ∙ ap (λ (v : RunView). id_of v.state) (c.get-run.ensures ∙ c.index-place.ensures) ∙ ap id_of (sym (states-at runs i c.index-place.result.now h.low)) in
    let now : states c.clear.new.self.items ≡ slice_set rs i no_run = ap states c.clear.ensures ∙ states-set runs i empty_place in (
      c.self.invariant.0,
      subst (IsIndexed (get_by_text c.forget_latest.new.index)) (sym c.clear.ensures)
          (indexed-taken (get_by_text b.index) (get_by_text c.forget_latest.new.index) runs i c.workflow_id-id.result.now h.low h.begun named oldest c.forget_latest.ensures c.self.invariant.1),
      omega (arith, ap length c.clear.ensures, length-set runs i empty_place, c.self.invariant.2),
      each-same _ _ _ _ now (subst (λ (l : List (Option Due)). HasFirsts b.setup.retention l b.changed (slice_set rs i no_run)) (sym c.clear-2.ensures.slots) (firsts-taken b.setup.retention b.deadlines.slots b.changed rs i low c.self.invariant.3)),
      each-same _ _ _ _ now (subst (λ l. HasShown l b.changed (slice_set rs i no_run)) (sym c.forget.ensures.shown) (shown-taken b.dispatches.shown b.changed rs i low c.self.invariant.4)),
      subst (λ n. KeepsTransfers b.setup.shards n b.transfers) (sym (ap length c.clear.ensures ∙ length-set runs i empty_place)) c.self.invariant.5,
    )

pub returns : goal.returns
returns g c =
    let b = c.self.inside in
    let i = c.args.index in
    let runs = b.runs.items in
    let rs = states runs in
    let caught_up : IsCaughtUp (outstanding b.changed b.transfers) = subst (λ (v : ShardView). IsCaughtUp v.changed) (sym c.self.view_is) c.requires.may.caught_up in
    let later = states c.clear.new.self.items in
    let now : later ≡ slice_set rs i no_run = ap states c.clear.ensures ∙ states-set runs i empty_place in
    let S : List RunState → Waiting Dispatch → List (Waiting TransferContent) → ShardState = λ r w o. record { setup = b.setup; runs = r; last = b.last; waiting = w; outgoing = o; accepted = b.transfers.accepted } in
    ap (λ w. S later w (all_outgoing b.setup b.transfers later)) (taken-waits b.setup b.dispatches c.forget.new.self b.changed rs later (runs-caught-up b.changed b.transfers caught_up) c.forget.ensures.waiting)
    ∙ ap (λ o. S later (all_waiting b.setup b.dispatches b.changed rs) o) (taken-sends b.setup b.transfers b.changed rs later caught_up)
    ∙ ap (λ r. S r (all_waiting b.setup b.dispatches b.changed rs) (all_outgoing b.setup b.transfers rs)) now
    ∙ ap (λ (v : ShardView). after_taken (Some i) (state v)) c.self.view_is
