use Rattle.std.proofs.Common.{◌≡◌, ℕ, ◌+◌, ◌++◌, length, length-append, replicate, List, sym, ap, subst, ◌∙◌, arith, Option, None}
use Rattle.std.proofs.lemmas.List.{length-replicate}
use Rattle.std.specs.Prelude.{option_map}
use Rattle.service_model_types.specs.declared.transfer.TransferContent.{TransferContent}
use Rattle.service_model_types.specs.declared.content.Dispatch.{Dispatch}
use Rattle.service_model.specs.Outcome.{latest_run}
use Rattle.service_model.specs.RunState.{RunState, no_run}
use Rattle.timeouts.specs.Firsts.{first_due}
use Rattle.timeouts.specs.Slots.{run_due}
use Rattle.timeouts.specs.declared.due.Due.{Due}
use Rattle.transfer.specs.Logs.{Waiting}
use Rattle.shard_issued.specs.Issuing.{all_waiting}
use Rattle.shard_issued.specs.Outstanding.{AreCaughtUp, HasFirsts, HasShown}
use Rattle.shard_issued.specs.Sending.{all_outgoing}
use Rattle.shard_issued.proofs.SendingLemmas.{keeps-more}
use Rattle.shard_store.specs.Places.{empty_place}
use Rattle.shard_store.specs.ShardView.{ShardState, ShardView, state, states}
use Rattle.shard_store.proofs.GoneLemmas.{each-more, latest-more, same-sends, same-waits, states-more}
use Rattle.shard_store.proofs.PlaceLemmas.{none-due, none-shown}
use Rattle.shard_store.proofs.store.Store.add_gone.Goals as goal

pub invariant_of-self : goal.invariant_of-self
invariant_of-self g c =
    let before = c.self.inside in
    let n = c.args.count in
    let runs = before.runs.items in
    let pushed = c.extend_gone.ensures in
    let now = ap states pushed ∙ states-more n runs in
    let count : length c.extend_gone.new.self.items ≡ length runs + n = ap length pushed ∙ length-append runs (replicate n empty_place) ∙ ap (λ k. length runs + k) (length-replicate n empty_place) in (
      c.self.invariant.0,
      record { latest = λ id. c.self.invariant.1.latest id ∙ sym (ap (λ t. latest_run (states t) id) pushed ∙ latest-more id n runs) },
      omega (arith, count, ap (λ (v : ShardView). length v.runs) c.self.view_is, c.requires.few),
      subst (λ (l : List (Option Due)). HasFirsts before.setup.retention l before.changed (states c.extend_gone.new.self.items)) (sym c.extend_none.ensures)
          (subst (λ l. HasFirsts before.setup.retention (before.deadlines.slots ++ replicate n None) before.changed l) (sym now)
          (each-more (option_map run_due) (λ k s. first_due before.setup.retention (k + 1) s) None no_run (λ k. sym (none-due before.setup.retention (k + 1))) before.changed n _ _ c.self.invariant.3)),
      subst (λ (l : List ℕ). HasShown l before.changed (states c.extend_gone.new.self.items)) (sym c.add_runs.ensures.shown)
          (subst (λ l. HasShown (before.dispatches.shown ++ replicate n 0) before.changed l) (sym now)
          (each-more (λ k. k) (λ k (s : RunState). length s.shown) 0 no_run (λ k. sym (ap length none-shown)) before.changed n _ _ c.self.invariant.4)),
      keeps-more _ _ (length c.extend_gone.new.self.items) before.transfers (omega (arith, count)) c.self.invariant.5,
    )

pub returns : goal.returns
returns g c =
    let before = c.self.inside in
    let n = c.args.count in
    let runs = states before.runs.items in
    let later = states c.extend_gone.new.self.items in
    let now = ap states c.extend_gone.ensures ∙ states-more n before.runs.items in
    let caught_up : AreCaughtUp before.changed = record { grown = ap (λ (v : ShardView). v.changed.grown) c.self.view_is ∙ c.requires.caught_up.grown; made = ap (λ (v : ShardView). v.changed.made) c.self.view_is ∙ c.requires.caught_up.made } in
    let waits = same-waits before.setup before.dispatches c.add_runs.new.self before.changed runs later caught_up c.add_runs.ensures.waiting in
    let sends = same-sends before.setup before.transfers runs later (ap (λ (v : ShardView). v.changed.unsent) c.self.view_is ∙ c.requires.caught_up.unsent) in
    let S : List RunState → Waiting Dispatch → List (Waiting TransferContent) → ShardState = λ r w o. record { setup = before.setup; runs = r; last = before.last; waiting = w; outgoing = o; accepted = before.transfers.accepted } in
    ap (λ r. S r (all_waiting before.setup c.add_runs.new.self before.changed later) (all_outgoing before.setup before.transfers later)) now
    ∙ ap (λ w. S (runs ++ replicate n no_run) w (all_outgoing before.setup before.transfers later)) waits
    ∙ ap (λ o. S (runs ++ replicate n no_run) (all_waiting before.setup before.dispatches before.changed runs) o) sends
    ∙ ap (λ (v : ShardView). record (state v) { runs = states v.runs ++ replicate n no_run }) c.self.view_is
