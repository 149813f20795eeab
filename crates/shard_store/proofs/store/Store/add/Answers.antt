use Rattle.std.proofs.Common.{◌≡◌, ℕ, ◌+◌, length, length-append, List, [], ◌∷◌, ◌++◌, refl, sym, ap, subst, ◌∙◌, arith, Option, Some, None, IfSome, cond, ◌<◌}
use Rattle.std.specs.Prelude.{Bool, bytes_eq, false, option_map, string_bytes, true}
use Rattle.std.proofs.lemmas.Map.Text.{hash_map_updates_text}
use Rattle.indexmap.specs.IndexMap.{get_by_text}
use Rattle.service_model.specs.Outcome.{latest_run}
use Rattle.service_model_types.specs.declared.transfer.TransferContent.{TransferContent}
use Rattle.shard_issued.specs.Sending.{all_outgoing}
use Rattle.shard_issued.specs.declared.transfers.Unsent.{Unsent}
use Rattle.shard_issued.proofs.SendingLemmas.{added-sends, keeps-more}
use Rattle.shard_store.specs.ShardView.{ShardState, ShardView, ordinal_of, state, states}
use Rattle.timeouts.specs.declared.due.Due.{Due}
use Rattle.shard_issued.specs.Outstanding.{HasFirsts, HasShown}
use Rattle.service_model.specs.RunState.{RunState}
use Rattle.shard_store.specs.Fitting.{after_created}
use Rattle.service_model_types.specs.declared.content.Dispatch.{Dispatch}
use Rattle.transfer.specs.Logs.{Waiting, with_issued}
use Rattle.shard_issued.specs.Issuing.{all_waiting, issued_first}
use Rattle.shard_issued.proofs.DispatchLemmas.{added-waits}
use Rattle.shard_issued.proofs.EachLemmas.{each-added, each-same}
use Rattle.shard_store.proofs.IndexLemmas.{latest_run-push, length-states, states-push}
use Rattle.shard_store.proofs.store.Store.add.Goals as goal

-- the ordinal of one of two places
place-cond : (b : Bool) (i : ℕ) (o : Option ℕ) → option_map ordinal_of (cond b (Some i) o) ≡ cond b (Some (ordinal_of i)) (option_map ordinal_of o)
place-cond true i o = refl
place-cond false i o = refl

pub invariant_of-self : goal.invariant_of-self
invariant_of-self g c =
    let count : c.len-index.result ≡ length c.self.inside.runs.items = c.len-index.ensures in
    let states-count : c.len-index.result ≡ length (states c.self.inside.runs.items) = count ∙ sym (length-states c.self.inside.runs.items) in
    let updates = rw c.unwrap-self-inside.ensures at c.insert.ensures.updates in
    let pushed = c.push.ensures in
    let sets = hash_map_updates_text (string_bytes c.args.created.key) c.self.inside.index c.insert.new.self _ updates in (
      c.self.invariant.0,
      record {
        latest = λ id. ap (option_map ordinal_of) (sets id ∙ ap (λ n. cond (bytes_eq (string_bytes c.args.created.key) id) (Some n) (get_by_text c.self.inside.index id)) count)
            ∙ place-cond (bytes_eq (string_bytes c.args.created.key) id) (length c.self.inside.runs.items) (get_by_text c.self.inside.index id)
            ∙ ap (λ o. cond (bytes_eq (string_bytes c.args.created.key) id) (Some (length c.self.inside.runs.items + 1)) o) (c.self.invariant.1.latest id)
            ∙ sym (ap (λ t. latest_run (states t) id) pushed ∙ latest_run-push id c.self.inside.runs.items c.args.created.run (string_bytes c.args.created.key) c.requires.there c.requires.named);
      },
      omega (arith, ap length pushed, length-append c.self.inside.runs.items (c.args.created.run ∷ []), ap (λ v. length v.runs) c.self.view_is, c.requires.few),
      subst (λ (l : List (Option Due)). HasFirsts c.self.inside.setup.retention l (record { grown = c.self.inside.changed.grown; made = Some c.len-index.result }) (states c.push.new.self.items)) (sym c.push_none.ensures.slots)
          (subst (λ n. HasFirsts c.self.inside.setup.retention (c.self.inside.deadlines.slots ++ None ∷ []) (record { grown = c.self.inside.changed.grown; made = Some n }) (states c.push.new.self.items)) (sym states-count)
          (each-same _ _ _ _ (ap states pushed ∙ states-push c.self.inside.runs.items c.args.created.run)
          (each-added _ _ (states c.self.inside.runs.items) c.args.created.run.state (ap (λ v. v.changed.made) c.self.view_is ∙ c.requires.caught_up) c.self.invariant.3))),
      subst (λ (l : List ℕ). HasShown l (record { grown = c.self.inside.changed.grown; made = Some c.len-index.result }) (states c.push.new.self.items)) (sym c.add_run.ensures.shown)
          (subst (λ n. HasShown (c.self.inside.dispatches.shown ++ 0 ∷ []) (record { grown = c.self.inside.changed.grown; made = Some n }) (states c.push.new.self.items)) (sym states-count)
          (each-same _ _ _ _ (ap states pushed ∙ states-push c.self.inside.runs.items c.args.created.run)
          (each-added _ _ (states c.self.inside.runs.items) c.args.created.run.state (ap (λ v. v.changed.made) c.self.view_is ∙ c.requires.caught_up) c.self.invariant.4))),
      keeps-more _ _ (length c.push.new.self.items) c.self.inside.transfers (omega (arith, ap length pushed, length-append c.self.inside.runs.items (c.args.created.run ∷ []))) c.self.invariant.5,
    )

pub returns : goal.returns
returns g c =
    let before = c.self.inside in
    let runs = states before.runs.items in
    let s = c.args.created.run.state in
    let count : c.len-index.result ≡ length runs = omega (arith, c.len-index.ensures, length-states before.runs.items) in
    let pushed = c.push.ensures in
    let now = ap states pushed ∙ states-push before.runs.items c.args.created.run in
    let waits = added-waits before.setup before.dispatches c.add_run.new.self before.changed runs (states c.push.new.self.items) c.len-index.result s
    (ap (λ v. v.changed.made) c.self.view_is ∙ c.requires.caught_up) c.add_run.ensures.waiting c.add_run.ensures.shown c.add_run.ensures.ready count now c.self.invariant.4 in
    let low : IfSome before.transfers.unsent (λ u. u.index < length runs) = subst (λ n. IfSome before.transfers.unsent (λ (u : Unsent). u.index < n)) (sym (length-states before.runs.items)) c.self.invariant.5.unsent in
    let sends = added-sends before.setup before.transfers runs (states c.push.new.self.items) s now low in
    let S : List RunState → Waiting Dispatch → List (Waiting TransferContent) → ShardState = λ r w o. record { setup = before.setup; runs = r; last = before.last; waiting = w; outgoing = o; accepted = before.transfers.accepted } in
    let later = states c.push.new.self.items in
    ap (λ r. S r (all_waiting before.setup c.add_run.new.self (record { grown = before.changed.grown; made = Some c.len-index.result }) later) (all_outgoing before.setup before.transfers later)) now
    ∙ ap (λ w. S (runs ++ s ∷ []) w (all_outgoing before.setup before.transfers later)) waits
    ∙ ap (λ o. S (runs ++ s ∷ []) (with_issued (all_waiting before.setup before.dispatches before.changed runs) (issued_first before.setup (length runs + 1) s)) o) sends
    ∙ ap (λ (v : ShardView). after_created (Some c.args.created) (state v)) c.self.view_is
