use Rattle.std.proofs.Common.{◌≡◌, ℕ, ◌+◌, ◌<◌, ◌∙◌, sym, ap, subst, arith, length, slice_index_or, List, Option, Some, None}
use Rattle.std.specs.Prelude.{slice_get}
use Rattle.service_model.specs.RunState.{no_run}
use Rattle.mutable_state.specs.RunView.{RunView}
use Rattle.timeouts.specs.declared.due.Due.{Due}
use Rattle.shard_issued.specs.Issuing.{all_waiting, issued_first}
use Rattle.shard_issued.specs.Outstanding.{HasFirsts, HasShown}
use Rattle.shard_issued.specs.Sending.{all_outgoing}
use Rattle.shard_issued.specs.declared.changed.Changed.{Changed}
use Rattle.shard_store.specs.ShardView.{state, states}
use Rattle.shard_issued.proofs.EachLemmas.{made-caught-up}
use Rattle.shard_issued.proofs.DispatchLemmas.{get-at, made-looked-up}
use Rattle.shard_store.proofs.IndexLemmas.{length-states, states-at}
use Rattle.shard_store.proofs.store.Store.catch_up_made.Goals as goal

pub invariant_of-self-2 : goal.invariant_of-self-2
invariant_of-self-2 g c =
    let n = c.in-Some.index in
    let runs = states c.self.inside.runs.items in
    let s = c.index-place.result.now.state in
    let grown = ap (λ v. v.changed.grown) c.self.view_is ∙ c.requires in
    let C : Option ℕ → Option ℕ → Changed = λ a b. record { grown = a; made = b } in
    let firsts : HasFirsts c.self.inside.setup.retention c.self.inside.deadlines.slots (C None (Some n)) runs = subst (λ o. HasFirsts c.self.inside.setup.retention c.self.inside.deadlines.slots (C o (Some n)) runs) grown (subst (λ o. HasFirsts c.self.inside.setup.retention c.self.inside.deadlines.slots (C c.self.inside.changed.grown o) runs) c.in-Some.is c.self.invariant.3) in
    let counts : HasShown c.self.inside.dispatches.shown (C None (Some n)) runs = subst (λ o. HasShown c.self.inside.dispatches.shown (C o (Some n)) runs) grown (subst (λ o. HasShown c.self.inside.dispatches.shown (C c.self.inside.changed.grown o) runs) c.in-Some.is c.self.invariant.4) in
    let low : n < length c.self.inside.runs.items = omega (arith, firsts.made, length-states c.self.inside.runs.items) in
    let there : slice_get runs n ≡ Some s = get-at runs n firsts.made ∙ ap (λ x. Some x) (states-at c.self.inside.runs.items n c.index-place.result.now low ∙ ap (λ (v : RunView). v.state) (sym c.index-place.ensures)) in
    let P : List (Option Due) → Option ℕ → Type 0 = λ l o. HasFirsts c.self.inside.setup.retention l (C o None) runs in
    let Q : List ℕ → Option ℕ → Type 0 = λ l o. HasShown l (C o None) runs in (
      c.self.invariant.0,
      c.self.invariant.1,
      c.self.invariant.2,
      subst (λ o. P c.set.new.self.slots o) (sym grown) (subst (λ l. P l None) (sym c.in_ok-set.ensures.ok) (made-caught-up c.self.inside.deadlines.slots n runs s c.in_ok-due.due there c.in_ok-due.ensures firsts)),
      subst (λ o. Q c.issue.new.self.shown o) (sym grown) (subst (λ l. Q l None) (sym c.in_ok-issue.ensures.shown) (made-caught-up c.self.inside.dispatches.shown n runs s c.in_ok-shown.shown there c.in_ok-shown.ensures.count counts)),
      c.self.invariant.5,
    )

pub returns-clause-same : goal.returns-clause-same
returns-clause-same g c =
    let n = c.in-Some.index in
    let runs = states c.self.inside.runs.items in
    let setup = c.self.inside.setup in
    let d = c.self.inside.dispatches in
    let grown = ap (λ v. v.changed.grown) c.self.view_is ∙ c.requires in
    let C : Option ℕ → Option ℕ → Changed = λ a b. record { grown = a; made = b } in
    let firsts : HasFirsts c.self.inside.setup.retention c.self.inside.deadlines.slots (C None (Some n)) runs = subst (λ o. HasFirsts c.self.inside.setup.retention c.self.inside.deadlines.slots (C o (Some n)) runs) grown (subst (λ o. HasFirsts c.self.inside.setup.retention c.self.inside.deadlines.slots (C c.self.inside.changed.grown o) runs) c.in-Some.is c.self.invariant.3) in
    let low : n < length c.self.inside.runs.items = omega (arith, firsts.made, length-states c.self.inside.runs.items) in
    let here : slice_index_or runs n no_run ≡ c.index-place.result.now.state = states-at c.self.inside.runs.items n c.index-place.result.now low ∙ ap (λ (v : RunView). v.state) (sym c.index-place.ensures) in
    let issued = c.in_ok-issued.ensures ∙ ap (issued_first setup (n + 1)) (sym here) in
    let waits = ap (λ o. all_waiting setup c.issue.new.self (C o None) runs) grown ∙ made-looked-up setup d c.issue.new.self runs n c.in_ok-issued.issued.items issued c.in_ok-issue.ensures.waiting
    ∙ ap (λ o. all_waiting setup d (C None o) runs) (sym c.in-Some.is) ∙ ap (λ o. all_waiting setup d (C o c.self.inside.changed.made) runs) (sym grown) in
    ap (λ w. record { setup = setup; runs = runs; last = c.self.inside.last; waiting = w; outgoing = all_outgoing setup c.self.inside.transfers runs; accepted = c.self.inside.transfers.accepted }) waits ∙ ap state c.self.view_is
