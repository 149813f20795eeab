use Rattle.std.proofs.Common.{◌≡◌, ◌∙◌, ℕ, List, [], ◌∷◌, true, sym, subst, ap, Option, None, Some, option_map}
use Rattle.std.specs.Prelude.{IfOk, IfSome}
use Rattle.wf_event.specs.declared.attributes.Attributes.{Attributes}
use Rattle.wf_event.specs.declared.role.Class.{Class}
use Rattle.service_model.specs.Deliveries.{accepts, adds_outside, answers_pending, effect, external_class, external_event, own_run, pending_id}
use Rattle.service_model.specs.Outcome.{run_at}
use Rattle.service_model.specs.RunState.{pending}
use Rattle.service_model.proofs.ThereLemmas.{open-there}
use Rattle.mutable_state.specs.Steps.{has_id}
use Rattle.shard_store.specs.Fitting.{FitsStep}
use Rattle.shard_store.specs.ShardView.{ordinal_of, runs_at, runs_in}
use Rattle.shard_deliveries.specs.Accepting.{IsFromOutside}
use Rattle.shard_deliveries.specs.Pending.{IsPending, said}
use Rattle.shard_deliveries.specs.declared.pending.PendingRequest.{PendingRequest}
use Rattle.shard_deliveries.proofs.FitLemmas.{external-comes}
use Rattle.shard_deliveries.proofs.answers.tell_external_done.Goals as goal

pub accept_event-requires-clause-begun : goal.accept_event-requires-clause-begun
accept_event-requires-clause-begun g c =
    let P : Option PendingRequest → Type 0 = λ o. IfSome o (λ (p : PendingRequest). IsPending c.args.store.now c.external_class-class.result c.args.done.now.initiated p.index) in
    let p : IsPending c.args.store.now c.external_class-class.result c.args.done.now.initiated c.in-Some.asked.index = subst P c.in-Some.is c.in_ok-asked.ensures.pending in
    open-there (run_at (runs_in c.args.store.now) (ordinal_of c.in-Some.asked.index)) p.opened

pub accept_event-requires-clause-outside : goal.accept_event-requires-clause-outside
accept_event-requires-clause-outside g c =
    let P : Option PendingRequest → Type 0 = λ o. IfSome o (λ (p : PendingRequest). IsPending c.args.store.now c.external_class-class.result c.args.done.now.initiated p.index) in
    let p : IsPending c.args.store.now c.external_class-class.result c.args.done.now.initiated c.in-Some.asked.index = subst P c.in-Some.is c.in_ok-asked.ensures.pending in
    let s = run_at (runs_in c.args.store.now) (ordinal_of c.in-Some.asked.index) in
    let waits = subst (λ (k : Class). has_id c.args.done.now.initiated (pending k s) ≡ true) c.external_class-class.ensures p.waits in
    subst (IsFromOutside s) (sym c.external_event-event.ensures) (external-comes s c.args.done.now c.args.done.now.kind c.args.done.now.done c.in-Some.asked.workflow_id p.opened waits)

-- the request that waits is the one that the definition finds, and what is written is its event
pub returns-clause-plan : goal.returns-clause-plan
unfolding effect
returns-clause-plan g c =
    let R = runs_at c.args.store.now c.args.moment in
    let t = c.args.transfer.now in
    let d = c.args.done.now in
    let asked = c.in-Some.asked in
    let found : Some (said asked) ≡ pending_id R (external_class d.kind) d.initiated (own_run R d.to_run) = sym (ap (option_map said) c.in-Some.is) ∙ c.in_ok-asked.ensures.found ∙ ap (λ k. pending_id R k d.initiated (own_run R d.to_run)) c.external_class-class.ensures in
    let E : Attributes → Type 0 = λ e. IfOk c.accept_event.result (λ plan. FitsStep {T = g.row.T.Denot} c.accept_event.new.store plan c.args.moment (accepts t (adds_outside R (ordinal_of asked.index) (e ∷ [])) None [])) in
    let P : Option (ℕ × List ℕ) → Type 0 = λ o. IfOk c.accept_event.result (λ plan. FitsStep {T = g.row.T.Denot} c.accept_event.new.store plan c.args.moment (answers_pending R t o (external_event d d.kind d.done))) in
    subst P found (subst E c.external_event-event.ensures c.accept_event.ensures.plan)
