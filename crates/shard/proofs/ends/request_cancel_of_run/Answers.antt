use Rattle.std.proofs.Common.{◌≡◌, ◌∙◌, sym, ap, subst, List, [], ◌∷◌, IfOk, Option, Some, None}
use Rattle.wf_event.specs.declared.attributes.Attributes.TheVariants.{WorkflowExecutionCancelRequested}
use Rattle.wf_event_values.specs.declared.policies.CancelSource.TheVariants.{Client}
use Rattle.service_model_types.specs.declared.answer.Answer.TheVariants.{CancelRequested}
use Rattle.service_model_types.specs.declared.journal.CancelRequest.{CancelRequest}
use Rattle.service_model_types.specs.declared.journal.Fact.{Fact}
use Rattle.service_model.specs.Cancels.{cancel_open}
use Rattle.service_model.specs.Outcome.{Outcome, outside, adds, made_by}
use Rattle.mutable_state.specs.Steps.{FitStep}
use Rattle.shard_store.specs.ShardView.{ordinal_of, run_in, runs_at}
use Rattle.shard_store.specs.Fitting.{FitsStep}
use Rattle.shard_steps.proofs.StartLemmas.{cancel-fits}
use Rattle.shard.proofs.ends.request_cancel_of_run.Goals as goal

pub returns-in-Some-clause-plan : goal.returns-in-Some-clause-plan
returns-in-Some-clause-plan g c =
    let R = runs_at c.args.store.now c.args.moment in
    let q = c.args.request.now in
    let there : run_in c.args.store.now c.args.index ≡ c.run.result.now.state =
    sym c.run.ensures in
    let some : Some c.in-Some.before ≡ (run_in c.args.store.now c.args.index).cancel_request = sym c.in-Some.is ∙ c.in_ok-before.ensures ∙ ap (λ s. s.cancel_request) (sym there) in
    let P : Option CancelRequest → Type 0 = λ o. FitsStep c.args.store.now c.request_cancel_again.result c.args.moment (cancel_open R q (ordinal_of c.args.index) o) in
    subst P some c.request_cancel_again.ensures

pub add_facts-requires-clause-fits : goal.add_facts-requires-clause-fits
add_facts-requires-clause-fits g c =
    let R = runs_at c.args.store.now c.args.moment in
    let s = run_in c.args.store.now c.args.index in
    let fact = made_by c.args.request.now.request_id (WorkflowExecutionCancelRequested Client) in
    let again : s ≡ c.run-2.result.now.state =
    sym c.run-2.ensures in
    let facts : c.in_ok-facts.facts ≡ outside s (fact ∷ []) = c.in_ok-facts.ensures ∙ ap (λ x. outside x (fact ∷ [])) (sym again) in
    subst (λ (l : List Fact). FitStep c.args.moment s l) (sym facts) (cancel-fits c.args.moment s c.args.request.now.request_id c.requires.open)

pub returns-clause-plan : goal.returns-clause-plan
returns-clause-plan g c =
    let R = runs_at c.args.store.now c.args.moment in
    let q = c.args.request.now in
    let s = run_in c.args.store.now c.args.index in
    let fact = made_by q.request_id (WorkflowExecutionCancelRequested Client) in
    let there : s ≡ c.run.result.now.state =
    sym c.run.ensures in
    let again : s ≡ c.run-2.result.now.state =
    sym c.run-2.ensures in
    let facts : c.in_ok-facts.facts ≡ outside s (fact ∷ []) = c.in_ok-facts.ensures ∙ ap (λ x. outside x (fact ∷ [])) (sym again) in
    let none : None ≡ s.cancel_request = sym c.in_default.is ∙ c.in_ok-before.ensures ∙ ap (λ x. x.cancel_request) (sym there) in
    let P : Outcome → Type 0 = λ o. IfOk c.add_facts.result (λ plan. FitsStep c.add_facts.new.store plan c.args.moment o) in
    subst P (ap (λ l. adds (ordinal_of c.args.index) l CancelRequested) facts ∙ ap (cancel_open R q (ordinal_of c.args.index)) none) c.add_facts.ensures.plan
