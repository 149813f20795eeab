use Rattle.std.proofs.Common.{◌∙◌, List, [], ◌∷◌, Some, None, IfOk, ap, subst, sym}
use Rattle.wf_event.specs.declared.attributes.Attributes.TheVariants.{WorkflowExecutionTerminated}
use Rattle.service_model_types.specs.declared.journal.Fact.{Fact}
use Rattle.service_model.specs.Deliveries.{accepts}
use Rattle.service_model.specs.Journal.{plain}
use Rattle.service_model.specs.Outcome.{run_at}
use Rattle.mutable_state.specs.Steps.{FitStep}
use Rattle.shard_steps.proofs.StartLemmas.{terminate-fits}
use Rattle.shard_store.specs.Fitting.{FitsStep}
use Rattle.shard_store.specs.ShardView.{ordinal_of, runs_in}
use Rattle.shard_deliveries.proofs.children.terminate_child.Goals as goal

pub accept_facts-requires-clause-fits : goal.accept_facts-requires-clause-fits
accept_facts-requires-clause-fits g c =
    let s = run_at (runs_in c.args.store.now) (ordinal_of c.args.index) in
    subst (λ (l : List Fact). FitStep c.args.moment s l) (sym c.in_ok-facts.ensures) (terminate-fits c.args.moment s c.in_ok-reason.reason c.requires.open)

pub returns-clause-plan : goal.returns-clause-plan
returns-clause-plan g c =
    let P : List Fact → Type 0 = λ l. IfOk c.accept_facts.result (λ plan. FitsStep c.accept_facts.new.store plan c.args.moment (accepts c.args.transfer.now (Some (record { run = ordinal_of c.args.index; facts = l })) None [])) in
    subst P (c.in_ok-facts.ensures ∙ ap (λ r. plain (WorkflowExecutionTerminated r) ∷ []) c.in_ok-reason.ensures) c.accept_facts.ensures.plan
