use Rattle.std.proofs.Common.{◌∙◌, sym, ap, subst, List, [], ◌∷◌, IfOk}
use Rattle.wf_event.specs.declared.attributes.Attributes.TheVariants.{WorkflowExecutionTerminated}
use Rattle.service_model_types.specs.declared.answer.Answer.TheVariants.{Terminated}
use Rattle.service_model_types.specs.declared.journal.Fact.{Fact}
use Rattle.service_model.specs.Journal.{plain}
use Rattle.service_model.specs.Outcome.{Outcome, adds}
use Rattle.mutable_state.specs.Steps.{FitStep}
use Rattle.shard_store.specs.ShardView.{ordinal_of, run_in}
use Rattle.shard_store.specs.Fitting.{FitsStep}
use Rattle.shard_steps.proofs.StartLemmas.{terminate-fits}
use Rattle.shard.proofs.ends.terminate_run.Goals as goal

pub add_facts-requires-clause-fits : goal.add_facts-requires-clause-fits
add_facts-requires-clause-fits g c =
    let s = run_in c.args.store.now c.args.index in
    subst (λ (l : List Fact). FitStep c.args.moment s l) (sym c.in_ok-facts.ensures) (terminate-fits c.args.moment s c.in_ok-reason.reason c.requires.open)

pub returns-clause-plan : goal.returns-clause-plan
returns-clause-plan g c =
    let P : Outcome → Type 0 = λ o. IfOk c.add_facts.result (λ plan. FitsStep c.add_facts.new.store plan c.args.moment o) in
    subst P (ap (λ l. adds (ordinal_of c.args.index) l Terminated) (c.in_ok-facts.ensures ∙ ap (λ r. plain (WorkflowExecutionTerminated r) ∷ []) c.in_ok-reason.ensures.cases)) c.add_facts.ensures.plan
