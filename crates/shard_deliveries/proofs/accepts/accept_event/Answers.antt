use Rattle.std.proofs.Common.{◌≡◌, ◌∙◌, List, [], ◌∷◌, Some, None, IfOk, ap, subst, sym}
use Rattle.std.specs.Prelude.{option_to_list}
use Rattle.service_model_types.specs.declared.journal.Fact.{Fact}
use Rattle.service_model.specs.Deliveries.{accepts}
use Rattle.service_model.specs.Journal.{plain}
use Rattle.service_model.specs.Outcome.{outside, run_at}
use Rattle.service_model.specs.RunState.{RunState}
use Rattle.mutable_state.specs.Steps.{FitStep}
use Rattle.shard_store.specs.Fitting.{FitsStep}
use Rattle.shard_store.specs.ShardView.{ordinal_of, runs_in}
use Rattle.shard_deliveries.proofs.FitLemmas.{outside-fits}
use Rattle.shard_deliveries.proofs.accepts.accept_event.Goals as goal

pub accept_facts-requires-clause-fits : goal.accept_facts-requires-clause-fits
accept_facts-requires-clause-fits g c =
    let s = run_at (runs_in c.args.store.now) (ordinal_of c.args.index) in
    let facts : c.in_ok-facts.facts ≡ outside s (plain c.args.event ∷ []) = c.in_ok-facts.ensures ∙ ap (λ (r : RunState). outside r (plain c.args.event ∷ [])) c.run.ensures in
    subst (λ (l : List Fact). FitStep c.args.moment s l) (sym facts) (outside-fits c.args.moment s c.args.event c.requires.outside)

pub returns-clause-plan : goal.returns-clause-plan
returns-clause-plan g c =
    let facts = c.in_ok-facts.ensures ∙ ap (λ (r : RunState). outside r (plain c.args.event ∷ [])) c.run.ensures in
    let P : List Fact → Type 0 = λ l. IfOk c.accept_facts.result (λ plan. FitsStep c.accept_facts.new.store plan c.args.moment (accepts c.args.transfer.now (Some (record { run = ordinal_of c.args.index; facts = l })) None (option_to_list c.args.answer))) in
    subst P facts c.accept_facts.ensures.plan
