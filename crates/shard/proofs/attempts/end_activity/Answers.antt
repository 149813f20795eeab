use Rattle.std.proofs.Common.{◌≡◌, ◌∙◌, sym, ap, subst, true, List}
use Rattle.service_model_types.specs.declared.journal.Fact.{Fact}
use Rattle.service_model.specs.Activities.{ends_activity}
use Rattle.service_model.specs.Outcome.{Outcome, adds, run_at}
use Rattle.mutable_state.specs.Steps.{FitStep}
use Rattle.shard_store.specs.Fitting.{FitsStep}
use Rattle.shard_store.specs.ShardView.{ordinal_of, run_in, runs_at}
use Rattle.shard.specs.Running.{row_of}
use Rattle.shard_steps.proofs.EndingLemmas.{ending-fits}
use Rattle.shard.proofs.attempts.end_activity.Goals as goal

pub add_facts-requires-clause-fits : goal.add_facts-requires-clause-fits
add_facts-requires-clause-fits g c =
    let t = c.args.task in
    let s = run_in c.args.store.now c.args.attempt.now.index in
    let row = row_of c.args.attempt.now in
    let made : c.in_ok-facts.facts ≡ ends_activity s row c.args.last = c.in_ok-facts.ensures ∙ ap (λ x. ends_activity x row c.args.last) c.run-run.ensures in
    let P : List Fact → Type 0 = λ l. FitStep c.args.moment s l in
    subst P (sym made) (ending-fits c.args.moment s row c.args.last t.event true c.requires.running.open_run c.requires.running.pending_one c.requires.ends)

pub returns-clause-plan : goal.returns-clause-plan
returns-clause-plan g c =
    let R = runs_at c.args.store.now c.args.moment in
    let n = ordinal_of c.args.attempt.now.index in
    let row = row_of c.args.attempt.now in
    let last = c.args.last in
    let made : c.in_ok-facts.facts ≡ ends_activity (run_at R n) row last = c.in_ok-facts.ensures ∙ ap (λ x. ends_activity x row last) c.run-run.ensures in
    let P : Outcome → Type 0 = λ o. FitsStep {T = g.row.T.Denot} c.add_facts.new.store c.in_ok-plan.plan c.args.moment o in
    subst P (ap (λ l. adds n l c.args.answer) made ∙ ap (λ k. adds k (ends_activity (run_at R k) row last) c.args.answer) c.requires.running.place) c.in_ok-plan.ensures.plan
