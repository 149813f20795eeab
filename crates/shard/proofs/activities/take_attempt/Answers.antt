use Rattle.std.proofs.Common.{sym, subst, ℕ, List, [], ◌∷◌}
use Rattle.service_model_types.specs.declared.answer.Answer.TheVariants.{ActivityTask}
use Rattle.service_model_types.specs.declared.journal.Fact.{Fact}
use Rattle.service_model_types.specs.declared.journal.Note.TheVariants.{Taken}
use Rattle.service_model.specs.Outcome.{adds, noted}
use Rattle.mutable_state.specs.Steps.{FitStep}
use Rattle.shard_store.specs.ShardView.{ordinal_of, run_in}
use Rattle.shard_store.specs.Fitting.{FitsStep}
use Rattle.shard_steps.proofs.AttemptLemmas.{taken-fits}
use Rattle.shard.proofs.activities.take_attempt.Goals as goal

pub add_facts-requires-clause-fits : goal.add_facts-requires-clause-fits
add_facts-requires-clause-fits g c =
    let P : List Fact → Type 0 = λ l. FitStep c.args.moment (run_in c.args.store.now c.args.index) l in
    subst P (sym c.in_ok-facts.ensures) (taken-fits c.args.moment c.args.wanted.event (run_in c.args.store.now c.args.index) c.requires.open c.requires.in_use)

pub returns-clause-plan : goal.returns-clause-plan
returns-clause-plan g c =
    let h = c.args.wanted in
    let P : List Fact → Type 0 = λ l. FitsStep {T = g.row.T.Denot} c.add_facts.new.store c.in_ok-plan.plan c.args.moment (adds (ordinal_of c.args.index) l (ActivityTask c.in_ok-boxed.boxed)) in
    let Q : ℕ → Type 0 = λ k. FitsStep {T = g.row.T.Denot} c.add_facts.new.store c.in_ok-plan.plan c.args.moment (adds k (noted h.event Taken ∷ []) (ActivityTask c.in_ok-boxed.boxed)) in
    let A : _ → Type 0 = λ t. FitsStep {T = g.row.T.Denot} c.add_facts.new.store c.in_ok-plan.plan c.args.moment (adds h.run (noted h.event Taken ∷ []) (ActivityTask t)) in
    subst A c.in_ok-boxed.ensures (subst Q c.requires.run (subst P c.in_ok-facts.ensures c.in_ok-plan.ensures.plan))
