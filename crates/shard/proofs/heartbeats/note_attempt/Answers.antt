use Rattle.std.proofs.Common.{sym, subst, ℕ, List, [], ◌∷◌}
use Rattle.service_model_types.specs.declared.journal.Fact.{Fact}
use Rattle.service_model.specs.Outcome.{adds, noted}
use Rattle.mutable_state.specs.Steps.{FitStep}
use Rattle.shard_store.specs.Fitting.{FitsStep}
use Rattle.shard_store.specs.ShardView.{ordinal_of, run_in}
use Rattle.shard_steps.proofs.EndingLemmas.{note-fits}
use Rattle.shard.proofs.heartbeats.note_attempt.Goals as goal

pub add_facts-requires-clause-fits : goal.add_facts-requires-clause-fits
add_facts-requires-clause-fits g c =
    let s = run_in c.args.store.now c.args.index in
    let has = c.requires.attempt.1 in
    let P : List Fact → Type 0 = λ l. FitStep c.args.moment s l in
    subst P (sym c.in_ok-facts.ensures) (note-fits c.args.moment c.args.task.event s c.args.note has.open_run has.pending_one c.requires.may)

pub returns-clause-plan : goal.returns-clause-plan
returns-clause-plan g c =
    let t = c.args.task in
    let has = c.requires.attempt.1 in
    let F : List Fact → Type 0 = λ l. FitsStep {T = g.row.T.Denot} c.add_facts.new.store c.in_ok-plan.plan c.args.moment (adds (ordinal_of c.args.index) l c.args.answer) in
    let P : ℕ → Type 0 = λ k. FitsStep {T = g.row.T.Denot} c.add_facts.new.store c.in_ok-plan.plan c.args.moment (adds k (noted t.event c.args.note ∷ []) c.args.answer) in
    subst P has.place (subst F c.in_ok-facts.ensures c.in_ok-plan.ensures.plan)
