use Rattle.std.proofs.Common.{◌≡◌, ◌∙◌, sym, ap, subst, cond, true, false, Some}
use Rattle.std.specs.Prelude.{is_some}
use Rattle.service_model_types.specs.declared.answer.Answer.TheVariants.{Stale}
use Rattle.service_model.specs.Outcome.{Outcome, answered, has_run, run_at}
use Rattle.service_model.specs.Tasks.{take_row, pending_row}
use Rattle.shard_steps.specs.Attempts.{task_for}
use Rattle.shard_store.specs.Fitting.{FitsStep}
use Rattle.shard_store.specs.ShardView.{runs_at}
use Rattle.shard_steps.proofs.AttemptLemmas.{taking, taken-by}
use Rattle.shard.proofs.StartLemmas.{fits-answered}
use Rattle.shard.proofs.activities.take_activity.Goals as goal

pub returns-in_default-clause-plan : goal.returns-in_default-clause-plan
returns-in_default-clause-plan g c =
    let R = runs_at c.args.store.now c.args.moment in
    let h = c.args.wanted in
    let none : has_run R h.run ≡ false = c.place_of.ensures.some ∙ ap (λ o. is_some o) c.in_default.is in
    let P : Outcome → Type 0 = λ o. FitsStep {T = g.row.T.Denot} c.args.store.now c.answered.result c.args.moment o in
    subst P (sym (ap (λ b. cond b (take_row R h (pending_row (run_at R h.run) h.event)) (answered Stale)) none)) (fits-answered {T = g.row.T.Denot} c.args.store.now c.args.moment Stale c.answered.result c.answered.ensures)

pub returns-clause-plan : goal.returns-clause-plan
returns-clause-plan g c =
    let R = runs_at c.args.store.now c.args.moment in
    let h = c.args.wanted in
    let row = pending_row (run_at R h.run) h.event in
    let there : has_run R h.run ≡ true = c.place_of.ensures.some ∙ ap (λ o. is_some o) c.in-Some.is in
    let task : task_for R h row ≡ Some c.in-Some-2.task =
    ap (λ k. task_for R h (pending_row (run_at R k) h.event)) (sym c.in-Some.ensures.found) ∙ sym c.in_ok-task.ensures.task ∙ c.in-Some-2.is in
    let P : Outcome → Type 0 = λ o. FitsStep {T = g.row.T.Denot} c.take_attempt.new.store c.in_ok-plan.plan c.args.moment o in
    subst P (sym (ap (λ b. cond b (take_row R h row) (answered Stale)) there ∙ taken-by R h row ∙ ap (taking h) task)) c.in_ok-plan.ensures.plan
