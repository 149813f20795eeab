use Rattle.std.proofs.Common.{sym, ap, ◌∙◌, subst, refl, ℕ, List}
use Rattle.std.specs.Prelude.{map, Some, Ok}
use Rattle.wf_event.specs.declared.attributes.Attributes.{Attributes}
use Rattle.wf_event_values.specs.declared.policies.Cause.TheVariants.{WorkflowWorkerUnhandledFailure}
use Rattle.service_model_types.specs.declared.answer.Answer.TheVariants.{Failed}
use Rattle.service_model.specs.Completion.{failed_task}
use Rattle.service_model.specs.Journal.{plain}
use Rattle.service_model.specs.Outcome.{Outcome, adds, run_at}
use Rattle.task_completion.specs.PlannedEnds.{IsPlanned}
use Rattle.shard_store.specs.Fitting.{FitsStep, view_at}
use Rattle.shard_store.specs.ShardView.{ordinal_of, runs_at}
use Rattle.shard_store.specs.declared.plan.Plan.{Plan}
use Rattle.shard_store.proofs.IndexLemmas.{at-place}
use Rattle.shard_steps.proofs.TaskLemmas.{running-started}
use Rattle.shard.proofs.TaskLemmas.{ended-fits}
use Rattle.shard.proofs.tasks.fail_running_task.Goals as goal

pub fail_in-requires-clause-started : goal.fail_in-requires-clause-started
fail_in-requires-clause-started g c = let R = runs_at c.args.store.now c.args.moment in ap (λ s. s.task) (sym (at-place R c.args.index)) ∙ ap (λ k. (run_at R k).task) c.requires.run ∙ running-started R c.args.request.now.task c.requires.runs

pub returns-clause-plan : goal.returns-clause-plan
returns-clause-plan g c =
    let old = c.args.store.now in
    let R = runs_at old c.args.moment in
    let i = c.args.index in
    let q = c.args.request.now in
    let v = c.fail_in.new.self in
    let failed : ℕ → List ℕ → List Attributes = λ k m. failed_task (run_at R k) WorkflowWorkerUnhandledFailure m in
    let planned : IsPlanned (view_at v.runs i) c.args.moment (failed (ordinal_of i) q.message) c.in_ok-plan.plan = subst (λ m. IsPlanned (view_at v.runs i) c.args.moment (failed (ordinal_of i) m) c.in_ok-plan.plan) c.in_ok-message.ensures.cases
    (subst (λ s. IsPlanned (view_at v.runs i) c.args.moment (failed_task s WorkflowWorkerUnhandledFailure c.in_ok-message.message) c.in_ok-plan.plan) (sym (at-place R i)) c.in_ok-plan.ensures.plan) in
    let o : Outcome = adds q.task.run (map plain (failed q.task.run q.message)) Failed in
    let P : Plan g.row.T.Denot → Type 0 = λ plan. FitsStep v plan c.args.moment o in
    subst P (sym c.adding.ensures) (ended-fits {T = g.row.T.Denot} v old c.args.moment i c.in_ok-plan.plan (failed (ordinal_of i) q.message) (Ok Failed) o c.in_ok-plan.ensures.same c.in_ok-plan.ensures.there c.in_ok-plan.ensures.caught_up planned
    (ap (λ k. Some (record { run = k; facts = map plain (failed k q.message) })) (sym c.requires.run)) refl refl refl refl refl)
