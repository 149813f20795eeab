use Rattle.std.proofs.Common.{◌≡◌, ◌+◌, sym, ap, ◌∙◌, subst, cond, ℕ, List, [], ◌∷◌, length, IfOk}
use Rattle.wf_event.specs.declared.attributes.Attributes.TheVariants.{WorkflowTaskStarted}
use Rattle.wf_event_values.specs.Run.{Run}
use Rattle.service_model_types.specs.declared.answer.Answer.{Answer}
use Rattle.service_model_types.specs.declared.answer.Answer.TheVariants.{WorkflowTask, Stale}
use Rattle.service_model_types.specs.declared.journal.Fact.{Fact}
use Rattle.service_model.specs.Journal.{plain}
use Rattle.service_model.specs.Outcome.{Outcome, run_at, run_id, adds, answered}
use Rattle.service_model.specs.RunState.{RunState, id_of}
use Rattle.mutable_state.specs.Steps.{FitStep}
use Rattle.shard_store.specs.ShardView.{ordinal_of, run_in, runs_at}
use Rattle.shard_store.specs.Fitting.{FitsStep}
use Rattle.shard_steps.proofs.TaskLemmas.{waiting-scheduled, take-fits}
use Rattle.shard.proofs.tasks.take_waiting_task.Goals as goal

pub add_facts-requires-clause-fits : goal.add_facts-requires-clause-fits
add_facts-requires-clause-fits g c =
    let R = runs_at c.args.store.now c.args.moment in
    let s = run_in c.args.store.now c.args.index in
    let scheduled = ap (λ k. (run_at R k).task) c.requires.run ∙ waiting-scheduled R c.args.wanted c.requires.waits in
    subst (λ (l : List Fact). FitStep c.args.moment s l) (sym c.in_ok-facts.ensures) (take-fits c.args.moment c.args.wanted.event s c.requires.open scheduled)

pub returns-clause-plan : goal.returns-clause-plan
returns-clause-plan g c =
    let R = runs_at c.args.store.now c.args.moment in
    let h = c.args.wanted in
    let n = ordinal_of c.args.index in
    let T : Run → ℕ → List ℕ → Answer = λ r k i. WorkflowTask (record { attempt = h.attempt; run = r; scheduled = h.event; started = k; workflow_id = i }) in
    let A : ℕ → Answer = λ k. T (run_id R.setup k) (length (run_at R k).shown + 1) (id_of (run_at R k)) in
    let started : c.in_ok-shown.shown + 1 ≡ length (run_at R n).shown + 1 = ap (λ k. k + 1) (c.in_ok-shown.ensures.count ∙ ap (λ (x : RunState). length x.shown) c.run.ensures) in
    let id : c.in_ok-clone.field-0 ≡ id_of (run_at R n) = c.in_ok-clone.ensures.cases ∙ c.workflow_id.ensures ∙ ap id_of c.run-2.ensures in
    let task : T c.run_id.result (c.in_ok-shown.shown + 1) c.in_ok-clone.field-0 ≡ A n =
    ap (λ r. T r (c.in_ok-shown.shown + 1) c.in_ok-clone.field-0) c.run_id.ensures ∙ ap (λ k. T (run_id R.setup n) k c.in_ok-clone.field-0) started ∙ ap (T (run_id R.setup n) (length (run_at R n).shown + 1)) id in
    let facts : List Fact = plain (WorkflowTaskStarted h.event) ∷ [] in
    let P : Outcome → Type 0 = λ o. IfOk c.add_facts.result (λ plan. FitsStep c.add_facts.new.store plan c.args.moment o) in
    subst P (ap (λ l. adds n l (T c.run_id.result (c.in_ok-shown.shown + 1) c.in_ok-clone.field-0)) c.in_ok-facts.ensures ∙ ap (adds n facts) task
    ∙ ap (λ k. adds k facts (A k)) c.requires.run ∙ sym (ap (λ b. cond b (adds h.run facts (A h.run)) (answered Stale)) c.requires.waits)) c.add_facts.ensures.plan
