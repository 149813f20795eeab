use Rattle.std.proofs.Common.{◌∙◌, ap, sym, max}
use Rattle.std.proofs.lemmas.Result.{err_from_is_err_and}
use Rattle.shard_store.specs.ShardView.{state}
use Rattle.mutable_state.specs.Steps.{begun}
use Rattle.shard_snapshot.specs.Laid.{beginning_with}
use Rattle.shard_snapshot.specs.Restored.{RestoringView, run_state, with_run_state}
use Rattle.shard_snapshot.proofs.LaidLemmas.{laid-none-waits, laid-same, place-err, place-ok, sound}
use Rattle.shard_snapshot.proofs.PieceLemmas.{begin-err, begin-ok, laid-by}
use Rattle.shard_snapshot.proofs.restoring.Restoring.begin_run.Goals as goal

pub returns-in_err-place_run : goal.returns-in_err-place_run
returns-in_err-place_run g c = λ l h.
    let p = err_from_is_err_and c.from_residual-in_err-place_run.result c.from_residual-in_err-place_run.ensures.1 in
    let r = c.none_waits.new.self in
    let same = laid-same c.args.self.now r l c.in_ok-none_waits.ensures.same c.in_ok-none_waits.ensures.run c.in_ok-none_waits.ensures.request h in
    rw (p.1, p.2) (λ other.
    ap (beginning_with l c.args.at) c.in-WorkflowExecutionStarted.is
    ∙ begin-err l c.args.at c.in-WorkflowExecutionStarted.started _ (laid-none-waits c.args.self.now l h c.in_ok-none_waits.ensures.ok)
    (place-err l.content r.run l.run _ same.run (ap (λ s. with_run_state s (run_state r.run)) (sym same.stands.says) ∙ c.in_err-place_run.ensures.store other)))

pub returns : goal.returns
returns g c = λ l h.
    let r = c.none_waits.new.self in
    let now = state c.place_run.new.self.store in
    let same = laid-same c.args.self.now r l c.in_ok-none_waits.ensures.same c.in_ok-none_waits.ensures.run c.in_ok-none_waits.ensures.request h in
    let asked = c.take-request.ensures.value ∙ ap (λ (x : RestoringView). x.request) c.self.view_is ∙ c.in_ok-place_run.ensures.request in
    let a = c.in-WorkflowExecutionStarted.started in
    let began = begin-ok r c.step.new.self l c.args.at a now c.in_ok-begin.field-0 (laid-none-waits c.args.self.now l h c.in_ok-none_waits.ensures.ok) same.request
    (place-ok l.content r.run l.run now (sound r.store l.content same.stands) same.run same.waits (ap (λ s. with_run_state s (run_state r.run)) (sym same.stands.says) ∙ c.in_ok-place_run.ensures.store))
    (c.in_ok-begin.ensures ∙ λ i. begun c.args.at (asked i) ((c.in_ok-started.ensures ∙ c.get.ensures) i))
    (c.step.ensures.store ∙ ap (λ (x : RestoringView). record (state x.store) { last = max c.args.at x.store.last }) c.self.view_is)
    c.step.ensures.run
    (c.step.ensures.request ∙ c.take-request.ensures.after) in
    laid-by c.step.new.self (beginning_with l c.args.at c.args.attributes.now) _ (ap (beginning_with l c.args.at) c.in-WorkflowExecutionStarted.is) began
