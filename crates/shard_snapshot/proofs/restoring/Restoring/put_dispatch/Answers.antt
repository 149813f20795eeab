use Rattle.std.proofs.Common.{◌∙◌, ◌∷◌, [], ap, sym}
use Rattle.std.proofs.lemmas.Result.{err_from_is_err_and}
use Rattle.service_model_types.specs.declared.content.Setup.{Setup}
use Rattle.shard_store.specs.ShardView.{state}
use Rattle.transfer.specs.Logs.{with_issued}
use Rattle.shard_snapshot.specs.Restored.{RestoringView}
use Rattle.shard_snapshot.proofs.LaidLemmas.{end-err, end-ok}
use Rattle.shard_snapshot.proofs.PieceLemmas.{alike, differ, dispatch-err, dispatch-ok, dispatch-other}
use Rattle.shard_snapshot.proofs.restoring.Restoring.put_dispatch.Goals as goal

pub returns-in_err-end_run : goal.returns-in_err-end_run
returns-in_err-end_run g c = λ l h.
    let p = err_from_is_err_and c.from_residual.result c.from_residual.ensures.1 in
    rw (p.1, p.2) (λ other. dispatch-err l c.args.dispatch _ (end-err c.args.self.now l _ h (c.in_err-end_run.ensures.store other)))

pub returns-then-dispatch-setup : goal.returns-then-dispatch-setup
returns-then-dispatch-setup g c = λ l h other.
    let now = state c.end_run.new.self.store in
    let shard = ap (λ (s : Setup). s.shard) c.setup.ensures.value ∙ ap (λ (r : RestoringView). r.store.setup.shard) c.self.view_is in
    dispatch-other l c.args.dispatch now (end-ok c.args.self.now l now h c.in_ok-end_run.ensures.store) (differ c.args.dispatch.hint.shard now.setup.shard (λ e. c.if-dispatch-setup.true (e ∙ sym shard)))

pub returns : goal.returns
returns g c = λ l h.
    let now = state c.end_run.new.self.store in
    let shard = ap (λ (s : Setup). s.shard) c.setup.ensures.value ∙ ap (λ (r : RestoringView). r.store.setup.shard) c.self.view_is in
    dispatch-ok _ l c.args.dispatch now (end-ok c.args.self.now l now h c.in_ok-end_run.ensures.store) (alike c.args.dispatch.hint.shard now.setup.shard (c.if-dispatch-setup.false ∙ shard))
    (c.in_ok-restore_dispatch.ensures ∙ ap (λ (r : RestoringView). record (state r.store) { waiting = with_issued (state r.store).waiting (c.args.dispatch ∷ []) }) c.self.view_is) (ap (λ (r : RestoringView). r.run) c.self.view_is ∙ c.in_ok-end_run.ensures.run) (ap (λ (r : RestoringView). r.request) c.self.view_is ∙ c.in_ok-end_run.ensures.request)
