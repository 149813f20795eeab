use Rattle.std.proofs.Common.{◌∙◌, ap, arith}
use Rattle.std.proofs.lemmas.Result.{err_from_is_err_and}
use Rattle.shard_store.specs.ShardView.{ShardView, state}
use Rattle.shard_snapshot.specs.Restored.{RestoringView}
use Rattle.shard_snapshot.proofs.LaidLemmas.{end-err, end-ok}
use Rattle.shard_snapshot.proofs.PieceLemmas.{early, end-early, end-piece-err, end-piece-ok, in-time}
use Rattle.shard_snapshot.proofs.restoring.Restoring.end.Goals as goal

pub returns-in_err-end_run-clause-err : goal.returns-in_err-end_run-clause-err
returns-in_err-end_run-clause-err g c =
    let p = err_from_is_err_and c.from_residual.result c.from_residual.ensures.1 in
    rw (p.1, p.2) (λ l h other. end-piece-err l c.args.end.now _ (end-err c.args.self l _ h (c.in_err-end_run.ensures.store other)))

pub returns-then-millis-clause-err : goal.returns-then-millis-clause-err
returns-then-millis-clause-err g c = λ l h other.
    let now = state c.end_run.new.self.store in
    end-early l c.args.end.now now (end-ok c.args.self l now h c.in_ok-end_run.ensures.store)
    (early now.last c.args.end.now.last (let a = c.if-millis.true in let b = c.millis.ensures.value in let d = c.millis-2.ensures.value in let e = c.last.ensures in let f = ap (λ (r : RestoringView). r.store.last) c.all.view_is in omega (arith, a, b, d, e, f)))

pub returns-clause-ok : goal.returns-clause-ok
returns-clause-ok g c = λ l h.
    let now = state c.end_run.new.self.store in
    end-piece-ok _ l c.args.end.now now (end-ok c.args.self l now h c.in_ok-end_run.ensures.store)
    (in-time now.last c.args.end.now.last (let a = c.if-millis.false in let b = c.millis.ensures.value in let d = c.millis-2.ensures.value in let e = c.last.ensures in let f = ap (λ (r : RestoringView). r.store.last) c.all.view_is in omega (arith, a, b, d, e, f)))
    (c.restore_last.ensures ∙ ap (λ (v : ShardView). record (state v) { last = c.args.end.now.last }) c.into_store-store.ensures)
