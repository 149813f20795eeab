use Rattle.std.proofs.Common.{◌∙◌, ◌∷◌, [], ap, sym}
use Rattle.std.proofs.lemmas.Result.{err_from_is_err_and}
use Rattle.shard_store.specs.ShardView.{ShardState, state}
use Rattle.transfer.specs.Outboxes.{with_all_sent}
use Rattle.shard_snapshot.specs.Laid.{sent}
use Rattle.shard_snapshot.specs.Restored.{RestoringView}
use Rattle.shard_snapshot.proofs.LaidLemmas.{end-err, end-ok}
use Rattle.shard_snapshot.proofs.PieceLemmas.{transfer-err, transfer-ok, transfer-other}
use Rattle.shard_snapshot.proofs.restoring.Restoring.put_transfer.Goals as goal

pub returns-in_err-end_run : goal.returns-in_err-end_run
returns-in_err-end_run g c = λ l h.
    let p = err_from_is_err_and c.from_residual.result c.from_residual.ensures.1 in
    rw (p.1, p.2) (λ other. transfer-err l c.args.piece.now _ (end-err c.args.self.now l _ h (c.in_err-end_run.ensures.store other)))

pub returns-then-not-branch : goal.returns-then-not-branch
returns-then-not-branch g c = λ l h other.
    let now = state c.end_run.new.self.store in
    transfer-other l c.args.piece.now now (end-ok c.args.self.now l now h c.in_ok-end_run.ensures.store) (sym c.in_ok-is_next.ensures.next ∙ c.if-not-branch.true)

pub returns : goal.returns
returns g c = λ l h.
    let now = state c.end_run.new.self.store in
    transfer-ok _ l c.args.piece.now now (end-ok c.args.self.now l now h c.in_ok-end_run.ensures.store) (sym c.in_ok-is_next.ensures.next ∙ c.if-not-branch.false)
    (c.in_ok-restore_transfer.ensures ∙ ap (λ o. record (state c.self.inside.store) { outgoing = with_all_sent (record { to = c.args.piece.now.to; content = o } ∷ []) 0 (state c.self.inside.store).outgoing }) c.in_ok-copied.ensures
    ∙ ap (λ (r : RestoringView). record (state r.store) { outgoing = with_all_sent (sent c.args.piece.now ∷ []) 0 (state r.store).outgoing }) c.self.view_is
    ∙ ap (λ (s : ShardState). record s { outgoing = with_all_sent (sent c.args.piece.now ∷ []) 0 s.outgoing }) c.in_ok-is_next.ensures.same)
    (ap (λ (r : RestoringView). r.run) c.self.view_is ∙ c.in_ok-is_next.ensures.run ∙ c.in_ok-end_run.ensures.run)
    (ap (λ (r : RestoringView). r.request) c.self.view_is ∙ c.in_ok-is_next.ensures.request ∙ c.in_ok-end_run.ensures.request)
