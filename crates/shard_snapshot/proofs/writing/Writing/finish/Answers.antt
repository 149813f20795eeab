use Rattle.std.proofs.lemmas.Result.{err_from_is_err_and}
use Rattle.std.proofs.Common.{refl, string_bytes}
use Rattle.shard_snapshot.proofs.WrittenLemmas.{of-memory, written-end}
use Rattle.shard_snapshot.proofs.writing.Writing.finish.Goals as goal

pub returns-in-Ok-clause-ok : goal.returns-in-Ok-clause-ok
returns-in-Ok-clause-ok g c =
    let now = c.self.inside in
    let h = c.self.invariant c.if-not-self.false in
    written-end now.setup (string_bytes now.text) _ now.count now.shard (record { last = c.args.last; lines = now.count }) c.in-Ok.store h c.known_piece.ensures refl c.in_ok-add_piece_line.ensures
    (c.in-Ok.ensures.ok h.content h.is)

pub returns-then-self-clause-err : goal.returns-then-self-clause-err
returns-then-self-clause-err g c = λ whole l laid. of-memory _ _

pub returns-in_err-add_piece_line-clause-err : goal.returns-in_err-add_piece_line-clause-err
returns-in_err-add_piece_line-clause-err g c =
    let p = err_from_is_err_and c.from_residual.result c.from_residual.ensures.1 in
    rw (p.1, p.2) (λ whole l laid. of-memory _ _)
