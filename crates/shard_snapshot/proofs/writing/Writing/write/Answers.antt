use Rattle.std.proofs.lemmas.Result.{err_from_is_err_and}
use Rattle.std.proofs.Common.{string_bytes}
use Rattle.shard_snapshot.proofs.WrittenLemmas.{of-memory, written-more}
use Rattle.shard_snapshot.proofs.writing.Writing.write.Goals as goal

pub invariant_of-self-2 : goal.invariant_of-self-2
invariant_of-self-2 g c = λ whole.
    let now = c.self.inside in
    let h = c.self.invariant c.if-not-self.false in
    written-more now.setup (string_bytes now.text) _ now.count now.shard c.put.new.self c.args.piece h c.known_piece.ensures c.in_ok-add_piece_line.ensures (c.in-Ok.ensures h.content h.is)

pub returns-then-self-clause-lays : goal.returns-then-self-clause-lays
returns-then-self-clause-lays g c = λ whole is l laid. of-memory _ _

pub returns-in_err-add_piece_line-clause-lays : goal.returns-in_err-add_piece_line-clause-lays
returns-in_err-add_piece_line-clause-lays g c = λ whole is l laid.
    let p = err_from_is_err_and c.from_residual.result c.from_residual.ensures.1 in
    rw (p.1, p.2) (of-memory _ _)
