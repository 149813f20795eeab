use Rattle.std.proofs.lemmas.Result.{err_from_is_err_and}
use Rattle.std.proofs.Common.{◌≡◌, ◌∙◌, ap, string_bytes, sym}
use Rattle.snapshot_pieces.specs.declared.piece.Piece.TheVariants as piece
use Rattle.shard_snapshot.specs.Laid.{event_laid}
use Rattle.shard_snapshot.proofs.WrittenLemmas.{of-memory, written-more}
use Rattle.shard_snapshot.proofs.writing.Writing.write_event.Goals as goal

pub invariant_of-self-2 : goal.invariant_of-self-2
invariant_of-self-2 g c = λ whole.
    let now = c.self.inside in
    let h = c.self.invariant c.if-not-self.false in
    let same = c.in_ok-clone.ensures.cases in
    let copied : c.in_ok-clone.field-0 ≡ c.args.event.now = λ i. record { id = same.0 i; at = same.1.0 i; attributes = same.1.1 i } in
    let (m, is, laid) = c.in-Ok.ensures h.content h.is in
    written-more now.setup (string_bytes now.text) _ now.count now.shard c.put_event.new.self (piece.Event c.args.event.now) h c.known_event.ensures c.in_ok-add_event_line.ensures
    (m, ap (event_laid h.content) (sym copied) ∙ is, laid)

pub returns-then-self-clause-lays : goal.returns-then-self-clause-lays
returns-then-self-clause-lays g c = λ whole l laid. of-memory _ _

pub returns-in_err-add_event_line-clause-lays : goal.returns-in_err-add_event_line-clause-lays
returns-in_err-add_event_line-clause-lays g c = λ whole l laid.
    let p = err_from_is_err_and c.from_residual.result c.from_residual.ensures.1 in
    rw (p.1, p.2) (of-memory _ _)

pub returns-in_err-clone-clause-lays : goal.returns-in_err-clone-clause-lays
returns-in_err-clone-clause-lays g c = λ whole l laid.
    let p = err_from_is_err_and c.from_residual-in_err-clone.result c.from_residual-in_err-clone.ensures.1 in
    rw (p.1, p.2) (of-memory _ _)
