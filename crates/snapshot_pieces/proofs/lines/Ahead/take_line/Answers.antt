use Rattle.std.proofs.Common.{◌≡◌, ◌∷◌, ◌++◌, ◌+◌, ◌∙◌, sym, ap, drop, length, take, append_assoc}
use Rattle.snapshot_pieces.specs.Trees.{line_of}
use Rattle.snapshot_pieces.proofs.LineLemmas.{free, no_piece, taken}
use Rattle.snapshot_pieces.proofs.lines.Ahead.take_line.Goals as goal

pub returns-in_default-2-clause-fault : goal.returns-in_default-2-clause-fault
returns-in_default-2-clause-fault c =
    let from = c.self.inside.from in
    let to = c.self.inside.to in
    let line = c.self.inside.line.items in
    let part = c.in-Some.part.now in
    let behind = c.in-Some.field-0-1.now in
    let rest : drop from (take to c.self.inside.chunk.items) ≡ part ++ 10 ∷ behind = ap (λ ys. drop from (take to ys)) (sym c.deref.ensures.value) ∙ sym c.split_at.ensures.back ∙ c.in-Some.ensures.parts in
    record {
      line = line ++ part;
      behind = behind;
      parts = sym c.self.view_is ∙ ap (λ t. line ++ t) rest ∙ sym (append_assoc line part (10 ∷ behind));
      first = free line part c.self.invariant.0 c.in-Some.ensures.first;
      none = λ p h t. no_piece p (sym c.in_default-2.is ∙ c.in_ok-piece.ensures.only p h (c.as_slice.ensures.value ∙ c.in_ok-extend_from_slice.ensures.items ∙ t));
    }

pub returns-clause-piece : goal.returns-clause-piece
returns-clause-piece c =
    let from = c.self.inside.from in
    let to = c.self.inside.to in
    let line = c.self.inside.line.items in
    let part = c.in-Some.part.now in
    let xs = take to c.self.inside.chunk.items in
    let behind = c.in-Some.field-0-1.now in
    let rest : drop from xs ≡ part ++ 10 ∷ behind = ap (λ ys. drop from (take to ys)) (sym c.deref.ensures.value) ∙ sym c.split_at.ensures.back ∙ c.in-Some.ensures.parts in
    let two = rw c.in-Some-2.is at c.in_ok-piece.ensures.found in
    let own = sym (c.as_slice.ensures.value ∙ c.in_ok-extend_from_slice.ensures.items) ∙ two.1 in
    let left = taken from xs line part behind c.in-Some-2.piece rest own in
    (two.0, sym c.self.view_is ∙ left ∙ ap (λ l. line_of c.in-Some-2.piece ++ (l ++ drop (from + (length part + 1)) xs)) (sym c.clear.ensures.items))
