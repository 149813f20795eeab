use Rattle.std.proofs.Common.{◌∙◌}
use Rattle.snapshot_pieces.proofs.PieceLemmas.{found, named}
use Rattle.snapshot_pieces.proofs.reading.piece_by_text.Goals as goal

pub returns-clause-found : goal.returns-clause-found
returns-clause-found c = found c.args.bytes.now c.in_ok-piece.piece c.in_ok-piece.ensures.named c.in_ok-piece.ensures.found

pub returns-clause-only : goal.returns-clause-only
returns-clause-only c p h t = c.in_ok-piece.ensures.named ∙ named c.args.bytes.now p h t
