use Rattle.snapshot_pieces.proofs.PieceLemmas.{one_piece}
use Rattle.snapshot_pieces.proofs.texts_are_of_one_piece.Goals as goal

pub returns : goal.returns
returns c = one_piece
