use Rattle.snapshot_pieces.proofs.PieceLemmas.{one_line}
use Rattle.snapshot_pieces.proofs.pieces_are_one_line.Goals as goal

pub returns : goal.returns
returns c = one_line
