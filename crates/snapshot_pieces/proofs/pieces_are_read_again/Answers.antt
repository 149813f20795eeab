use Rattle.std.proofs.Common.{refl}
use Rattle.snapshot_pieces.specs.Trees.{piece_text}
use Rattle.snapshot_pieces.proofs.PieceLemmas.{named}
use Rattle.snapshot_pieces.proofs.pieces_are_read_again.Goals as goal

pub returns : goal.returns
returns c = λ p h. named (piece_text p) p h refl
