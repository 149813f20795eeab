use Rattle.snapshot_pieces.proofs.ReadLemmas.{all_read, none_read, one_more}
use Rattle.snapshot_pieces.proofs.pieces_are_read_one_after_another.Goals as goal

pub returns-clause-begun : goal.returns-clause-begun
returns-clause-begun c = none_read

pub returns-clause-more : goal.returns-clause-more
returns-clause-more c = one_more

pub returns-clause-all : goal.returns-clause-all
returns-clause-all c = all_read
