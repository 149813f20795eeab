use Rattle.snapshot_pieces.proofs.ListLemmas.{one_list}
use Rattle.snapshot_pieces.proofs.texts_are_of_one_list.Goals as goal

pub returns : goal.returns
returns c = one_list
