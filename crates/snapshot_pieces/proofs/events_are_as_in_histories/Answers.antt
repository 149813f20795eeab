use Rattle.snapshot_pieces.proofs.PieceLemmas.{as_in_histories}
use Rattle.snapshot_pieces.proofs.events_are_as_in_histories.Goals as goal

pub returns : goal.returns
returns c = as_in_histories
