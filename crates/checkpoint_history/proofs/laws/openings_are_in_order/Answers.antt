use Rattle.checkpoint_history.proofs.OpeningLemmas.{openings-in-order}
use Rattle.checkpoint_history.proofs.laws.openings_are_in_order.Goals as goal

pub returns : goal.returns
returns c = openings-in-order
