use Rattle.checkpoint_history.proofs.RunLemmas.{goes-on}
use Rattle.checkpoint_history.proofs.laws.transfers_go_on.Goals as goal

pub returns : goal.returns
returns c = goes-on
