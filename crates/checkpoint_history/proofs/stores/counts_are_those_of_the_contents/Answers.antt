use Rattle.checkpoint_history.proofs.StoreLemmas.{counts-same}
use Rattle.checkpoint_history.proofs.stores.counts_are_those_of_the_contents.Goals as goal

pub returns : goal.returns
returns c = counts-same
