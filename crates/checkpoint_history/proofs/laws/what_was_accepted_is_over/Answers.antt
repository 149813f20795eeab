use Rattle.checkpoint_history.proofs.OverLemmas.{never-again}
use Rattle.checkpoint_history.proofs.laws.what_was_accepted_is_over.Goals as goal

pub returns : goal.returns
returns c = never-again
