use Rattle.service_model.proofs.AgingLawLemmas.{older-goes-first}
use Rattle.service_model.proofs.laws.the_older_run_goes_first.Goals as goal

pub returns : goal.returns
returns c = older-goes-first
