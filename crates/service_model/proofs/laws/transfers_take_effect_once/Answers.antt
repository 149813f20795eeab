use Rattle.service_model.proofs.TakenLemmas.{accepts-exactly}
use Rattle.service_model.proofs.laws.transfers_take_effect_once.Goals as goal

pub returns : goal.returns
returns c = accepts-exactly
