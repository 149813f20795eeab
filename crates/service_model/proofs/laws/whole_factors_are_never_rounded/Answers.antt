use Rattle.service_model.proofs.WaitLemmas.{grows-by-whole-factors}
use Rattle.service_model.proofs.laws.whole_factors_are_never_rounded.Goals as goal

pub returns : goal.returns
returns c = grows-by-whole-factors
