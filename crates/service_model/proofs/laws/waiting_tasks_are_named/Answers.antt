use Rattle.service_model.proofs.NamedLemmas.{waiting-are-named}
use Rattle.service_model.proofs.laws.waiting_tasks_are_named.Goals as goal

pub returns : goal.returns
returns c = waiting-are-named
