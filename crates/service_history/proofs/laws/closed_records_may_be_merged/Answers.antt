use Rattle.history.proofs.RunLemmas.{history-ticketed}
use Rattle.service.specs.AtClose.{base_of}
use Rattle.service_history.proofs.laws.closed_records_may_be_merged.Goals as goal

pub returns : goal.returns
returns c = λ x records tickets h. history-ticketed _ (base_of x) h.bases _ records tickets h.count h.history
