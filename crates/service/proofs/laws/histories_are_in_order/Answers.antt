use Rattle.service.proofs.HistoryLemmas.{histories-in-order}
use Rattle.service.proofs.laws.histories_are_in_order.Goals as goal

pub returns : goal.returns
returns c = histories-in-order
