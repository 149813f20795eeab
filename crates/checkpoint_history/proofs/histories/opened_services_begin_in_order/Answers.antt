use Rattle.checkpoint_history.proofs.HistoryLemmas.{opened-begun}
use Rattle.checkpoint_history.proofs.histories.opened_services_begin_in_order.Goals as goal

pub returns : goal.returns
returns c = opened-begun c.openings_are_in_order.ensures
