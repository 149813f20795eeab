use Rattle.checkpoint_history.proofs.HistoryLemmas.{left-in-order}
use Rattle.checkpoint_history.proofs.histories.what_is_left_is_in_order.Goals as goal

pub returns : goal.returns
returns c = left-in-order c.transfers_go_on.ensures
