use Rattle.checkpoint_history.proofs.HistoryLemmas.{resumed-begun, resumed-in-order}
use Rattle.checkpoint_history.proofs.histories.resumed_services_begin_there.Goals as goal

pub returns-clause-begun : goal.returns-clause-begun
returns-clause-begun c = resumed-begun

pub returns-clause-ordered : goal.returns-clause-ordered
returns-clause-ordered c = resumed-in-order
