use Rattle.std.proofs.Common.{ap, sym, ◌∙◌}
use Rattle.checkpoints.specs.Queues.{knows_run}
use Rattle.checkpoints.proofs.QueueLemmas.{none-named}
use Rattle.checkpoints.proofs.queues.knows_run_at.Goals as goal

pub returns-in-None : goal.returns-in-None
returns-in-None g c = sym (ap (knows_run c.args.store.now.setup) c.in-None.ensures.none ∙ none-named c.args.store.now.setup)
