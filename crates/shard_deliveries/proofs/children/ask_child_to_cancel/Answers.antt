use Rattle.wf_event_values.specs.declared.policies.CancelSource.TheVariants.{Parent}
use Rattle.service_model.specs.Outcome.{run_at}
use Rattle.shard_store.specs.ShardView.{ordinal_of, runs_in}
use Rattle.shard_deliveries.proofs.FitLemmas.{cancel-comes}
use Rattle.shard_deliveries.proofs.children.ask_child_to_cancel.Goals as goal

pub accept_event-requires-clause-outside : goal.accept_event-requires-clause-outside
accept_event-requires-clause-outside g c = cancel-comes (run_at (runs_in c.args.store.now) (ordinal_of c.args.index)) Parent c.requires.open
