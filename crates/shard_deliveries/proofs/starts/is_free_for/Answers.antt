use Rattle.std.proofs.Common.{ℕ, false, ap, Option}
use Rattle.std.specs.Prelude.{option_map}
use Rattle.wf_event_values.specs.declared.policies.ConflictPolicy.TheVariants.{Fail}
use Rattle.service_model.specs.Deliveries.{is_new}
use Rattle.service_model.specs.IdPolicy.{decide}
use Rattle.service_model.specs.Outcome.{run_at}
use Rattle.shard_store.specs.ShardView.{runs_in}
use Rattle.shard_deliveries.proofs.starts.is_free_for.Goals as goal

pub returns-in-None : goal.returns-in-None
unfolding decide
returns-in-None g c = ap (λ (o : Option ℕ). is_new (decide (option_map (λ n. (run_at (runs_in c.args.store.now) n).status) o) false c.args.child.now.reuse Fail)) c.in-None.ensures.found
