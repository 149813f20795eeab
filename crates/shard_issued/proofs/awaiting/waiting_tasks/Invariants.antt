use Rattle.std.proofs.Common.{◌≡◌, ◌++◌}
use Rattle.std.specs.Prelude.{filter_map}
use Rattle.service_model.specs.Issued.{task_dispatch}
use Rattle.shard_issued.specs.Awaiting.{still_waiting}
use Rattle.shard_issued.proofs.awaiting.waiting_tasks.Given as goal

abbrev pub invariant-loop-dispatch : goal.invariant-loop-dispatch
invariant-loop-dispatch g l = (l.waiting.items ≡ filter_map (still_waiting l.setup l.ordinal l.run.state) l.yielded) × (filter_map (task_dispatch l.setup l.ordinal) l.run.state.shown ≡ l.yielded ++ l.dispatch-iterator.rest.items)
