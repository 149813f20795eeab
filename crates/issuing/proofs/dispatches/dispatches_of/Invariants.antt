use Rattle.std.proofs.Common.{◌≡◌, ◌++◌}
use Rattle.std.specs.Prelude.{filter_map}
use Rattle.service_model.specs.Issued.{task_dispatch}
use Rattle.issuing.proofs.dispatches.dispatches_of.Given as goal

abbrev pub invariant-loop-event : goal.invariant-loop-event
invariant-loop-event l = filter_map (task_dispatch l.setup l.run) l.events ≡ l.found.items ++ filter_map (task_dispatch l.setup l.run) l.event-iterator
