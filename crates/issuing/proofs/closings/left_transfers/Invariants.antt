use Rattle.std.proofs.Common.{◌≡◌, ◌++◌}
use Rattle.std.specs.Prelude.{filter_map}
use Rattle.issuing.specs.Settled.{left_transfer}
use Rattle.issuing.proofs.closings.left_transfers.Given as goal

abbrev pub invariant-loop-event : goal.invariant-loop-event
invariant-loop-event l = filter_map (left_transfer l.setup l.run l.events) l.events ≡ l.found.items ++ filter_map (left_transfer l.setup l.run l.events) l.event-iterator
