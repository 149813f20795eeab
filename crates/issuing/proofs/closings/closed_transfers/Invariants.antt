use Rattle.std.proofs.Common.{◌≡◌, ◌++◌}
use Rattle.std.specs.Prelude.{filter_map, Some}
use Rattle.service_model.specs.Issued.{closed_transfer}
use Rattle.issuing.proofs.closings.closed_transfers.Given as goal

abbrev pub invariant-loop-event : goal.invariant-loop-event
invariant-loop-event l = filter_map (closed_transfer l.run (Some l.parent)) l.events ≡ l.found.items ++ filter_map (closed_transfer l.run (Some l.parent)) l.event-iterator
