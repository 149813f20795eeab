use Rattle.std.proofs.Common.{◌≡◌, ◌++◌}
use Rattle.std.specs.Prelude.{filter_map}
use Rattle.service_model.specs.Issued.{request_transfer}
use Rattle.issuing.proofs.requests.requests_of.Given as goal

abbrev pub invariant-loop-event : goal.invariant-loop-event
invariant-loop-event l = filter_map (request_transfer l.setup l.run) l.events ≡ l.found.items ++ filter_map (request_transfer l.setup l.run) l.event-iterator
