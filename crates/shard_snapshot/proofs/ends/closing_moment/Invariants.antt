use Rattle.std.proofs.Common.{◌≡◌}
use Rattle.std.specs.Prelude.{find}
use Rattle.service_model.specs.Deadlines.{is_closing_event}
use Rattle.shard_snapshot.proofs.ends.closing_moment.Given as goal

abbrev pub invariant-loop-event : goal.invariant-loop-event
invariant-loop-event l = record { left : find is_closing_event l.event-iterator ≡ find is_closing_event l.fn.events }
