use Rattle.std.proofs.Common.{◌≡◌}
use Rattle.matching.specs.Rings.{HasLooked}
use Rattle.matching.proofs.line.Line.count.Given as goal

abbrev pub invariant-loop : goal.invariant-loop
invariant-loop g l = (l.seat.table_id ≡ l.fn.seat.table_id) × (l.seat.id ≡ l.fn.seat.id) × HasLooked l.fn.seat.me.0.client l.seat.me.0.client × (l.seat.me.1 ≡ l.fn.seat.me.1)
