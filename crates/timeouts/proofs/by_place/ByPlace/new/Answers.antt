use Rattle.std.proofs.Common.{ap}
use Rattle.timeouts.specs.Places.{ids_of}
use Rattle.timeouts.proofs.PlaceLemmas.{empty-by-place}
use Rattle.timeouts.proofs.by_place.ByPlace.new.Goals as goal

pub invariant_of-result : goal.invariant_of-result
invariant_of-result c = empty-by-place c.new.result.members (ids_of c.new-2.result.items) c.new.ensures (ap ids_of c.new-2.ensures)
