use Rattle.std.specs.Prelude.{◌≡◌, length}
use Rattle.lanes.specs.Calls.{waiting}
use Rattle.lanes.proofs.calls.Calls.pop.Given as goal

abbrev pub invariant-loop-self : goal.invariant-loop-self
invariant-loop-self l = waiting l.self ≡ waiting l.fn.self

abbrev pub decreases-loop-self : goal.decreases-loop-self
decreases-loop-self l = length l.self.next.items
