use Rattle.std.specs.Prelude.{length}
use Rattle.lanes.specs.Lanes.{Working, calls_of}
use Rattle.lanes.proofs.lane.Lane.serve_all.Given as goal

abbrev pub invariant-loop-next : goal.invariant-loop-next
invariant-loop-next g l = record {
  own : g.D.Door.admits l.door l.self.pass;
  working : Working (g.D.Door.serves l.door) l.fn.self l.self;
}

abbrev pub decreases-loop-next : goal.decreases-loop-next
decreases-loop-next g l = length (calls_of l.self)
