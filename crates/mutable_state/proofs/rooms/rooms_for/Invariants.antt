use Rattle.std.proofs.Common.{drop}
use Rattle.mutable_state.specs.Rooms.{AreAtMost, IsWithin, needs, plus}
use Rattle.mutable_state.proofs.rooms.rooms_for.Given as goal

abbrev pub invariant-loop-fact : goal.invariant-loop-fact
invariant-loop-fact l =
    IsWithin (needs l.fn.task.phase l.facts) (plus l.rooms (needs l.task.phase (drop l.fact-index l.facts)))
    × AreAtMost l.fact-index l.rooms
