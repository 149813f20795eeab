use Rattle.std.proofs.Common.{◌≡◌}
use Rattle.snapshot_writing.proofs.same_runs.are_shown_same.Given as goal

abbrev pub invariant-loop-our : goal.invariant-loop-our
invariant-loop-our l = l.our-iterator ≡ l.theirs → l.one.lists.events ≡ l.other.lists.events
