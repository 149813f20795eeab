use Rattle.std.proofs.Common.{◌≡◌, take}
use Rattle.mutable_state.specs.Whole.{copied}
use Rattle.mutable_state.proofs.same.are_same.Given as goal

abbrev pub invariant-loop-index : goal.invariant-loop-index
invariant-loop-index l = copied (take l.index l.ours) ≡ copied (take l.index l.theirs)
