use Rattle.std.proofs.Common.{◌≡◌, take}
use Rattle.mutable_state.specs.RunView.{texts}
use Rattle.mutable_state.proofs.same.are_same_texts.Given as goal

abbrev pub invariant-loop-index : goal.invariant-loop-index
invariant-loop-index l = texts (take l.index l.ours) ≡ texts (take l.index l.theirs)
