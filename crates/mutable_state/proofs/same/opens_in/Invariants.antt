use Rattle.std.proofs.Common.{◌≡◌, take}
use Rattle.mutable_state.specs.Rows.{living}
use Rattle.mutable_state.specs.Whole.{copied}
use Rattle.mutable_state.proofs.same.opens_in.Given as goal

abbrev pub invariant-loop-row : goal.invariant-loop-row
invariant-loop-row l = copied l.opens.items ≡ living (take l.row-index l.rows)
