use Rattle.std.proofs.Common.{◌≡◌, take}
use Rattle.std.specs.Prelude.{filter_map, map}
use Rattle.mutable_state.specs.Activities.{row_said}
use Rattle.mutable_state.specs.Whole.{activity_row_in}
use Rattle.mutable_state.proofs.whole.activities_among.Given as goal

abbrev pub invariant-loop-row : goal.invariant-loop-row
invariant-loop-row l = map row_said l.found.items ≡ filter_map (activity_row_in l.history.lists.events) (take l.row-index l.rows)
