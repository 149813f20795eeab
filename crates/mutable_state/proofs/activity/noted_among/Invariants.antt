use Rattle.std.proofs.Common.{◌≡◌, take}
use Rattle.std.specs.Prelude.{filter_map}
use Rattle.mutable_state.specs.Rows.{activity_in}
use Rattle.mutable_state.proofs.activity.noted_among.Given as goal

abbrev pub invariant-loop-row : goal.invariant-loop-row
invariant-loop-row l = l.noted.items ≡ filter_map (activity_in l.history.lists.events) (take l.row-index l.rows)
