use Rattle.wire_record_rows.specs.Rows.{add_row, add_rows}
use Rattle.wire_record_commands.specs.Trees.{cancel_activity_rows}
use Rattle.wire_record_commands.proofs.commands.put_cancel_activity.Goals as goal

pub returns : goal.returns
unfolding add_row add_rows
returns c = simp (c.in_ok-number.ensures) at c.text.ensures
