use Rattle.wire_record_rows.specs.Rows.{add_row, add_rows}
use Rattle.wire_record_commands.proofs.commands.put_one.Goals as goal

pub returns : goal.returns
unfolding add_row add_rows
returns c = simp (c.in_ok-text.ensures) at c.text-2.ensures
