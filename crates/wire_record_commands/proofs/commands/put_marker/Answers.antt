use Rattle.wire_record_rows.specs.Rows.{add_row, add_rows}
use Rattle.wire_record_commands.specs.Trees.{marker_rows}
use Rattle.wire_record_commands.proofs.commands.put_marker.Goals as goal

pub returns : goal.returns
unfolding add_row add_rows marker_rows
returns c = simp (c.in_ok-text.ensures, c.in_ok-text-2.ensures, c.as_str.ensures.value, c.as_str-2.ensures.value) at c.text-3.ensures
