use Rattle.wire_record_rows.specs.Rows.{add_row, add_rows}
use Rattle.wire_record_commands.specs.Trees.{timer_rows}
use Rattle.wire_record_commands.proofs.commands.put_timer.Goals as goal

pub returns : goal.returns
unfolding add_row add_rows timer_rows
returns c = simp (c.in_ok-number.ensures, c.in_ok-text.ensures, c.millis.ensures.value, c.as_str.ensures.value) at c.text-2.ensures
