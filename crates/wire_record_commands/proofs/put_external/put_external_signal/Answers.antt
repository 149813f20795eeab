use Rattle.wire_record_rows.specs.Rows.{add_row, add_rows}
use Rattle.wire_record_commands.specs.Trees.{external_signal_rows}
use Rattle.wire_record_commands.proofs.put_external.put_external_signal.Goals as goal

pub returns : goal.returns
unfolding add_row add_rows external_signal_rows
returns c = simp (c.in_ok-text.ensures, c.in_ok-text-2.ensures, c.in_ok-put_if_run.ensures, c.in_ok-text-3.ensures, c.as_str.ensures.value, c.as_str-2.ensures.value, c.as_str-3.ensures.value) at c.text-4.ensures
