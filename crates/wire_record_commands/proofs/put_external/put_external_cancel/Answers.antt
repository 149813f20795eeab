use Rattle.wire_record_rows.specs.Rows.{add_row, add_rows}
use Rattle.wire_record_commands.specs.Trees.{external_cancel_rows}
use Rattle.wire_record_commands.proofs.put_external.put_external_cancel.Goals as goal

pub returns : goal.returns
unfolding add_row add_rows external_cancel_rows
returns c = simp (c.in_ok-put_if_run.ensures, c.in_ok-text.ensures, c.as_str.ensures.value) at c.text-2.ensures
