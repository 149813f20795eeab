use Rattle.wire_record_rows.specs.Rows.{add_row, add_rows}
use Rattle.wire_record_transfers.specs.Trees.{child_closed_rows}
use Rattle.wire_record_transfers.proofs.put_contents.put_child_closed.Goals as goal

pub returns : goal.returns
unfolding add_row add_rows child_closed_rows
returns c = simp (c.in_ok-number.ensures, c.in_ok-run.ensures, c.in_ok-run-2.ensures, c.in_ok-text.ensures, c.child_status_name.ensures, c.as_str.ensures.value) at c.text-2.ensures
