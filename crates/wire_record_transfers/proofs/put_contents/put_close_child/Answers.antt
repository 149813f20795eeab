use Rattle.wire_record_rows.specs.Rows.{add_row, add_rows}
use Rattle.wire_record_transfers.specs.Trees.{close_child_rows}
use Rattle.wire_record_transfers.proofs.put_contents.put_close_child.Goals as goal

pub returns : goal.returns
unfolding add_row add_rows close_child_rows
returns c = simp (c.in_ok-number.ensures, c.in_ok-run.ensures, c.in_ok-text.ensures, c.name.ensures, c.as_str.ensures.value) at c.text-2.ensures
