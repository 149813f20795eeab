use Rattle.wire_record_rows.specs.Rows.{add_row, add_rows}
use Rattle.wire_record_transfers.specs.Trees.{start_child_rows}
use Rattle.wire_record_transfers.proofs.put_contents.put_start_child.Goals as goal

pub returns : goal.returns
unfolding add_row add_rows start_child_rows
returns c = simp (c.in_ok-number.ensures, c.in_ok-text.ensures, c.in_ok-run.ensures, c.in_ok-text-2.ensures, c.in_ok-number-2.ensures, c.in_ok-text-3.ensures, c.in_ok-number-3.ensures, c.in_ok-text-4.ensures, c.as_str.ensures.value, c.name.ensures, c.millis.ensures.value, c.as_str-2.ensures.value, c.millis-2.ensures.value, c.as_str-3.ensures.value, c.as_str-4.ensures.value) at c.text-5.ensures
