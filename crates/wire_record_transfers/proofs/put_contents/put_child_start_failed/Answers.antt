use Rattle.wire_record_rows.specs.Rows.{add_row, add_rows}
use Rattle.wire_record_transfers.specs.Trees.{child_start_failed_rows}
use Rattle.wire_record_transfers.proofs.put_contents.put_child_start_failed.Goals as goal

pub returns : goal.returns
unfolding add_row add_rows child_start_failed_rows
returns c = simp (c.in_ok-number.ensures) at c.run.ensures
