use Rattle.wire_record_rows.specs.Rows.{add_row, add_rows}
use Rattle.wire_record_transfers.specs.Trees.{child_started_rows}
use Rattle.wire_record_transfers.proofs.put_contents.put_child_started.Goals as goal

pub returns : goal.returns
unfolding add_row add_rows child_started_rows
returns c = simp (c.in_ok-number.ensures, c.in_ok-run.ensures) at c.run-2.ensures
