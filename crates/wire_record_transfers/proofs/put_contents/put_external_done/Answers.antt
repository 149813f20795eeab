use Rattle.wire_record_rows.specs.Rows.{add_row, add_rows}
use Rattle.wire_record_transfers.specs.Trees.{external_done_rows}
use Rattle.wire_record_transfers.proofs.put_contents.put_external_done.Goals as goal

pub returns : goal.returns
unfolding add_row add_rows external_done_rows
returns c = simp (c.in_ok-boolean.ensures, c.in_ok-number.ensures, c.in_ok-text.ensures, c.external_kind_name.ensures) at c.run.ensures
