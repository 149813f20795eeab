use Rattle.wire_record_rows.specs.Rows.{add_row, add_rows}
use Rattle.wire_record_transfers.specs.Trees.{cancel_external_rows}
use Rattle.wire_record_transfers.proofs.put_contents.put_cancel_external.Goals as goal

pub returns : goal.returns
unfolding add_row add_rows cancel_external_rows
returns c = simp (c.in_ok-run.ensures, c.in_ok-number.ensures, c.in_ok-put_if_run.ensures, c.as_str.ensures.value) at c.text.ensures
