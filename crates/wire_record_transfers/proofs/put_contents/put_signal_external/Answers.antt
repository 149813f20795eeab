use Rattle.wire_record_rows.specs.Rows.{add_row, add_rows}
use Rattle.wire_record_transfers.specs.Trees.{signal_external_rows}
use Rattle.wire_record_transfers.proofs.put_contents.put_signal_external.Goals as goal

pub returns : goal.returns
unfolding add_row add_rows signal_external_rows
returns c = simp (c.in_ok-run.ensures, c.in_ok-number.ensures, c.in_ok-text.ensures, c.in_ok-text-2.ensures, c.in_ok-put_if_run.ensures, c.as_str.ensures.value, c.as_str-2.ensures.value, c.as_str-3.ensures.value) at c.text-3.ensures
