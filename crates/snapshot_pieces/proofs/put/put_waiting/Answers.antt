use Rattle.wire_record_rows.specs.Rows.{add_row, add_rows}
use Rattle.snapshot_pieces.specs.Trees.{piece_tree, waiting_rows}
use Rattle.snapshot_pieces.proofs.SheetLemmas.{object_is}
use Rattle.snapshot_pieces.proofs.put.put_waiting.Goals as goal

pub returns : goal.returns
unfolding piece_tree waiting_rows add_row add_rows
returns c = rw (← object_is (waiting_rows (record { to = c.args.to; transfer = c.args.transfer.now })) _) (simp (c.in_ok-begin_object.ensures, c.in_ok-number.ensures, c.in_ok-put_transfer.ensures, c.from.ensures) at c.end_object.ensures)
