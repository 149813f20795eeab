use Rattle.wire_record_rows.specs.Rows.{add_row, add_rows}
use Rattle.snapshot_pieces.specs.Trees.{gone_rows, piece_tree}
use Rattle.snapshot_pieces.proofs.SheetLemmas.{object_is}
use Rattle.snapshot_pieces.proofs.put.put_gone.Goals as goal

pub returns : goal.returns
unfolding piece_tree gone_rows add_row add_rows
returns c = rw (← object_is (gone_rows c.args.places) _) (simp (c.in_ok-begin_object.ensures, c.in_ok-number.ensures) at c.end_object.ensures)
