use Rattle.wire_record_rows.specs.Rows.{add_row, add_rows}
use Rattle.snapshot_pieces.specs.Trees.{both_rows}
use Rattle.snapshot_pieces.proofs.SheetLemmas.{object_is}
use Rattle.snapshot_pieces.proofs.put.put_both.Goals as goal

pub returns : goal.returns
unfolding both_rows add_row add_rows
returns c = rw (← object_is (both_rows c.args.accepted c.args.acknowledged) _) (simp (c.in_ok-begin_object.ensures, c.in_ok-number.ensures, c.in_ok-number-2.ensures) at c.end_object.ensures)
