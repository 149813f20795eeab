use Rattle.wire_record_rows.specs.Rows.{add_row, add_rows}
use Rattle.snapshot_pieces.specs.Trees.{piece_tree, request_rows}
use Rattle.snapshot_pieces.proofs.SheetLemmas.{object_is}
use Rattle.snapshot_pieces.proofs.put.put_request.Goals as goal

pub returns : goal.returns
unfolding piece_tree request_rows add_row add_rows
returns c = rw (← object_is (request_rows c.args.id.now) _) (simp (c.in_ok-begin_object.ensures, c.in_ok-text.ensures, c.as_str.ensures.value) at c.end_object.ensures)
