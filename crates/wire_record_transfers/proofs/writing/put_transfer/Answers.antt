use Rattle.std.proofs.Common.{codes}
use Rattle.json.specs.Token.{begin_object, key}
use Rattle.wire_pages.specs.Pages.{sheet_of, add, add_member}
use Rattle.wire_record_rows.specs.Rows.{add_row, add_rows}
use Rattle.wire_record_rows.proofs.RowLemmas.{added}
use Rattle.wire_record_transfers.specs.Trees.{transfer_rows}
use Rattle.wire_record_transfers.proofs.writing.put_transfer.Goals as goal

pub returns : goal.returns
unfolding add_row add_rows transfer_rows add_member
returns c =
    rw (← added (transfer_rows c.args.transfer.now) (add begin_object (add (key (codes "transfer")) (sheet_of c.args.page.now))))
    (simp (c.from.ensures, c.in_ok-key.ensures, c.in_ok-begin_object.ensures, c.in_ok-put_content.ensures, c.in_ok-number.ensures, c.in_ok-text.ensures, c.in_ok-number-2.ensures, c.kind_of.ensures, c.name.ensures) at c.end_object.ensures)
