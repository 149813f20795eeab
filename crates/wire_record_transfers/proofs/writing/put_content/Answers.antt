use Rattle.std.proofs.Common.{codes}
use Rattle.json.specs.Token.{begin_object, key}
use Rattle.wire_pages.specs.Pages.{sheet_of, add, add_member}
use Rattle.wire_record_rows.proofs.RowLemmas.{added}
use Rattle.wire_record_transfers.specs.Trees.{content_rows}
use Rattle.wire_record_transfers.proofs.writing.put_content.Goals as goal

pub returns : goal.returns
unfolding add_member
returns c =
    rw (← added (content_rows c.args.content.now) (add begin_object (add (key (codes "content")) (sheet_of c.args.page.now))))
    (simp (c.in_ok-put_content_rows.ensures, c.in_ok-begin_object.ensures, c.in_ok-key.ensures) at c.end_object.ensures)
