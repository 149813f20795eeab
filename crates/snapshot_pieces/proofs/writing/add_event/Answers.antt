use Rattle.std.proofs.Common.{◌∙◌, ap, string_bytes}
use Rattle.wire_pages.specs.Pages.{add_value, text_of}
use Rattle.wire_pages.proofs.Printed.{printed}
use Rattle.snapshot_pieces.specs.Trees.{piece_tree}
use Rattle.snapshot_pieces.specs.declared.piece.Piece.TheVariants as piece
use Rattle.snapshot_pieces.proofs.writing.add_event.Goals as goal

pub returns : goal.returns
unfolding piece_tree
returns c =
    let tree = piece_tree (piece.Event c.args.event.now) in
    c.into_text.ensures ∙ ap text_of (c.in_ok-put_event.ensures ∙ ap (add_value tree) c.page_after-page.ensures) ∙ printed tree (string_bytes c.args.text.now)
