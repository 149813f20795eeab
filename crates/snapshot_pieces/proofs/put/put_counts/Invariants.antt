use Rattle.std.proofs.Common.{◌≡◌, codes}
use Rattle.std.specs.Iterator.Adapters.{zip_first, zip_second}
use Rattle.std.specs.Slice.Iter.{iter_rest}
use Rattle.json.specs.Token.{begin_array, key}
use Rattle.serde_json.specs.View.{items_of}
use Rattle.wire_pages.specs.Pages.{sheet_of, add, add_items}
use Rattle.snapshot_pieces.specs.Trees.{both_counts}
use Rattle.snapshot_pieces.proofs.put.put_counts.Given as goal

-- the counts that are left, added to what was written, are all of them
abbrev pub invariant-loop-taken : goal.invariant-loop-taken
invariant-loop-taken l = add_items (items_of (both_counts (iter_rest (zip_first l.taken-iterator)) (iter_rest (zip_second l.taken-iterator)))) (sheet_of l.page)
    ≡ add_items (items_of (both_counts l.accepted l.acknowledged)) (add begin_array (add (key (codes "transfers")) (sheet_of l.fn.page)))
