use Rattle.std.proofs.Common.{◌≡◌, [], ap, ap₂, sym, ◌∙◌, inl, inr}
use Rattle.std.specs.Iterator.Adapters.{zip_first, zip_second}
use Rattle.std.specs.Slice.Iter.{iter_rest}
use Rattle.serde_json.specs.View.{items_of}
use Rattle.wire_pages.specs.Pages.{sheet_of, add_items, add_member}
use Rattle.snapshot_pieces.specs.Trees.{both_counts}
use Rattle.snapshot_pieces.proofs.CountLemmas.{none_first, none_second}
use Rattle.snapshot_pieces.proofs.put.put_counts.Goals as goal

pub loop-taken-preserved : goal.loop-taken-preserved
unfolding add_items
loop-taken-preserved c =
    let more = c.in-Some.ensures.steps in
    ap (add_items (items_of (both_counts (iter_rest (zip_first c.next.new.self)) (iter_rest (zip_second c.next.new.self))))) c.in_ok-put_both.ensures
    ∙ sym (ap₂ (λ ms ns. add_items (items_of (both_counts ms ns)) (sheet_of c.loop-taken.page)) more.0 more.1) ∙ c.loop-taken.invariant

pub returns : goal.returns
unfolding add_items add_member
returns c =
    let ms = iter_rest (zip_first c.loop-taken.taken-iterator) in
    let ns = iter_rest (zip_second c.loop-taken.taken-iterator) in
    let none : both_counts ms ns ≡ [] = elim c.in-None.ensures.steps [ inl e ↦ none_first ms ns e.1.0 | inr e ↦ none_second ms ns e.1.0 ] in
    let done = sym (ap (λ ds. add_items (items_of ds) (sheet_of c.loop-taken.page)) none) ∙ c.loop-taken.invariant in
    rw done at c.end_array.ensures
