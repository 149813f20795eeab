use Rattle.std.proofs.Common.{◌≡◌, ◌∙◌, ap, arith, sym, None}
use Rattle.std.specs.Prelude.{option_copied, slice_get}
use Rattle.std.proofs.lemmas.Bool.Decides.{nat_tests}
use Rattle.snapshot_writing.proofs.SameLemmas.{both-end}
use Rattle.snapshot_writing.proofs.same.are_same_dispatches.Goals as goal

pub returns-in-None-None : goal.returns-in-None-None
returns-in-None-None g c =
    let ours = c.args.one.now.waiting in
    let theirs = c.args.other.now.waiting in
    let ends : slice_get ours.items c.loop-index.index ≡ None = sym c.dispatch_at.ensures ∙ ap option_copied c.in-None-None.is-0 in
    let ends' : slice_get theirs.items c.loop-index.index ≡ None = sym c.dispatch_at-in-loop-index.ensures ∙ ap option_copied c.in-None-None.is-1 in
    let items : ours.items ≡ theirs.items = both-end ours.items theirs.items c.loop-index.index c.loop-index.invariant ends ends' in
    let mine = c.counted_dispatches.ensures in
    let other = c.counted_dispatches-2.ensures in
    let test = c.if-counted_dispatches.false in
    let counted : ours.counted ≡ theirs.counted = grind (arith, nat_tests) in
    λ same i. record { items = items i; counted = counted i }
