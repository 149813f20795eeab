use Rattle.std.proofs.Common.{◌≡◌, ◌∙◌, ap, arith, sym, None}
use Rattle.std.specs.Prelude.{option_copied, slice_get}
use Rattle.std.proofs.lemmas.Bool.Decides.{nat_tests}
use Rattle.transfer.specs.Outboxes.{waiting_to}
use Rattle.snapshot_writing.proofs.SameLemmas.{both-end}
use Rattle.snapshot_writing.proofs.same.are_same_transfers_to.Goals as goal

pub returns-in-None-None : goal.returns-in-None-None
returns-in-None-None g c =
    let ours = waiting_to c.args.one.now.outgoing c.args.to in
    let theirs = waiting_to c.args.other.now.outgoing c.args.to in
    let ends : slice_get ours.items c.loop-index.index ≡ None = sym c.transfer_at.ensures ∙ ap option_copied c.in-None-None.is-0 in
    let ends' : slice_get theirs.items c.loop-index.index ≡ None = sym c.transfer_at-in-loop-index.ensures ∙ ap option_copied c.in-None-None.is-1 in
    let items : ours.items ≡ theirs.items = both-end ours.items theirs.items c.loop-index.index c.loop-index.invariant ends ends' in
    let mine = c.acknowledged_by.ensures in
    let other = c.acknowledged_by-2.ensures in
    let test = c.if-acknowledged_by.false in
    let counted : ours.counted ≡ theirs.counted = grind (arith, nat_tests) in
    λ same i. record { items = items i; counted = counted i }
