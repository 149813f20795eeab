use Rattle.std.proofs.Common.{ap, arith, refl, sym, ◌∙◌}
use Rattle.mutable_state.proofs.SameLemmas.{same-more}
use Rattle.mutable_state.proofs.same.are_same.Goals as goal

pub loop-index-preserved : goal.loop-index-preserved
loop-index-preserved c =
    let same = c.if-not-is_same.ensures refl in
    same-more (λ b. b.now) c.args.ours.now c.args.theirs.now c.loop-index.index c.index-ours-index.result c.index-theirs-index.result (omega arith) (omega arith) c.loop-index.invariant
    (sym (ap (λ b. b.now) c.index-ours-index.is) ∙ same ∙ ap (λ b. b.now) c.index-theirs-index.is)
