use Rattle.std.proofs.Common.{ap, arith, refl, sym, ◌∙◌}
use Rattle.std.specs.Prelude.{string_bytes}
use Rattle.mutable_state.proofs.SameLemmas.{same-more}
use Rattle.mutable_state.proofs.same.are_same_texts.Goals as goal

pub loop-index-preserved : goal.loop-index-preserved
loop-index-preserved c =
    let same = c.if-not-is_same_string.ensures refl in
    same-more (λ k. string_bytes k) c.args.ours.now c.args.theirs.now c.loop-index.index c.index-ours-index.result c.index-theirs-index.result (omega arith) (omega arith) c.loop-index.invariant
    (sym (ap (λ k. string_bytes k) c.index-ours-index.is) ∙ same ∙ ap (λ k. string_bytes k) c.index-theirs-index.is)
