use Rattle.std.proofs.Common.{◌≡◌, ◌∙◌, ◌++◌, ◌∷◌, [], List, ℕ, ap, ap₂, sym}
use Rattle.wire_record_commands.specs.Older.{factor_in}
use Rattle.wire_record_commands.proofs.OlderBack.{factors_next}
use Rattle.wire_record_commands.proofs.older.factors_in.Goals as goal

pub loop-value-preserved : goal.loop-value-preserved
loop-value-preserved g c =
    let last = c.factor_in.ensures ∙ ap (λ v. factor_in (g.V.Tree.stands_for v)) c.value-item.is in
    c.in_ok-push.ensures.items ∙ ap₂ (λ (xs : List ℕ) (x : ℕ). xs ++ x ∷ []) c.loop-value.invariant last ∙ sym (factors_next g.V.Tree.stands_for c.args.values.now c.loop-value.value-index c.value-item.result c.loop-value-test.true)
