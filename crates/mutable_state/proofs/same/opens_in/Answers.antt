use Rattle.std.proofs.Common.{ap, arith, sym, ◌∙◌, ◌++◌, ◌∷◌, []}
use Rattle.std.proofs.lemmas.List.{map-append}
use Rattle.mutable_state.specs.declared.rows.Row.{Row}
use Rattle.mutable_state.specs.Whole.{copied}
use Rattle.mutable_state.proofs.ReaderLemmas.{rows-one, rows-none}
use Rattle.mutable_state.proofs.same.opens_in.Goals as goal
use Rattle.mutable_state.proofs.same.opens_in.Goals.{in-Some+in_ok-push, in_default}

pub loop-row-preserved : goal.loop-row-preserved
loop-row-preserved c =
    elim c.match-row.branch [
      | in-Some+in_ok-push w ↦
          ap (λ v. copied v.items) w.opens-is ∙ ap copied w.in_ok-push.ensures.items ∙ map-append (λ b. b.now) c.loop-row.opens.items (_ ∷ [])
          ∙ ap (λ t. t ++ w.in-Some.open ∷ []) c.loop-row.invariant
          ∙ sym (rows-one (λ (r : Row). r.kept) c.args.rows.now c.loop-row.row-index c.row-item.result w.in-Some.open (omega arith) (sym (ap (λ (r : Row). r.kept) c.row-item.is) ∙ w.in-Some.is))
      | in_default w ↦
          ap (λ v. copied v.items) w.opens-is ∙ c.loop-row.invariant
          ∙ sym (rows-none (λ (r : Row). r.kept) c.args.rows.now c.loop-row.row-index c.row-item.result (omega arith) (sym (ap (λ (r : Row). r.kept) c.row-item.is) ∙ w.in_default.is))
    ]
