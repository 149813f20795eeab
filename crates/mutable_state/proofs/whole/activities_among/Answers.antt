use Rattle.std.proofs.Common.{ap, arith, sym, ◌∙◌, ◌++◌, ◌∷◌, []}
use Rattle.std.specs.Prelude.{map, option_map}
use Rattle.std.proofs.lemmas.List.{map-append}
use Rattle.mutable_state.specs.Activities.{row_said}
use Rattle.mutable_state.specs.Whole.{activity_row_in}
use Rattle.mutable_state.proofs.ReaderLemmas.{rows-one, rows-none}
use Rattle.mutable_state.proofs.whole.activities_among.Goals as goal
use Rattle.mutable_state.proofs.whole.activities_among.Goals.{in-Some+in_ok-push, in_default}

pub loop-row-preserved : goal.loop-row-preserved
loop-row-preserved c =
    let f = activity_row_in c.args.history.now.lists.events in
    elim c.match-branch-2.branch [
      | in-Some+in_ok-push w ↦
          ap (λ v. map row_said v.items) w.found-is ∙ ap (map row_said) w.in_ok-push.ensures.items ∙ map-append row_said c.loop-row.found.items (w.in-Some.one ∷ [])
          ∙ ap (λ t. t ++ row_said w.in-Some.one ∷ []) c.loop-row.invariant
          ∙ sym (rows-one f c.args.rows.now c.loop-row.row-index c.row-item.result (row_said w.in-Some.one) (omega arith) (sym (ap f c.row-item.is) ∙ sym c.in_ok-one.ensures ∙ ap (option_map row_said) w.in-Some.is))
      | in_default w ↦
          ap (λ v. map row_said v.items) w.found-is ∙ c.loop-row.invariant
          ∙ sym (rows-none f c.args.rows.now c.loop-row.row-index c.row-item.result (omega arith) (sym (ap f c.row-item.is) ∙ sym c.in_ok-one.ensures ∙ ap (option_map row_said) w.in_default.is))
    ]
