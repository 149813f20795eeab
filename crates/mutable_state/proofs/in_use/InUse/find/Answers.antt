use Rattle.std.proofs.Common.{◌∙◌, sym, ap}
use Rattle.mutable_state.specs.declared.rows.Row.{Row}
use Rattle.mutable_state.proofs.RowLemmas.{found-none, found-row, read-row}
use Rattle.mutable_state.proofs.in_use.InUse.find.Goals as goal

pub returns-in_err-place : goal.returns-in_err-place
returns-in_err-place c = rw (c.from_residual.ensures, ← c.rows-rows.ensures.alive) (sym (found-none c.args.opener c.rows-rows.result.now c.in_err-place.ensures))

pub returns : goal.returns
returns c =
    let h = c.in_ok-place.ensures in
    let rows = c.rows-rows.result.now in
    rw (← c.rows-rows.ensures.alive)
    (c.as_ref.ensures.value ∙ ap (λ (r : Row). r.kept) (sym c.index-rows-place.is ∙ read-row rows c.in_ok-place.place h.row c.index-rows-place.result h.there c.index-rows-place.is) ∙ sym (found-row c.args.opener rows c.in_ok-place.place h))
