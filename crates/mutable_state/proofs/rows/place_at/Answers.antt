use Rattle.std.proofs.Common.{◌∙◌, sym, ap, subst, ◌<◌, length}
use Rattle.std.specs.Prelude.{Some}
use Rattle.mutable_state.specs.declared.rows.Row.{Row}
use Rattle.mutable_state.specs.Rows.{HasRow}
use Rattle.mutable_state.proofs.RowLemmas.{row-none, row-some, row-not, get-read, count-keys, key-read}
use Rattle.mutable_state.proofs.rows.place_at.Goals as goal

pub returns-in_err-place : goal.returns-in_err-place
returns-in_err-place c = subst (HasRow c.args.opener c.args.rows.now) (sym c.from_residual.ensures) (row-none c.args.opener c.args.rows.now c.requires.named c.in_err-place.ensures)

pub returns-then-has : goal.returns-then-has
returns-then-has c =
    let rows = c.args.rows.now in
    let p = c.in_ok-place.place in
    let row = c.index-rows-place.result in
    let within : p < length rows = subst (λ n. p < n) (count-keys rows) c.in_ok-place.ensures.0 in
    let there = get-read rows p row within ∙ ap (λ (r : Row). Some r) (sym c.index-rows-place.is) in
    let key = ap (λ (r : Row). r.event) c.index-rows-place.is ∙ sym (key-read rows p row within) ∙ c.in_ok-place.ensures.1 in
    row-some c.args.opener rows c.requires.rising c.requires.named p row there key (sym c.has.ensures ∙ c.if-has.true)

pub returns : goal.returns
returns c =
    let rows = c.args.rows.now in
    let p = c.in_ok-place.place in
    let row = c.index-rows-place.result in
    let within : p < length rows = subst (λ n. p < n) (count-keys rows) c.in_ok-place.ensures.0 in
    let there = get-read rows p row within ∙ ap (λ (r : Row). Some r) (sym c.index-rows-place.is) in
    let key = ap (λ (r : Row). r.event) c.index-rows-place.is ∙ sym (key-read rows p row within) ∙ c.in_ok-place.ensures.1 in
    row-not c.args.opener rows c.requires.rising c.requires.named p row there key (sym c.has.ensures ∙ c.if-has.false)
