use Rattle.std.proofs.Common.{◌∙◌, sym, ap, subst}
use Rattle.std.specs.Prelude.{Some, None}
use Rattle.std.specs.List.{AllByRecursion}
use Rattle.mutable_state.specs.Filed.{KeepsDues}
use Rattle.mutable_state.specs.Opens.{OpenRows, marked}
use Rattle.mutable_state.specs.Rows.{keys, AreRising, IsNamed, HasRow, IsRowAt}
use Rattle.mutable_state.proofs.FilingLemmas.{lists-are, mark-becomes, row-id}
use Rattle.mutable_state.proofs.RowLemmas.{marked-none}
use Rattle.mutable_state.proofs.in_use.InUse.mark.Goals as goal

pub place_at-requires-clause-rising : goal.place_at-requires-clause-rising
place_at-requires-clause-rising c =
    let l = c.as_mut-lists.result.now in
    let at = lists-are c.in-Some.ensures.value c.as_mut-lists.ensures.value c.self.view_is c.self.invariant in
    subst (λ rs. AreRising (keys rs)) (sym c.as_slice.ensures.value) at.0.0.rising

pub place_at-requires-clause-named : goal.place_at-requires-clause-named
place_at-requires-clause-named c =
    let l = c.as_mut-lists.result.now in
    let at = lists-are c.in-Some.ensures.value c.as_mut-lists.ensures.value c.self.view_is c.self.invariant in
    subst (λ rs. AllByRecursion IsNamed rs) (sym c.as_slice.ensures.value) at.0.0.named

pub returns-in_default-place_at-clause-rows : goal.returns-in_default-place_at-clause-rows
returns-in_default-place_at-clause-rows c =
    let l = c.as_mut-lists.result.now in
    let at = lists-are c.in-Some.ensures.value c.as_mut-lists.ensures.value c.self.view_is c.self.invariant in
    let none = subst (λ rs. HasRow c.in-Some-settled.opener rs None) c.as_slice.ensures.value c.in_default-place_at.ensures in
    marked-none c.in-Some-settled.opener l.rows.items none ∙ ap (λ (v : OpenRows). marked (Some c.in-Some-settled.opener) v.rows) at.1
    ∙ ap (λ o. marked o c.args.self.now.rows) (sym c.in-Some-settled.is)

pub unfile-requires : goal.unfile-requires
unfile-requires c =
    let l = c.as_mut-lists.result.now in
    let at = lists-are c.in-Some.ensures.value c.as_mut-lists.ensures.value c.self.view_is c.self.invariant in
    let h = subst (λ rs. IsRowAt c.in-Some-settled.opener rs c.in-Some-place_at.place) c.as_slice.ensures.value c.in-Some-place_at.ensures in
    row-id l.deadlines.members c.in-Some-settled.opener l.rows.items c.in-Some-place_at.place c.index_mut-row.result.now at.0.1 h c.index_mut-row.ensures.value

pub invariant_of-self-2 : goal.invariant_of-self-2
invariant_of-self-2 c =
    let l = c.as_mut-lists.result.now in
    let at = lists-are c.in-Some.ensures.value c.as_mut-lists.ensures.value c.self.view_is c.self.invariant in
    let h = subst (λ rs. IsRowAt c.in-Some-settled.opener rs c.in-Some-place_at.place) c.as_slice.ensures.value c.in-Some-place_at.ensures in
    (mark-becomes l.deadlines.members c.unfile.new.deadlines.members c.in-Some-settled.opener l.rows.items l.last l.has_marked c.in-Some-place_at.place c.index_mut-row.result.now c.mark.new.self at.0 h c.index_mut-row.ensures.value c.unfile.ensures.members c.mark.ensures).kept

pub returns-clause-rows : goal.returns-clause-rows
returns-clause-rows c =
    let l = c.as_mut-lists.result.now in
    let at = lists-are c.in-Some.ensures.value c.as_mut-lists.ensures.value c.self.view_is c.self.invariant in
    let h = subst (λ rs. IsRowAt c.in-Some-settled.opener rs c.in-Some-place_at.place) c.as_slice.ensures.value c.in-Some-place_at.ensures in
    (mark-becomes l.deadlines.members c.unfile.new.deadlines.members c.in-Some-settled.opener l.rows.items l.last l.has_marked c.in-Some-place_at.place c.index_mut-row.result.now c.mark.new.self at.0 h c.index_mut-row.ensures.value c.unfile.ensures.members c.mark.ensures).rows
    ∙ ap (λ (v : OpenRows). marked (Some c.in-Some-settled.opener) v.rows) at.1 ∙ ap (λ o. marked o c.args.self.now.rows) (sym c.in-Some-settled.is)

pub returns-clause-dues : goal.returns-clause-dues
returns-clause-dues c = λ es keeps.
    let l = c.as_mut-lists.result.now in
    let at = lists-are c.in-Some.ensures.value c.as_mut-lists.ensures.value c.self.view_is c.self.invariant in
    let h = subst (λ rs. IsRowAt c.in-Some-settled.opener rs c.in-Some-place_at.place) c.as_slice.ensures.value c.in-Some-place_at.ensures in
    (mark-becomes l.deadlines.members c.unfile.new.deadlines.members c.in-Some-settled.opener l.rows.items l.last l.has_marked c.in-Some-place_at.place c.index_mut-row.result.now c.mark.new.self at.0 h c.index_mut-row.ensures.value c.unfile.ensures.members c.mark.ensures).dues es (subst (KeepsDues es) (sym at.1) keeps)
