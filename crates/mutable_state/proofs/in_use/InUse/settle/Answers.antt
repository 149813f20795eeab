use Rattle.std.proofs.Common.{rules, ◌≡◌, ◌∙◌, sym, ap, subst, filter, slice_set}
use Rattle.std.proofs.lemmas.Fn.{filter_same}
use Rattle.std.specs.Prelude.{Some, None}
use Rattle.std.specs.List.{AllByRecursion}
use Rattle.mutable_state.specs.Filed.{KeepsDues}
use Rattle.mutable_state.specs.Opens.{OpenRows, without}
use Rattle.mutable_state.specs.Rows.{keys, living, AreRising, IsNamed, HasRow, IsRowAt}
use Rattle.mutable_state.proofs.FilingLemmas.{lists-are, away-becomes, swept-becomes, row-id}
use Rattle.mutable_state.proofs.RowLemmas.{is_alive, taken-none}
use Rattle.mutable_state.proofs.in_use.InUse.settle.Goals as goal

pub place_at-requires-clause-rising : goal.place_at-requires-clause-rising
place_at-requires-clause-rising c =
    let l = c.as_mut-lists.result.now in
    let at = lists-are c.in-Some.ensures.value c.as_mut-lists.ensures.value c.self.view_is c.self.invariant in
    subst (λ rs. AreRising (keys rs)) (sym c.as_slice.ensures.value) at.0.0.rising

pub place_at-requires-clause-named : goal.place_at-requires-clause-named
place_at-requires-clause-named c =
    let l = c.as_mut-lists.result.now in
    let at = lists-are c.in-Some.ensures.value c.as_mut-lists.ensures.value c.self.view_is c.self.invariant in
    subst (λ rs. AllByRecursion IsNamed rs) (sym c.as_slice.ensures.value) at.0.0.named

pub returns-in_default-place_at-clause-rows : goal.returns-in_default-place_at-clause-rows
returns-in_default-place_at-clause-rows c =
    let l = c.as_mut-lists.result.now in
    let at = lists-are c.in-Some.ensures.value c.as_mut-lists.ensures.value c.self.view_is c.self.invariant in
    let none = subst (λ rs. HasRow c.in-Some-settled.opener rs None) c.as_slice.ensures.value c.in_default-place_at.ensures in
    taken-none c.in-Some-settled.opener l.rows.items none ∙ ap (λ (v : OpenRows). without (Some c.in-Some-settled.opener) v.rows) at.1
    ∙ ap (λ o. without o c.args.self.now.rows) (sym c.in-Some-settled.is)

pub unfile-requires : goal.unfile-requires
unfile-requires c =
    let l = c.as_mut-lists.result.now in
    let at = lists-are c.in-Some.ensures.value c.as_mut-lists.ensures.value c.self.view_is c.self.invariant in
    let h = subst (λ rs. IsRowAt c.in-Some-settled.opener rs c.in-Some-place_at.place) c.as_slice.ensures.value c.in-Some-place_at.ensures in
    row-id l.deadlines.members c.in-Some-settled.opener l.rows.items c.in-Some-place_at.place c.index_mut-row.result.now at.0.1 h c.index_mut-row.ensures.value

pub invariant_of-self-then-lists-len : goal.invariant_of-self-then-lists-len
invariant_of-self-then-lists-len c =
    let l = c.as_mut-lists.result.now in
    let at = lists-are c.in-Some.ensures.value c.as_mut-lists.ensures.value c.self.view_is c.self.invariant in
    let h = subst (λ rs. IsRowAt c.in-Some-settled.opener rs c.in-Some-place_at.place) c.as_slice.ensures.value c.in-Some-place_at.ensures in
    (away-becomes l.deadlines.members c.unfile.new.deadlines.members c.in-Some-settled.opener l.rows.items l.last l.has_marked c.in-Some-place_at.place c.index_mut-row.result.now c.clear.new.self at.0 h c.index_mut-row.ensures.value c.unfile.ensures.members c.clear.ensures).kept

pub returns-then-lists-len-clause-rows : goal.returns-then-lists-len-clause-rows
returns-then-lists-len-clause-rows c =
    let l = c.as_mut-lists.result.now in
    let at = lists-are c.in-Some.ensures.value c.as_mut-lists.ensures.value c.self.view_is c.self.invariant in
    let h = subst (λ rs. IsRowAt c.in-Some-settled.opener rs c.in-Some-place_at.place) c.as_slice.ensures.value c.in-Some-place_at.ensures in
    (away-becomes l.deadlines.members c.unfile.new.deadlines.members c.in-Some-settled.opener l.rows.items l.last l.has_marked c.in-Some-place_at.place c.index_mut-row.result.now c.clear.new.self at.0 h c.index_mut-row.ensures.value c.unfile.ensures.members c.clear.ensures).rows
    ∙ ap (λ (v : OpenRows). without (Some c.in-Some-settled.opener) v.rows) at.1 ∙ ap (λ o. without o c.args.self.now.rows) (sym c.in-Some-settled.is)

pub returns-then-lists-len-clause-dues : goal.returns-then-lists-len-clause-dues
returns-then-lists-len-clause-dues c = λ es keeps.
    let l = c.as_mut-lists.result.now in
    let at = lists-are c.in-Some.ensures.value c.as_mut-lists.ensures.value c.self.view_is c.self.invariant in
    let h = subst (λ rs. IsRowAt c.in-Some-settled.opener rs c.in-Some-place_at.place) c.as_slice.ensures.value c.in-Some-place_at.ensures in
    (away-becomes l.deadlines.members c.unfile.new.deadlines.members c.in-Some-settled.opener l.rows.items l.last l.has_marked c.in-Some-place_at.place c.index_mut-row.result.now c.clear.new.self at.0 h c.index_mut-row.ensures.value c.unfile.ensures.members c.clear.ensures).dues es (subst (KeepsDues es) (sym at.1) keeps)

pub invariant_of-self-2 : goal.invariant_of-self-2
invariant_of-self-2 c =
    let l = c.as_mut-lists.result.now in
    let at = lists-are c.in-Some.ensures.value c.as_mut-lists.ensures.value c.self.view_is c.self.invariant in
    let h = subst (λ rs. IsRowAt c.in-Some-settled.opener rs c.in-Some-place_at.place) c.as_slice.ensures.value c.in-Some-place_at.ensures in
    let kept : c.retain.new.self.items ≡ filter is_alive (slice_set l.rows.items c.in-Some-place_at.place c.clear.new.self) = filter_same _ is_alive _ (λ x b q h. search rules) _ _ c.retain.ensures.filtered in
    (swept-becomes l.deadlines.members c.unfile.new.deadlines.members l.rows.items (slice_set l.rows.items c.in-Some-place_at.place c.clear.new.self) c.retain.new.self.items l.last l.has_marked (without (Some c.in-Some-settled.opener) (living l.rows.items)) (away-becomes l.deadlines.members c.unfile.new.deadlines.members c.in-Some-settled.opener l.rows.items l.last l.has_marked c.in-Some-place_at.place c.index_mut-row.result.now c.clear.new.self at.0 h c.index_mut-row.ensures.value c.unfile.ensures.members c.clear.ensures) kept).kept

pub returns-clause-rows : goal.returns-clause-rows
returns-clause-rows c =
    let l = c.as_mut-lists.result.now in
    let at = lists-are c.in-Some.ensures.value c.as_mut-lists.ensures.value c.self.view_is c.self.invariant in
    let h = subst (λ rs. IsRowAt c.in-Some-settled.opener rs c.in-Some-place_at.place) c.as_slice.ensures.value c.in-Some-place_at.ensures in
    let kept : c.retain.new.self.items ≡ filter is_alive (slice_set l.rows.items c.in-Some-place_at.place c.clear.new.self) = filter_same _ is_alive _ (λ x b q h. search rules) _ _ c.retain.ensures.filtered in
    (swept-becomes l.deadlines.members c.unfile.new.deadlines.members l.rows.items (slice_set l.rows.items c.in-Some-place_at.place c.clear.new.self) c.retain.new.self.items l.last l.has_marked (without (Some c.in-Some-settled.opener) (living l.rows.items)) (away-becomes l.deadlines.members c.unfile.new.deadlines.members c.in-Some-settled.opener l.rows.items l.last l.has_marked c.in-Some-place_at.place c.index_mut-row.result.now c.clear.new.self at.0 h c.index_mut-row.ensures.value c.unfile.ensures.members c.clear.ensures) kept).rows
    ∙ ap (λ (v : OpenRows). without (Some c.in-Some-settled.opener) v.rows) at.1 ∙ ap (λ o. without o c.args.self.now.rows) (sym c.in-Some-settled.is)

pub returns-clause-dues : goal.returns-clause-dues
returns-clause-dues c = λ es keeps.
    let l = c.as_mut-lists.result.now in
    let at = lists-are c.in-Some.ensures.value c.as_mut-lists.ensures.value c.self.view_is c.self.invariant in
    let h = subst (λ rs. IsRowAt c.in-Some-settled.opener rs c.in-Some-place_at.place) c.as_slice.ensures.value c.in-Some-place_at.ensures in
    let kept : c.retain.new.self.items ≡ filter is_alive (slice_set l.rows.items c.in-Some-place_at.place c.clear.new.self) = filter_same _ is_alive _ (λ x b q h. search rules) _ _ c.retain.ensures.filtered in
    (swept-becomes l.deadlines.members c.unfile.new.deadlines.members l.rows.items (slice_set l.rows.items c.in-Some-place_at.place c.clear.new.self) c.retain.new.self.items l.last l.has_marked (without (Some c.in-Some-settled.opener) (living l.rows.items)) (away-becomes l.deadlines.members c.unfile.new.deadlines.members c.in-Some-settled.opener l.rows.items l.last l.has_marked c.in-Some-place_at.place c.index_mut-row.result.now c.clear.new.self at.0 h c.index_mut-row.ensures.value c.unfile.ensures.members c.clear.ensures) kept).dues es (subst (KeepsDues es) (sym at.1) keeps)
