use Rattle.std.proofs.Common.{rules, ◌≡◌, ◌∙◌, sym, ap, subst, filter}
use Rattle.std.proofs.lemmas.Fn.{filter_same}
use Rattle.mutable_state.specs.Filed.{KeepsDues}
use Rattle.mutable_state.specs.Opens.{OpenRows, unmarked}
use Rattle.mutable_state.specs.Rows.{living, is_unmarked_at}
use Rattle.mutable_state.proofs.FilingLemmas.{lists-are, unmarked-becomes}
use Rattle.mutable_state.proofs.RowLemmas.{unmarked-none}
use Rattle.mutable_state.proofs.in_use.InUse.write_held.Goals as goal

pub returns-then-not-lists-clause-rows : goal.returns-then-not-lists-clause-rows
returns-then-not-lists-clause-rows c =
    let l = c.as_mut-lists.result.now in
    let at = lists-are c.in-Some.ensures.value c.as_mut-lists.ensures.value c.self.view_is c.self.invariant in
    sym (unmarked-none (living l.rows.items) (at.0.0.marks c.if-not-lists.true)) ∙ ap (λ (v : OpenRows). unmarked v.rows) at.1

pub invariant_of-self-2 : goal.invariant_of-self-2
invariant_of-self-2 c =
    let l = c.as_mut-lists.result.now in
    let at = lists-are c.in-Some.ensures.value c.as_mut-lists.ensures.value c.self.view_is c.self.invariant in
    let kept : c.retain.new.self.items ≡ filter is_unmarked_at l.rows.items = filter_same _ is_unmarked_at _ (λ x b q h. search rules) _ _ c.retain.ensures.filtered in
    (unmarked-becomes l.deadlines.members l.rows.items c.retain.new.self.items l.last l.has_marked kept at.0).kept

pub returns-clause-rows : goal.returns-clause-rows
returns-clause-rows c =
    let l = c.as_mut-lists.result.now in
    let at = lists-are c.in-Some.ensures.value c.as_mut-lists.ensures.value c.self.view_is c.self.invariant in
    let kept : c.retain.new.self.items ≡ filter is_unmarked_at l.rows.items = filter_same _ is_unmarked_at _ (λ x b q h. search rules) _ _ c.retain.ensures.filtered in
    (unmarked-becomes l.deadlines.members l.rows.items c.retain.new.self.items l.last l.has_marked kept at.0).rows ∙ ap (λ (v : OpenRows). unmarked v.rows) at.1

pub returns-clause-dues : goal.returns-clause-dues
returns-clause-dues c = λ es keeps.
    let l = c.as_mut-lists.result.now in
    let at = lists-are c.in-Some.ensures.value c.as_mut-lists.ensures.value c.self.view_is c.self.invariant in
    let kept : c.retain.new.self.items ≡ filter is_unmarked_at l.rows.items = filter_same _ is_unmarked_at _ (λ x b q h. search rules) _ _ c.retain.ensures.filtered in
    (unmarked-becomes l.deadlines.members l.rows.items c.retain.new.self.items l.last l.has_marked kept at.0).dues es (subst (KeepsDues es) (sym at.1) keeps)
