use Rattle.std.proofs.Common.{◌≡◌, ◌∙◌, sym, ap, subst, []}
use Rattle.std.specs.FinMap.{empty}
use Rattle.mutable_state.specs.declared.in_use.Lists.{Lists}
use Rattle.mutable_state.specs.Filed.{AreFiled}
use Rattle.mutable_state.specs.Rows.{AreKept}
use Rattle.mutable_state.proofs.FilingLemmas.{none-becomes}
use Rattle.mutable_state.proofs.in_use.InUse.reserve.Goals as goal

pub invariant_of-self-in_ok-reserve-3-2 : goal.invariant_of-self-in_ok-reserve-3-2
invariant_of-self-in_ok-reserve-3-2 c =
    let l = c.as_mut-lists-then-additional-gt0.result.now in
    let rows = c.reserve-then-additional-gt0.new.self.items in
    let members = c.reserve-then-additional-gt0-2.new.self.members in
    let is = c.as_mut-lists-then-additional-gt0.ensures.value ∙ c.in_ok-boxed.ensures.ok in
    let nil : rows ≡ [] = c.in_ok-reserve-2.ensures.items ∙ ap (λ (x : Lists). x.rows.items) is ∙ c.new.ensures.items in
    let none : members ≡ empty = c.in_ok-reserve-3.ensures.same ∙ ap (λ (x : Lists). x.deadlines.members) is ∙ c.new-then-additional-gt0.ensures in
    subst (λ b. AreKept rows l.last b × AreFiled members rows) (sym (ap (λ (x : Lists). x.has_marked) is)) (none-becomes empty members [] rows l.last none nil).kept
