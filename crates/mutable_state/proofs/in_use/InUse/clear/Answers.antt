use Rattle.std.proofs.Common.{sym, subst}
use Rattle.mutable_state.specs.Filed.{KeepsDues}
use Rattle.mutable_state.proofs.FilingLemmas.{lists-are, none-becomes}
use Rattle.mutable_state.proofs.in_use.InUse.clear.Goals as goal

pub invariant_of-self-2 : goal.invariant_of-self-2
invariant_of-self-2 c =
    let l = c.as_mut-lists.result.now in
    (none-becomes l.deadlines.members c.clear-2.new.self.members l.rows.items c.clear.new.self.items l.last c.clear-2.ensures.members c.clear.ensures.items).kept

pub returns-clause-dues : goal.returns-clause-dues
returns-clause-dues c = λ es keeps.
    let l = c.as_mut-lists.result.now in
    let at = lists-are c.in-Some.ensures.value c.as_mut-lists.ensures.value c.self.view_is c.self.invariant in
    (none-becomes l.deadlines.members c.clear-2.new.self.members l.rows.items c.clear.new.self.items l.last c.clear-2.ensures.members c.clear.ensures.items).dues es (subst (KeepsDues es) (sym at.1) keeps)
