use Rattle.std.proofs.Common.{◌≡◌, ◌∷◌, [], rules, sym, ◌∙◌}
use Rattle.mutable_state.specs.Steps.{after_step}
use Rattle.mutable_state.proofs.JournalLemmas.{stands-next}
use Rattle.snapshot_facts.proofs.TestLemmas.{tested}
use Rattle.snapshot_facts.proofs.restoring.try_add.Goals as goal

pub commit-requires-clause-fit : goal.commit-requires-clause-fit
commit-requires-clause-fit g c =
    let fit = tested c.args.moment c.args.run.now.state c.args.fact (sym c.in_ok-may_come.ensures ∙ c.if-not-branch.false) in
    search (rules, fit, c.in_ok-plan.ensures.made, c.in_ok-plan.ensures.same)

pub returns-clause-stands : goal.returns-clause-stands
returns-clause-stands g c = λ h steps J stood.
    let old = c.args.run.now.state in
    let facts = c.args.fact ∷ [] in
    let fit = tested c.args.moment old c.args.fact (sym c.in_ok-may_come.ensures ∙ c.if-not-branch.false) in
    let is : c.commit.new.self.state ≡ after_step c.args.moment facts old = search (rules, c.commit.ensures, c.in_ok-plan.ensures.made, c.in_ok-plan.ensures.same) in
    stands-next steps c.args.moment J facts old c.commit.new.self.state stood fit is
