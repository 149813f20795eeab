use Rattle.std.proofs.Common.{ap, subst, ◌<◌, ◌^◌, refl}
use Rattle.std.specs.FinMap.{insert}
use Rattle.timeouts.proofs.MemberLemmas.{kept-holds, kept-is, kept-count}
use Rattle.timeouts.proofs.CostLemmas.{add-cost}
use Rattle.timeouts.proofs.deadlines.Deadlines.add_counted.Goals as goal

pub returns-clause-free : goal.returns-clause-free
returns-clause-free g c = (c.add-number.ensures.members c.args.self.now.members (kept-holds c.args.self.now.members c.self.inside.heap c.self.invariant (ap (λ m. m.members) c.self.view_is))).0

pub returns-clause-added : goal.returns-clause-added
returns-clause-added g c =
    kept-is (insert c.args.self.now.members c.add-number.result c.args.due) c.add-number.new.self c.add-number.ensures.kept
    (c.add-number.ensures.members c.args.self.now.members (kept-holds c.args.self.now.members c.self.inside.heap c.self.invariant (ap (λ m. m.members) c.self.view_is))).1

pub returns-clause-steps : goal.returns-clause-steps
returns-clause-steps g c = λ digits few.
    add-cost c.args.steps.now c.add-number.new.steps c.add-number.new.self.count digits c.add-number.ensures.cost
    (subst (λ n. n < 2 ^ digits) (kept-count _ c.add-number.new.self c.add-number.ensures.kept refl) few)
