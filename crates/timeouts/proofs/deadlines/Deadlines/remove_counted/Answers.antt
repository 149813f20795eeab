use Rattle.std.proofs.Common.{ap, subst, ◌<◌, ◌^◌}
use Rattle.std.specs.FinMap.{remove}
use Rattle.timeouts.proofs.MemberLemmas.{kept-holds, kept-is, kept-count, member-there}
use Rattle.timeouts.proofs.deadlines.Deadlines.remove_counted.Goals as goal

pub remove-requires-clause-there : goal.remove-requires-clause-there
remove-requires-clause-there g c =
    member-there c.args.self.now.members c.self.inside.heap c.args.id.number c.requires.0 c.self.invariant
    (kept-holds c.args.self.now.members c.self.inside.heap c.self.invariant (ap (λ m. m.members) c.self.view_is)) c.requires.1

pub returns-clause-removed : goal.returns-clause-removed
returns-clause-removed g c =
    kept-is (remove c.args.self.now.members c.args.id.number) c.remove.new.self c.remove.ensures.kept
    (c.remove.ensures.members c.args.self.now.members (kept-holds c.args.self.now.members c.self.inside.heap c.self.invariant (ap (λ m. m.members) c.self.view_is)))

pub returns-clause-steps : goal.returns-clause-steps
returns-clause-steps g c = λ digits few.
    c.remove.ensures.cost digits (subst (λ n. n < 2 ^ digits) (kept-count c.args.self.now.members c.self.inside.heap c.self.invariant (ap (λ m. m.members) c.self.view_is)) few)
