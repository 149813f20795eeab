use Rattle.std.proofs.Common.{ap, arith}
use Rattle.timeouts.specs.declared.heap.Place.{Place}
use Rattle.timeouts.proofs.NameLemmas.{read}
use Rattle.timeouts.proofs.MemberLemmas.{kept-holds, top-least, none-least}
use Rattle.timeouts.proofs.deadlines.Deadlines.least_counted.Goals as goal

pub returns-then-self-eq0-clause-none : goal.returns-then-self-eq0-clause-none
returns-then-self-eq0-clause-none g c =
    none-least c.args.self.now.members c.self.inside.heap.places.items c.self.inside.heap.count
    (kept-holds c.args.self.now.members c.self.inside.heap c.self.invariant (ap (λ m. m.members) c.self.view_is)) c.if-self-eq0.true

pub returns-clause-least : goal.returns-clause-least
returns-clause-least g c =
    let places = c.self.invariant.places in
    let some = c.if-self-eq0.false in
    let is = ap (λ (p : Place). p.due) (read c.self.inside.heap.places.items 0 c.index.result.now (omega arith) c.index.ensures) in
    rw is (top-least c.args.self.now.members c.self.inside.heap c.self.invariant
    (kept-holds c.args.self.now.members c.self.inside.heap c.self.invariant (ap (λ m. m.members) c.self.view_is)) (omega arith))
