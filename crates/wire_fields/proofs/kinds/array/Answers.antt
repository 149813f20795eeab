use Rattle.std.proofs.Common.{map}
use Rattle.wire_fields.proofs.ListLemmas.{array-there}
use Rattle.wire_fields.proofs.kinds.array.Goals as goal

pub returns-in-Some : goal.returns-in-Some
returns-in-Some g c =
    let seen = g.V.Tree.stands_for in
    array-there c.args.field (seen c.args.value.now) (map seen c.in-Some.elements.now) c.in-Some.ensures
