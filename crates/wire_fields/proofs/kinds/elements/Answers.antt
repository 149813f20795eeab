use Rattle.std.proofs.Common.{◌≤◌, ◌<◌, length, arith}
use Rattle.wire_fields.proofs.ListLemmas.{elements-within, elements-past}
use Rattle.wire_fields.proofs.kinds.elements.Goals as goal

pub returns : goal.returns
returns g c =
    let seen = g.V.Tree.stands_for in
    let within : length c.in_ok-elements.elements.now ≤ c.args.most = omega arith in
    elements-within seen c.args.most c.args.field (seen c.args.value.now) c.in_ok-elements.elements.now c.in_ok-elements.ensures within

pub returns-then-elements-most : goal.returns-then-elements-most
returns-then-elements-most g c =
    let seen = g.V.Tree.stands_for in
    let past : c.args.most < length c.in_ok-elements.elements.now = omega arith in
    elements-past seen c.args.most c.args.field (seen c.args.value.now) c.in_ok-elements.elements.now c.in_ok-elements.ensures past
