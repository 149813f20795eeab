use Rattle.matching.proofs.Holds.{at_room}
use Rattle.matching.proofs.Places.{found}
use Rattle.std.proofs.Common.{rules, ◌<◌, length}
use Rattle.matching.proofs.held.push_at.Goals as goal

pub returns-clause-pushed : goal.returns-clause-pushed
returns-clause-pushed c =
    let short : length c.index_mut-waiting.result.now.items < c.args.most = search rules in
    at_room (λ v. v.items) c.args.most c.args.all.now.items c.args.slot c.index_mut-waiting.result.now c.push.new.self c.args.hint (found c.args.all.now.items c.args.slot c.index_mut-waiting.result.now c.requires c.index_mut-waiting.ensures.value) short c.in_ok-push.ensures.items
