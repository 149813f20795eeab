use Rattle.std.proofs.Common.{◌∙◌, map}
use Rattle.matching.proofs.Holds.{fits_held, get-map}
use Rattle.matching.proofs.queues.Queues.open.Goals as goal

pub lay-requires-clause-shards : goal.lay-requires-clause-shards
lay-requires-clause-shards c s v e =
    let lists = c.in_ok-lists.lists.items in
    (fits_held c.args.names.items c.args.most c.args.shards c.args.waiting.items (map (λ v. v.items) lists) c.requires.waiting c.in_ok-lists.ensures.held s v.items (get-map (λ v. v.items) lists s v e)).1

pub all_passes-requires-clause-even : goal.all_passes-requires-clause-even
all_passes-requires-clause-even c = c.in_ok-queues.ensures.count ∙ c.in_ok-lists.ensures.count
