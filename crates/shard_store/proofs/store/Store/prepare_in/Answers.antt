use Rattle.std.proofs.Common.{refl}
use Rattle.shard_store.proofs.store.Store.prepare_in.Goals as goal

pub returns-clause-more : goal.returns-clause-more
returns-clause-more g c = record {
  place = refl;
  there = c.in_ok-plan.ensures.there;
  caught_up = c.in_ok-plan.ensures.caught_up;
  room = c.in_ok-plan.ensures.room;
  change = c.in_ok-plan.ensures.made;
}
