use Rattle.std.proofs.Common.{ℕ, ◌<◌, length}
use Rattle.checkpoint_history.specs.CountedPairs.{PlacesInOrder}
use Rattle.checkpoint_history.proofs.counts.are_in_order.Given as goal

abbrev pub invariant-loop-to : goal.invariant-loop-to
invariant-loop-to l = record {
  rows : (from to : ℕ) → from < l.from → to < length l.shards → PlacesInOrder l.shards from to;
  row : (to : ℕ) → to < l.to → PlacesInOrder l.shards l.from to;
}

abbrev pub invariant-loop-from : goal.invariant-loop-from
invariant-loop-from l = (from to : ℕ) → from < l.from → to < length l.shards → PlacesInOrder l.shards from to
