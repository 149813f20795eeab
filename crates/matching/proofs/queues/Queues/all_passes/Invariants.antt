use Rattle.std.proofs.Common.{◌≡◌, ℕ, Some, slice_get, length, vec_len, vec_capacity}
use Rattle.matching.specs.Opening.{AreMakers}
use Rattle.matching.specs.Named.{held_of, IsPassOf, IsFresh}
use Rattle.matching.proofs.queues.Queues.all_passes.Given as goal

abbrev pub invariant-loop-k : goal.invariant-loop-k
invariant-loop-k l = record {
  makers : AreMakers l.passes l.shards l.self.capacity l.k l.makers.items l.self.queues.items;
  count : (length l.all.items ≡ l.k) × (vec_len l.all ≡ l.k);
  room : vec_capacity l.all ≡ vec_capacity l.initial.all;
  own : (k : ℕ) (p : _) → slice_get l.all.items k ≡ Some p → IsPassOf p l.self;
  fresh : (k : ℕ) (p : _) → slice_get l.all.items k ≡ Some p → IsFresh l.passes l.shards l.self.capacity (held_of l.self) k p;
}
