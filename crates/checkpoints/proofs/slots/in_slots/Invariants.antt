use Rattle.std.proofs.Common.{◌≡◌, ◌++◌, length, map}
use Rattle.std.specs.Vec.Iter.{into_iter_items, into_iter_len}
use Rattle.checkpoints.specs.Resumed.{AreInSlots}
use Rattle.checkpoints.proofs.slots.in_slots.Given as goal

abbrev pub invariant-loop-restored : goal.invariant-loop-restored
invariant-loop-restored g l = record {
  slots : AreInSlots l.yielded (map (λ x. x.1) l.given.items) l.given.items;
  rest : l.fn.shards.items ≡ l.yielded ++ l.restored-iterator.rest.items;
  records : l.fn.records.items ≡ map (λ x. x.1) l.given.items ++ into_iter_items l.records;
  len : length (into_iter_items l.records) ≡ into_iter_len l.records;
}
