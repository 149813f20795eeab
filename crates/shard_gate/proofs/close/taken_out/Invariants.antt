use Rattle.std.proofs.Common.{◌≡◌, ◌++◌, ◌≤◌, length, map, vec_len, vec_capacity}
use Rattle.shard_gate.proofs.close.taken_out.Given as goal

abbrev pub invariant-loop-slot : goal.invariant-loop-slot
invariant-loop-slot g l = record {
  records : l.records.items ≡ map (λ x. x.entries) l.yielded;
  tickets : l.all_tickets.items ≡ map (λ x. x.tickets) l.yielded;
  shards : l.shards.items ≡ map (λ x. x.object) l.yielded;
  count : vec_len l.records ≡ length l.yielded;
  count_tickets : vec_len l.all_tickets ≡ length l.yielded;
  count_shards : vec_len l.shards ≡ length l.yielded;
  wide : length l.fn.closed.items ≤ vec_capacity l.records;
  wide_tickets : length l.fn.closed.items ≤ vec_capacity l.all_tickets;
  wide_shards : length l.fn.closed.items ≤ vec_capacity l.shards;
  rest : l.fn.closed.items ≡ l.yielded ++ l.slot-iterator.rest.items;
}
