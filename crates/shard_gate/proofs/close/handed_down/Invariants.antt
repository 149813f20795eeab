use Rattle.std.proofs.Common.{◌≡◌, ◌++◌, ◌≤◌, length, map, vec_len, vec_capacity}
use Rattle.gate.specs.Passes.{view as seen_by}
use Rattle.shard_gate.specs.GateViews.{PassView}
use Rattle.shard_gate.proofs.close.handed_down.Given as goal

abbrev pub invariant-loop-pass : goal.invariant-loop-pass
invariant-loop-pass g l = record {
  tables : map (λ p. p.seat.table_id) l.all.items ≡ map (λ (p : PassView). p.table) l.yielded;
  known : map (λ p. seen_by p) l.all.items ≡ map (λ (p : PassView). p.known) l.yielded;
  count : vec_len l.all ≡ length l.yielded;
  wide : 256 ≤ vec_capacity l.all;
  rest : l.fn.passes.items ≡ l.yielded ++ l.pass-iterator.rest.items;
}
