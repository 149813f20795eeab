use Rattle.std.proofs.Common.{◌≡◌, ◌++◌, map}
use Rattle.gate.specs.Passes.{view as seen_by}
use Rattle.shard_gate.specs.GateViews.{PassView}
use Rattle.shard_gate.proofs.open.as_shard_passes.Given as goal

abbrev pub invariant-loop-inner : goal.invariant-loop-inner
invariant-loop-inner g l = record {
  tables : map (λ (p : PassView). p.table) l.passes.items ≡ map (λ p. p.seat.table_id) l.yielded;
  known : map (λ (p : PassView). p.known) l.passes.items ≡ map (λ p. seen_by p) l.yielded;
  rest : l.fn.inner.items ≡ l.yielded ++ l.inner-iterator.rest.items;
}
