use Rattle.std.proofs.Common.{◌≡◌, ◌++◌, map}
use Rattle.gate.specs.Records.{Each}
use Rattle.shard_gate.specs.Starts.{from_setups, starting}
use Rattle.shard_gate.proofs.open.without_runs.Given as goal

abbrev pub invariant-loop-setup : goal.invariant-loop-setup
invariant-loop-setup g l = record {
  starts : map (starting g.S.Object.opening) l.objects.items ≡ from_setups l.yielded;
  standing : Each l.objects.items (λ k x. g.S.Object.stands x.0 (g.S.Object.opening x.0));
  rest : l.fn.given.items ≡ l.yielded ++ l.setup-iterator.rest.items;
}
