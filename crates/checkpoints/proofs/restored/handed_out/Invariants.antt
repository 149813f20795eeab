use Rattle.std.proofs.Common.{◌≡◌, ◌++◌}
use Rattle.checkpoints.proofs.restored.handed_out.Given as goal
use Rattle.checkpoints.proofs.HandedLemmas.{AreSame}

abbrev pub invariant-loop-restored : goal.invariant-loop-restored
invariant-loop-restored g l = record {
  same : AreSame (λ x. x.object) l.yielded l.handed.items;
  rest : l.fn.shards.items ≡ l.yielded ++ l.restored-iterator.rest.items;
}
