use Rattle.std.proofs.Common.{◌≡◌, ◌++◌}
use Rattle.lanes.specs.Lanes.{passes_of}
use Rattle.lanes.proofs.run.into_passes.Given as goal

abbrev pub invariant-loop-lane : goal.invariant-loop-lane
invariant-loop-lane g l = record {
  gives : l.passes.items ≡ passes_of l.yielded;
  rest : l.fn.lanes.items ≡ l.yielded ++ l.lane-iterator.rest.items;
}
