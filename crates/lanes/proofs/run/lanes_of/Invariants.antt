use Rattle.std.proofs.Common.{◌≡◌, ◌++◌, length}
use Rattle.std.specs.Vec.Iter.{into_iter_items, into_iter_len}
use Rattle.lanes.specs.Lanes.{AreIdle, passes_of}
use Rattle.lanes.proofs.run.lanes_of.Given as goal

abbrev pub invariant-loop-pass : goal.invariant-loop-pass
invariant-loop-pass g l = record {
  passes : passes_of l.lanes.items ++ into_iter_items l.pass-iterator ≡ l.fn.passes.items;
  count : length (into_iter_items l.pass-iterator) ≡ into_iter_len l.pass-iterator;
  idle : AreIdle l.lanes.items;
}
