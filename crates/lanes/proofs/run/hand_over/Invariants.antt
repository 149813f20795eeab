use Rattle.lanes.proofs.SortLemmas.{Handing}
use Rattle.lanes.proofs.run.hand_over.Given as goal

abbrev pub invariant-loop-k : goal.invariant-loop-k
invariant-loop-k g l = record {
  handing : Handing l.first l.fn.calls.items l.fn.lanes.items l.k l.calls.items l.lanes.items;
}
