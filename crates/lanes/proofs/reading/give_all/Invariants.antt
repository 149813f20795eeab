use Rattle.std.proofs.Common.{◌≡◌, length}
use Rattle.lanes.proofs.FoundLemmas.{Giving}
use Rattle.lanes.proofs.reading.give_all.Given as goal

abbrev pub invariant-loop-k : goal.invariant-loop-k
invariant-loop-k l = record {
  count : length l.readers ≡ l.count;
  giving : Giving l.text l.readers l.k l.rest;
}
