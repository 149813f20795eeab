use Rattle.std.proofs.Common.{◌≡◌, ◌*◌, length, map}
use Rattle.matching.specs.Holding.{held_by, all_pushed}
use Rattle.matching.proofs.held.held.Given as goal

abbrev pub invariant-loop-dispatch : goal.invariant-loop-dispatch
invariant-loop-dispatch l = record {
  count : length l.all.items ≡ 2 * length l.names.items;
  rest : held_by l.names.items l.most l.fn.waiting.items ≡ all_pushed l.names.items l.most (map (λ v. v.items) l.all.items) l.dispatch-iterator.rest.items;
}
