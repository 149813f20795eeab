use Rattle.std.proofs.Common.{◌≡◌, ◌++◌, length, map}
use Rattle.std.specs.List.{range_with_len}
use Rattle.service.specs.Contents.{setup_of}
use Rattle.service.proofs.reopen.beside_setups.Given as goal

abbrev pub invariant-loop-log : goal.invariant-loop-log
invariant-loop-log l = record {
  setups : map (λ g. g.0) l.all.items ≡ map (λ k. setup_of l.settings k) (range_with_len 0 (length l.all.items));
  records : map (λ g. g.1) l.all.items ≡ l.yielded;
  rest : l.fn.records.items ≡ l.yielded ++ l.log-iterator.rest.items;
}
