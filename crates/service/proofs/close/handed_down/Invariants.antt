use Rattle.std.proofs.Common.{◌≡◌, ◌++◌, ◌≤◌, length, map, vec_len, vec_capacity}
use Rattle.service.proofs.close.handed_down.Given as goal

abbrev pub invariant-loop-pass : goal.invariant-loop-pass
invariant-loop-pass g l = record {
  gives : l.all.items ≡ map (λ p. p.inner) l.yielded;
  gives_hints : l.all_hints.items ≡ map (λ p. p.hints) l.yielded;
  count : vec_len l.all ≡ length l.yielded;
  count_hints : vec_len l.all_hints ≡ length l.yielded;
  wide : 256 ≤ vec_capacity l.all;
  wide_hints : 256 ≤ vec_capacity l.all_hints;
  rest : l.fn.passes.items ≡ l.yielded ++ l.pass-iterator.rest.items;
}
