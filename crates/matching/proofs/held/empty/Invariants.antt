use Rattle.std.proofs.Common.{◌≡◌, [], map, vec_len, vec_capacity}
use Rattle.std.specs.Prelude.{replicate}
use Rattle.matching.proofs.held.empty.Given as goal

abbrev pub invariant-loop : goal.invariant-loop
invariant-loop l = record {
  lists : map (λ v. v.items) l.all.items ≡ replicate l.counter [];
  count : vec_len l.all ≡ l.counter;
  room : vec_capacity l.all ≡ vec_capacity l.initial.all;
}
