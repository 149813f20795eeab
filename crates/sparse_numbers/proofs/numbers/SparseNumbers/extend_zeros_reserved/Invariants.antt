use Rattle.std.proofs.Common.{◌≡◌, length}
use Rattle.sparse_numbers.specs.Pages.{IsPaged, SameNumbers}
use Rattle.sparse_numbers.proofs.numbers.SparseNumbers.extend_zeros_reserved.Given as goal

abbrev pub invariant-loop-page : goal.invariant-loop-page
invariant-loop-page l = record {
  paged : IsPaged l.self-inside.pages l.self-inside.len;
  same : SameNumbers l.initial.self-inside.pages l.self-inside.pages;
  count : length l.self-inside.pages ≡ length l.initial.self-inside.pages;
  len : l.self-inside.len ≡ l.initial.self-inside.len;
}
