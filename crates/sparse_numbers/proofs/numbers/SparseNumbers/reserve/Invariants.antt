use Rattle.std.proofs.Common.{◌≡◌, ◌+◌, ◌*◌, ◌-◌, ◌≤◌, length}
use Rattle.sparse_numbers.specs.Pages.{IsPaged, SameNumbers}
use Rattle.sparse_numbers.proofs.numbers.SparseNumbers.reserve.Given as goal

abbrev pub invariant-loop-self : goal.invariant-loop-self
invariant-loop-self l = record {
  paged : IsPaged l.self-inside.pages l.self-inside.len;
  same : SameNumbers l.initial.self-inside.pages l.self-inside.pages;
  count : l.self-inside.len ≡ l.initial.self-inside.len;
  more : length l.initial.self-inside.pages ≤ length l.self-inside.pages;
}

abbrev pub decreases-loop-self : goal.decreases-loop-self
decreases-loop-self l = l.additional + l.self-inside.len - 1024 * length l.self-inside.pages
