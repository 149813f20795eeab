use Rattle.std.proofs.Common.{◌≡◌, ◌++◌, length, map}
use Rattle.std.specs.Vec.Iter.{into_iter_items, into_iter_len}
use Rattle.service.specs.ServiceViews.{Pass}
use Rattle.service.proofs.open.paired.Given as goal

abbrev pub invariant-loop-inner : goal.invariant-loop-inner
invariant-loop-inner g l = record {
  inner : map (λ (p : Pass). p.inner) l.passes.items ≡ l.yielded;
  rest : l.fn.inner.items ≡ l.yielded ++ l.inner-iterator.rest.items;
  hints : l.fn.hints.items ≡ map (λ (p : Pass). p.hints) l.passes.items ++ into_iter_items l.hints;
  len : length (into_iter_items l.hints) ≡ into_iter_len l.hints;
}
