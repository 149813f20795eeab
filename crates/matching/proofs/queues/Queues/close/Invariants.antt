use Rattle.std.proofs.Common.{◌≡◌, ◌++◌, ℕ, ◌∷◌, [], length, Some, slice_get}
use Rattle.matching.specs.Named.{known_by, IsPassOf}
use Rattle.matching.proofs.Ended.{AllTaken}
use Rattle.matching.proofs.queues.Queues.close.Given as goal

abbrev pub invariant-loop-pass : goal.invariant-loop-pass
invariant-loop-pass l = record {
  own : IsPassOf l.last l.self;
  first : AllTaken (length l.self.queues.items) (known_by l.last) (known_by l.initial.last);
  each : (k : ℕ) (p : _) → slice_get l.yielded k ≡ Some p → AllTaken (length l.self.queues.items) (known_by l.last) (known_by p);
  rest : l.fn.passes.items ≡ (l.yielded ++ l.pass-iterator.rest.items) ++ l.initial.last ∷ [];
}
