use Rattle.std.proofs.Common.{◌≡◌, ℕ, ◌<◌}
use Rattle.std.specs.Prelude.{slice_get}
use Rattle.snapshot_writing.proofs.same.are_same_dispatches.Given as goal

abbrev pub invariant-loop-index : goal.invariant-loop-index
invariant-loop-index g l = (m : ℕ) → m < l.index → slice_get l.one.waiting.items m ≡ slice_get l.other.waiting.items m
