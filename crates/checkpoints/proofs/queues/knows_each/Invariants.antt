use Rattle.std.proofs.Common.{◌≡◌, ℕ, ◌<◌, Some, true}
use Rattle.std.specs.Prelude.{slice_get}
use Rattle.mutable_state.specs.Activities.{row_said}
use Rattle.mutable_state.specs.declared.activity.Activity.{Activity}
use Rattle.checkpoints.specs.Queues.{knows_by}
use Rattle.checkpoints.proofs.queues.knows_each.Given as goal

abbrev pub invariant-loop-place : goal.invariant-loop-place
invariant-loop-place l = (k : ℕ) (a : Activity) → k < l.place → slice_get l.activities k ≡ Some a → knows_by l.setup (row_said a).opened.attributes ≡ true
