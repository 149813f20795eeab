use Rattle.std.proofs.Common.{◌≡◌, ℕ, ◌<◌, Some, true}
use Rattle.std.specs.Prelude.{slice_get}
use Rattle.service_model_types.specs.Routing.{knows_queue}
use Rattle.service_model_types.specs.declared.content.Dispatch.{Dispatch}
use Rattle.checkpoints.proofs.queues.knows_dispatches.Given as goal

abbrev pub invariant-loop-index : goal.invariant-loop-index
invariant-loop-index g l = (k : ℕ) (d : Dispatch) → k < l.index → slice_get l.store.waiting.items k ≡ Some d → knows_queue l.store.setup d.queue ≡ true
