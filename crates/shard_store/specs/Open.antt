-- PROOF: which runs of a workflow ID are open
use Rattle.std.specs.Prelude.{◌≡◌, ℕ, ◌<◌, true, false, List, Some, slice_get}
use Rattle.service_model.specs.RunState.{RunState, id_of, is_open, is_there}

-- of two runs of one workflow ID the earlier has closed: at most one is open
pub record IsOneOpen (runs : List RunState) : Type 0 where
  pub earlier : (m n : ℕ) (s t : RunState) → m < n → slice_get runs m ≡ Some s → slice_get runs n ≡ Some t → is_there t ≡ true
      → id_of s ≡ id_of t → is_open s ≡ false

-- all runs of a workflow ID have closed
pub record HasClosed (runs : List RunState) (id : List ℕ) : Type 0 where
  pub each : (m : ℕ) (s : RunState) → slice_get runs m ≡ Some s → id_of s ≡ id → is_open s ≡ false
