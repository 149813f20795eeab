-- what the tests say about the passes of a gate
use Rattle.std.specs.Prelude.{◌≡◌, ℕ, List, Some, slice_get}
use Rattle.gate.specs.GateViews.{IsPassOf}
use Rattle.gate.specs.Passes.{view, number}
use Rattle.gate.specs.declared.gate.Gate.{Gate}
use Rattle.gate.specs.declared.object.Object.{Ghosts}
use Rattle.gate.specs.declared.pass.Pass.{Pass}

module _ {O Q R P C : Type 0} {g : Ghosts O Q R P C} where
  -- the passes are the gate's, and lie in the order of their numbers
  abbrev pub InOrder : Gate O Q R P C → List (Pass O Q R P C g) → Type 0
  InOrder x passes = (k : ℕ) (p : Pass O Q R P C g) → slice_get passes k ≡ Some p → IsPassOf p x × (number (view p) ≡ k)

  -- a pass of the gate, that has the number that this one has
  abbrev pub ComesBack : Gate O Q R P C → Pass O Q R P C g → Pass O Q R P C g → Type 0
  ComesBack x before pass = IsPassOf pass x × (number (view pass) ≡ number (view before))
