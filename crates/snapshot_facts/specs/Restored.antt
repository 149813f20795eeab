-- PROOF: that a run is restored by its own facts
use Rattle.std.specs.Prelude.{◌≡◌, true}
use Rattle.service_model.specs.RunState.{RunState}
use Rattle.snapshot_facts.specs.Facts.{restored}
use Rattle.snapshot_facts.specs.Restoring.{may_be_restored}

-- a run's facts restore it, and each of them passes the test
abbrev pub ComesBack : RunState → Type 0
ComesBack s = (restored s ≡ s) × (may_be_restored s ≡ true)
