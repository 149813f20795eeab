-- PROOF: a service over lanes before its first line, however it came to be
use Rattle.std.specs.Prelude.{◌≡◌, ℕ, List, length, slice_get, Some, Ok}
use Rattle.service_model.specs.Service.{Entry}
use Rattle.service_model_types.specs.declared.settings.Settings.{Settings}
use Rattle.gate.specs.Passes.{IsFresh}
use Rattle.matching.specs.Named as matching
use Rattle.service.specs.AtClose.{base_of}
use Rattle.service.specs.Ranges.{range_fault}
use Rattle.service.specs.Reopening.{record_at}
use Rattle.service.specs.Services.{IsPassOf, known_by, settings_of}
use Rattle.service.specs.ServiceViews.{Service}
use Rattle.service.specs.ServiceViews.{Pass}
use Rattle.lanes.specs.Reopened.{HintsHeld, Opening}

-- what is so of it and of the passes that it gave: each shard has its record
pub record BeganWith (K : Settings) (R : List (List Entry)) (x : Service) (passes : List Pass) : Type 0 where
  pub settings : settings_of x ≡ K
  pub range : range_fault K ≡ Ok tt
  pub count : length passes ≡ K.passes
  pub own : (k : ℕ) (p : Pass) → slice_get passes k ≡ Some p → IsPassOf p x
  pub fresh : (k : ℕ) (p : Pass) → slice_get passes k ≡ Some p → IsFresh k (known_by p)
  pub records : (s : ℕ) → base_of x s ≡ record_at R s
  pub width : length x.gate.origin.bases ≡ K.shards

-- just this one, with these passes
abbrev pub Exactly : Service → List Pass → Opening
Exactly x passes y others = (y ≡ x) × (others ≡ passes)

-- the hints in its queues, however it came to be
abbrev pub hints_of : (opened : Opening) → HintsHeld opened
hints_of opened x passes is = matching.held_of x.queues
