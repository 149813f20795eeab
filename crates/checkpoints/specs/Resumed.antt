-- MEANING: services that go on from the texts of snapshots
use Rattle.std.specs.Prelude.{◌≡◌, ℕ, List, length, map, slice_get, Some}
use Rattle.service_model.specs.Service.{Entry}
use Rattle.service_model_types.specs.declared.content.Content.{Content}
use Rattle.service_model_types.specs.declared.settings.Settings.{Settings}
use Rattle.shard_gate.specs.Starts.{Start}
use Rattle.shard_gate.specs.declared.resumed.Resumed.{Resumed}
use Rattle.checkpoints.specs.Checkpoints.{Spell, starts_by}
use Rattle.checkpoints.specs.declared.restored.Restored.{Restored}

-- it is so of a service that goes on from the contents which the texts spell, each with the record of what was done since
pub record FromTexts (K : Settings) (texts : List (List ℕ)) (records : List (List Entry)) (Holds : List Start → Type 0) : Type 0 where
  pub content : ℕ → Content
  pub spell : Spell K texts content
  pub holds : Holds (starts_by content records K)

-- the shards stand in their slots, each with its record
pub record AreInSlots {S H : Type 0} (shards : List (Restored S)) (records : List (List Entry)) (given : List (Resumed S H × List Entry)) : Type 0 where
  pub count : length given ≡ length shards
  pub each : (k : ℕ) (r : Restored S) (x : Resumed S H × List Entry) → slice_get shards k ≡ Some r → slice_get given k ≡ Some x
      → (x.0.shard ≡ r.shard) × (x.0.slot ≡ Some k)
  pub records_are : map (λ x. x.1) given ≡ records
