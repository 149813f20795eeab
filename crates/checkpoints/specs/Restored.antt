-- MEANING: the shards of a service as the texts of their snapshots restore them
use Rattle.std.specs.Prelude.{◌≡◌, ℕ, List, length}
use Rattle.gate.specs.Records.{Each}
use Rattle.service_model_types.specs.declared.content.Content.{Content}
use Rattle.service_model_types.specs.declared.settings.Settings.{Settings}
use Rattle.service.specs.Contents.{setup_of}
use Rattle.checkpoint_history.specs.Orders.{AreInOrder}
use Rattle.checkpoints.specs.Checkpoints.{AreCounted, Keeps, Spell}
use Rattle.checkpoints.specs.declared.restored.Restored.{Restored}

-- the text that a shard was restored from
abbrev pub text_of : {S : Type 0} → Restored S → List ℕ
text_of r = r.text.value.items

-- the shard of this number was restored from its text, and its counts are its own
pub record IsRestored {S : Type 0} (stands : S → Content → Type 0) (K : Settings) (k : ℕ) (r : Restored S) : Type 0 where
  pub keeps : Keeps stands (setup_of K k) (text_of r) r.shard
  pub counted : AreCounted stands r.shard r.counts

-- there is one of each shard of the service
pub record AreRestored {S : Type 0} (stands : S → Content → Type 0) (K : Settings) (shards : List (Restored S)) : Type 0 where
  pub count : length shards ≡ K.shards
  pub each : Each shards (λ k r. IsRestored stands K k r)

-- the contents that these texts spell are in order
abbrev pub SpellInOrder : Settings → List (List ℕ) → Type 0
SpellInOrder K texts = (content : ℕ → Content) → Spell K texts content → AreInOrder K.shards content
