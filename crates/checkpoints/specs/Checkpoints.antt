-- MEANING: shards that are restored from texts, and the contents at which a service starts with them
use Rattle.std.specs.Prelude.{◌≡◌, ℕ, List, length, map, slice_get, Some}
use Rattle.std.specs.List.{range_with_len}
use Rattle.service_model.specs.Service.{Entry}
use Rattle.service_model_types.specs.declared.content.Content.{Content}
use Rattle.service_model_types.specs.declared.content.Setup.{Setup}
use Rattle.service_model_types.specs.declared.settings.Settings.{Settings}
use Rattle.service.specs.Contents.{setup_of}
use Rattle.service.specs.Reopening.{record_at}
use Rattle.shard_gate.specs.Starts.{Start}
use Rattle.shard_snapshot.specs.Stages.{Spells}
use Rattle.checkpoint_history.specs.Counts.{counts_of}
use Rattle.checkpoint_history.specs.declared.counts.TransferCounts.{TransferCounts}

-- the text spells a content of a shard with this setup, and the shard stands for that
pub record Keeps {S : Type 0} (stands : S → Content → Type 0) (setup : Setup) (text : List ℕ) (shard : S) : Type 0 where
  pub content : Content
  pub spells : Spells setup text content
  pub stands_for : stands shard content

-- these are the counts of transfers of every content for which the shard stands
abbrev pub AreCounted : {S : Type 0} → (S → Content → Type 0) → S → TransferCounts → Type 0
AreCounted stands shard counts = (C : Content) → stands shard C → counts ≡ counts_of C

-- the texts, one of each shard of a service with these settings, spell these contents
pub record Spell (K : Settings) (texts : List (List ℕ)) (content : ℕ → Content) : Type 0 where
  pub count : length texts ≡ K.shards
  pub each : (k : ℕ) (text : List ℕ) → slice_get texts k ≡ Some text → Spells (setup_of K k) text (content k)

-- the shards of a service, each at its content, with the record of what was done since
abbrev pub starts_by : (ℕ → Content) → List (List Entry) → Settings → List Start
starts_by content records K = map (λ (k : ℕ). (content k, record_at records k)) (range_with_len 0 K.shards)
