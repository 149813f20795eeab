-- MEANING: the contents at which the shards of a service start, before their records: where it was opened those of shards
-- without runs, where it was resumed those that were handed in
use Rattle.std.specs.Prelude.{◌≡◌, ℕ, List, length, slice_index_or}
use Rattle.std.specs.List.{AllByRecursion}
use Rattle.service_model_types.specs.declared.content.Content.{Content}
use Rattle.service_model_types.specs.declared.content.Dispatch.{Dispatch}
use Rattle.service_model_types.specs.declared.settings.Settings.{Settings}
use Rattle.service_model.specs.Service.{opening}
use Rattle.gate.specs.Records.{Each}
use Rattle.shard_gate.specs.GateViews as gates
use Rattle.service.specs.Contents.{opening_contents, setup_of}
use Rattle.service.specs.ServiceViews.{Service}

-- what is so of any content at which a shard of a service by these settings may start
pub record IsStart (K : Settings) (shard : ℕ) (S : Content) : Type 0 where
  -- the shard has the setup that these settings give it
  pub setup : S.setup ≡ setup_of K shard
  -- it counts what it accepted of each shard
  pub accepted : length S.accepted ≡ K.shards
  -- its dispatches name it
  pub dispatches : AllByRecursion (λ (d : Dispatch). d.hint.shard ≡ shard) S.dispatches

-- there is one of each shard
pub record AreStarts (K : Settings) (starts : List Content) : Type 0 where
  pub count : length starts ≡ K.shards
  pub each : Each starts (λ shard S. IsStart K shard S)

-- the content at which a shard of the service started
abbrev pub start_of : Service → ℕ → Content
start_of x shard = slice_index_or (gates.starts_of x.gate) shard (opening (setup_of x.settings shard))

-- before their records the shards had no runs: the service was opened and not resumed
abbrev pub StartsEmpty : Service → Type 0
StartsEmpty x = gates.starts_of x.gate ≡ opening_contents x.settings
