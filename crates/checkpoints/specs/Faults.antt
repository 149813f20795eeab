-- MEANING: why a text gives no shard of a service
use Rattle.std.specs.Prelude.{◌≡◌, ◌⊎◌, ◌≤◌, ℕ, List, Err, false}
use Rattle.wf_event_values.specs.declared.refusal.Refusal.{Refusal}
use Rattle.service_model_types.specs.declared.content.Content.{Content}
use Rattle.service_model_types.specs.declared.content.Setup.{Setup}
use Rattle.service_model_types.specs.declared.settings.Settings.{Settings}
use Rattle.service.specs.Contents.{setup_of}
use Rattle.service.specs.Ranges.{range_fault}
use Rattle.shard_snapshot.specs.Stages.{Spells}
use Rattle.shard_snapshot.specs.Texts.{IsTextFault}
use Rattle.shard_snapshot.specs.declared.fault.RestoreFault.{RestoreFault}
use Rattle.shard_snapshot.specs.declared.fault.RestoreFault.TheVariants as of_text
use Rattle.checkpoints.specs.Queues.{knows_queues_in}
use Rattle.checkpoints.specs.declared.fault.LoadFault.{LoadFault}
use Rattle.checkpoints.specs.declared.fault.LoadFault.TheVariants as of_load

-- the fault of a load that a text's is. A text in memory is always read
abbrev pub load_fault : RestoreFault → LoadFault
load_fault of_text.Memory = of_load.Memory
load_fault (of_text.Read e) = of_load.Memory
load_fault (of_text.Damaged line damage) = of_load.Damaged line damage

-- memory was refused, this line is damaged so, or the text spells a content that names a task queue which isn't the
-- service's
abbrev pub IsLoadFault : Setup → List ℕ → LoadFault → Type 0
IsLoadFault setup text of_load.Memory = Unit {0}
IsLoadFault setup text (of_load.Damaged line damage) = IsTextFault setup (of_text.Damaged line damage) text
IsLoadFault setup text of_load.Queue = (S : Content) × Spells setup text S × (knows_queues_in S ≡ false)
IsLoadFault setup text of_load.Settings = ⊥

-- the service has no shard of this number, or one of its settings is out of its range
abbrev pub IsNoShard : Settings → ℕ → Type 0
IsNoShard K k = (K.shards ≤ k) ⊎ ((fault : Refusal) × (range_fault K ≡ Err fault))

-- so it is, or the text gives no shard of this number
abbrev pub IsShardFault : Settings → ℕ → List ℕ → LoadFault → Type 0
IsShardFault K k text of_load.Memory = Unit {0}
IsShardFault K k text (of_load.Damaged line damage) = IsLoadFault (setup_of K k) text (of_load.Damaged line damage)
IsShardFault K k text of_load.Queue = IsLoadFault (setup_of K k) text of_load.Queue
IsShardFault K k text of_load.Settings = IsNoShard K k
