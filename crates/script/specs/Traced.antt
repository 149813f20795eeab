-- PROOF: the steps of a world, as records and tickets at the close give them
use Rattle.std.specs.Prelude.{◌≡◌, ℕ, ◌<◌, List}
use Rattle.gate.specs.Records.{on}
use Rattle.history.specs.Merged.{AreTicketed, IsMerged, numbered}
use Rattle.service.specs.Reopening.{record_at}
use Rattle.service_model.specs.Service.{Entry}
use Rattle.service_model_types.specs.declared.settings.Settings.{Settings}
use Rattle.script.specs.Lines.{Line}
use Rattle.script.specs.Output.{world_after_lines}
use Rattle.script.specs.World.{World}

-- the records have no entries but the steps
abbrev pub HasStepsAlone : Settings → World → Type 0
HasStepsAlone K W = (shard : ℕ) → shard < K.shards → record_at W.records shard ≡ on shard W.steps

-- nor have they after any lines
abbrev pub StepsStayAlone : Settings → World → Type 0
StepsStayAlone K W = (lines : List Line) → HasStepsAlone K (world_after_lines K W lines)

-- by their tickets the records are merged into just these steps, whose tickets are their places
pub record AreTracedBy (steps : List (ℕ × Entry)) (records : List (List Entry)) (tickets : List (List ℕ)) : Type 0 where
  pub ticketed : AreTicketed records tickets
  pub merged : IsMerged (numbered 1 steps) records tickets
