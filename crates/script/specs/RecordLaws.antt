-- MEANING: how the records of a service and the contents of its shards belong together
use Rattle.std.specs.Prelude.{◌≡◌, ℕ, ◌++◌, ◌<◌, List}
use Rattle.service_model.specs.Service.{Entry}
use Rattle.service_model_types.specs.declared.settings.Settings.{Settings}
use Rattle.gate.specs.Records.{Begins, on}
use Rattle.service.specs.Reopening.{contents_from, record_at}
use Rattle.script.specs.Lines.{Line}
use Rattle.script.specs.Output.{records_after, world_after_lines}
use Rattle.script.specs.World.{World, opening_from}
use Rattle.shard_gate.specs.declared.source.Source.{Source}

-- after any lines, after any records, or those of a journal, each shard's content is what its record leaves: a service that is opened from
-- these records begins with just the shards that the lines left
abbrev pub RecordsTellContents : Type 0
RecordsTellContents = (source : Source) (K : Settings) (R : List (List Entry)) (lines : List Line) →
    (world_after_lines K (opening_from source K R) lines).contents ≡ contents_from K (records_after K (opening_from source K R) lines)

-- no entry of a record is ever changed or lost
abbrev pub RecordsGrow : Type 0
RecordsGrow = (K : Settings) (W : World) (lines : List Line) (shard : ℕ)
    → Begins (record_at W.records shard) (record_at (records_after K W lines) shard)

-- after any lines a shard's record is the one with which it was opened and, after it, the steps on that shard among
-- all that were made, in their order
abbrev pub RecordsTellSteps : Type 0
RecordsTellSteps = (source : Source) (K : Settings) (R : List (List Entry)) (lines : List Line) (shard : ℕ) → shard < K.shards →
    let W = world_after_lines K (opening_from source K R) lines in
    record_at W.records shard ≡ record_at R shard ++ on shard W.steps
