-- MEANING: a service that is opened without records
use Rattle.std.specs.Prelude.{◌≡◌, ◌*◌, [], length, replicate, Ok}
use Rattle.service_model_types.specs.declared.settings.Settings.{Settings}
use Rattle.service.specs.Contents.{opening_contents}
use Rattle.service.specs.Ranges.{range_fault}
use Rattle.script.specs.World.{World, opening_world}

-- each shard is as at its opening, no hint waits, no step is recorded, and none was made
abbrev pub empty_world : Settings → World
empty_world K =
    record { contents = opening_contents K; waiting = replicate (2 * length K.queues) []; records = replicate K.shards []; steps = [] }

-- where the settings are in their ranges, that is what a service without records is opened with
abbrev pub OpensEmpty : Type 0
OpensEmpty = (K : Settings) → range_fault K ≡ Ok tt → opening_world K [] ≡ empty_world K
