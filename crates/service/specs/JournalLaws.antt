-- MEANING: when a service is opened from a journal
use Rattle.std.specs.Prelude.{◌≡◌, List, Ok}
use Rattle.service_model_types.specs.declared.request.Hint.{Hint}
use Rattle.service_model_types.specs.declared.settings.Settings.{Settings}
use Rattle.service_model.specs.Service.{Entry}
use Rattle.shard_gate.specs.declared.source.Source.TheVariants.{Journal as FromJournal}
use Rattle.service.specs.Ranges.{range_fault}
use Rattle.service.specs.Reopening.{opens_from, records_fault}

-- where the settings are in their ranges and there is one record of each shard, or none, whatever tasks wait
abbrev pub JournalsOpen : Type 0
JournalsOpen = (K : Settings) (R : List (List Entry)) → range_fault K ≡ Ok tt → records_fault K R ≡ Ok tt
    → (held : List (List Hint)) × (opens_from FromJournal K R ≡ Ok held)
