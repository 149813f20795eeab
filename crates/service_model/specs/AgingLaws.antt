-- MEANING: of one workflow ID the older run goes first, in all contents that a shard has one after another
use Rattle.service_model_types.specs.declared.content.Content.{Content}
use Rattle.service_model_types.specs.declared.content.Setup.{Setup}
use Rattle.service_model.specs.Aging.{OlderFirst}
use Rattle.service_model.specs.Growth.{KeepsHistories}
use Rattle.service_model.specs.Service.{opening}

-- so it is between a content that keeps what the shard opened with, and every one that keeps that one
abbrev pub OlderGoesFirst : Type 0
OlderGoesFirst = (setup : Setup) (S T : Content) → KeepsHistories (opening setup) S → KeepsHistories S T → OlderFirst S T
