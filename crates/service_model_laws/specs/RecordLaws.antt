-- MEANING: what every record leaves, and what every longer one keeps of it
use Rattle.std.specs.Prelude.{List, ◌++◌}
use Rattle.service_model_types.specs.declared.content.Setup.{Setup}
use Rattle.service_model.specs.Aging.{OlderFirst}
use Rattle.service_model.specs.Growth.{HasOneOpen, KeepsHistories}
use Rattle.service_model.specs.Service.{Entry, replay}

-- whatever a record's entries ask, what more entries leave keeps of what it leaves what every content keeps
abbrev pub RecordsKeepHistories : Type 0
RecordsKeepHistories = (setup : Setup) (R more : List Entry) → KeepsHistories (replay setup R) (replay setup (R ++ more))

-- a workflow ID has at most one open run
abbrev pub RecordsHaveOneOpen : Type 0
RecordsHaveOneOpen = (setup : Setup) (R : List Entry) → HasOneOpen (replay setup R)

-- and of two of its runs the older goes first
abbrev pub OlderGoesFirstInRecords : Type 0
OlderGoesFirstInRecords = (setup : Setup) (R more : List Entry) → OlderFirst (replay setup R) (replay setup (R ++ more))
