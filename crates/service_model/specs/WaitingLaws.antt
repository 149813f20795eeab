-- MEANING: where the tasks go that wait
use Rattle.std.specs.Prelude.{◌≡◌, true, List}
use Rattle.std.specs.List.{AllByRecursion}
use Rattle.service_model_types.specs.declared.content.Dispatch.{Dispatch}
use Rattle.service_model_types.specs.declared.content.Setup.{Setup}
use Rattle.service_model_types.specs.Routing.{knows_queue}
use Rattle.service_model.specs.Service.{Entry, replay}
use Rattle.service_model.specs.Waiting.{waiting}

-- the queue is one that the service was opened with, and the hint names the shard
pub record IsNamed (setup : Setup) (d : Dispatch) : Type 0 where
  pub queue : knows_queue setup d.queue ≡ true
  pub shard : d.hint.shard ≡ setup.shard

-- each task that waits is named so, whatever the shard was asked
abbrev pub WaitingAreNamed : Type 0
WaitingAreNamed = (setup : Setup) (R : List Entry) → AllByRecursion (IsNamed setup) (waiting (replay setup R))
