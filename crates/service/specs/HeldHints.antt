-- MEANING: what new passes know of the hints that the queues hold at opening, and what else holds of a service that was opened
use Rattle.std.specs.Prelude.{◌≡◌, ℕ, List, length, slice_get, Some, Ok}
use Rattle.gate.specs.Passes.{IsFresh}
use Rattle.service_model_types.specs.declared.content.Dispatch.{Dispatch}
use Rattle.service_model_types.specs.declared.request.Hint.{Hint}
use Rattle.service_model_types.specs.declared.settings.Settings.{Settings}
use Rattle.service_model.specs.Service.{Entry}
use Rattle.matching.specs.declared.queues.QueuesPass.{QueuesPass}
use Rattle.shard_gate.specs.declared.source.Source.{Source}
use Rattle.shard_gate.specs.declared.source.Source.TheVariants.{Records as FromRecords}
use Rattle.matching.specs.Named as matching
use Rattle.service.specs.ServiceViews.{Pass}
use Rattle.service.specs.ServiceViews.{Service}
use Rattle.shard_gate.specs.GateViews as gates
use Rattle.service.specs.AtClose.{base_of}
use Rattle.service.specs.Contents.{opening_contents}
use Rattle.service.specs.Ranges.{range_fault}
use Rattle.service.specs.Reopening.{held_from, opens_from, record_at}
use Rattle.service.specs.Services.{IsPassOf, known_by, settings_of}

-- What passes of queues know once these dispatches were pushed: each knows all that the queues hold then, as pushed by the first pass
pub record HoldAtOpening (source : Source) (K : Settings) (waiting : List Dispatch) (passes : List QueuesPass) : Type 0 where
  pub held : List (List Hint)
  pub pushed : held_from source K waiting ≡ Ok held
  pub fresh : (k : ℕ) (p : QueuesPass) → slice_get passes k ≡ Some p → matching.IsFresh K.passes K.shards K.capacity held k p

-- what the passes of a service know of the hints that its queues hold at opening: those of the tasks that wait in the
-- contents which the records leave
pub record HoldsFrom (source : Source) (K : Settings) (records : List (List Entry)) (passes : List Pass) : Type 0 where
  pub held : List (List Hint)
  pub opened : opens_from source K records ≡ Ok held
  pub fresh : (k : ℕ) (p : Pass) → slice_get passes k ≡ Some p → matching.IsFresh K.passes K.shards K.capacity held k p.hints

abbrev pub HoldsAtOpening : Settings → List (List Entry) → List Pass → Type 0
HoldsAtOpening = HoldsFrom FromRecords

-- What opening by these settings and records gives: a service by these settings, each shard with its record, and as many
-- passes of it as the settings say, numbered from 0, that have seen those records and know the hints
pub record OpensFrom (source : Source) (K : Settings) (logs : List (List Entry)) (x : Service) (passes : List Pass) : Type 0 where
  pub own : (k : ℕ) (p : Pass) → slice_get passes k ≡ Some p → IsPassOf p x
  pub fresh : (k : ℕ) (p : Pass) → slice_get passes k ≡ Some p → IsFresh k (known_by p)
  pub records : (s : ℕ) → base_of x s ≡ record_at logs s
  pub width : length x.gate.origin.bases ≡ K.shards
  -- before its record each shard has no runs
  pub starts : gates.starts_of x.gate ≡ opening_contents K
  pub held : HoldsFrom source K logs passes
  pub settings : settings_of x ≡ K
  pub count : length passes ≡ K.passes
  pub range : range_fault K ≡ Ok tt

-- the same from records
abbrev pub Opens : Settings → List (List Entry) → Service → List Pass → Type 0
Opens = OpensFrom FromRecords
