-- MEANING: a service that is resumed from shards, of each a content for which it stands and the record of what was done since:
-- what its queues hold then, why it is refused, and what it is
use Rattle.std.specs.Prelude.{◌≡◌, ℕ, List, length, slice_get, Some, Result, Ok}
use Rattle.wf_event_values.specs.declared.refusal.Refusal.{Refusal}
use Rattle.service_model_types.specs.declared.request.Hint.{Hint}
use Rattle.service_model_types.specs.declared.settings.Settings.{Settings}
use Rattle.gate.specs.Passes.{IsFresh}
use Rattle.matching.specs.Named as matching
use Rattle.shard_gate.specs.GateViews as gates
use Rattle.shard_gate.specs.Starts.{Start, opened_with, records_in, waiting_in}
use Rattle.shard_gate.specs.declared.source.Source.{Source}
use Rattle.service.specs.ServiceViews.{Pass, Service}
use Rattle.service.specs.Ranges.{range_fault}
use Rattle.service.specs.Reopening.{held_from, unless_fault}
use Rattle.service.specs.Services.{IsPassOf, known_by, settings_of}

-- What resuming comes to: the hints that each queue then holds, those of the tasks that wait in the contents which the
-- records leave. It is refused for a setting that is out of its range, and then where the hints don't fit
abbrev pub resumes_from : Source → Settings → List Start → Result (List (List Hint)) Refusal
resumes_from source K shards = unless_fault (range_fault K) (held_from source K (waiting_in source shards))

-- what the passes of a service know of the hints that its queues hold then
pub record HoldsBehind (source : Source) (K : Settings) (shards : List Start) (passes : List Pass) : Type 0 where
  pub held : List (List Hint)
  pub resumed : resumes_from source K shards ≡ Ok held
  pub fresh : (k : ℕ) (p : Pass) → slice_get passes k ≡ Some p → matching.IsFresh K.passes K.shards K.capacity held k p.hints

-- What resuming by these settings and from these shards gives: a service by these settings, each shard at its content and
-- with its record, and as many passes of it as the settings say, numbered from 0, that have seen those records and know the
-- hints
pub record Resumes (source : Source) (K : Settings) (shards : List Start) (x : Service) (passes : List Pass) : Type 0 where
  pub own : (k : ℕ) (p : Pass) → slice_get passes k ≡ Some p → IsPassOf p x
  pub fresh : (k : ℕ) (p : Pass) → slice_get passes k ≡ Some p → IsFresh k (known_by p)
  pub starts : gates.starts_of x.gate ≡ opened_with shards
  pub records : x.gate.origin.bases ≡ records_in shards
  pub held : HoldsBehind source K shards passes
  pub settings : settings_of x ≡ K
  pub count : length passes ≡ K.passes
  pub range : range_fault K ≡ Ok tt
