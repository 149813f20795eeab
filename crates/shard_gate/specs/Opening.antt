-- INNER: what shards are opened from, of each the content at which it starts and its record, and what a gate over them is then
use Rattle.std.specs.Prelude.{◌≡◌, ℕ, List, ◌<◌, ◌^◌, length}
use Rattle.gate.specs.Passes.{IsFresh}
use Rattle.gate.specs.Records.{Each}
use Rattle.service_model_types.specs.declared.content.Dispatch.{Dispatch}
use Rattle.service_model_types.specs.declared.content.Setup.{Setup}
use Rattle.shard_gate.specs.Starts.{Start, opened_with, records_in, waiting_in}
use Rattle.shard_gate.specs.declared.source.Source.{Source}
use Rattle.shard_gate.specs.GateViews.{GateView, IsPassOf, PassView, given, slots, starts_of}

-- the service's and the shard's numbers fit a run id, and there is a shard
pub record IsSetup (s : Setup) : Type 0 where
  pub service : s.service < 2 ^ 48
  pub shard : s.shard < 2 ^ 12
  pub some : 0 < s.shards

-- A gate over these shards, each as its record left it, with so many passes, numbered from 0, that have seen those records;
-- and the tasks whose hints are pushed again
pub record Opens (source : Source) (shards : List Start) (number : ℕ) (x : GateView) (passes : List PassView) (waits : List Dispatch) : Type 0 where
  pub slots : slots x ≡ length shards
  pub starts : starts_of x ≡ opened_with shards
  pub records : x.origin.bases ≡ records_in shards
  pub given : given x ≡ number
  pub count : length passes ≡ number
  pub own : Each passes (λ k p. IsPassOf p x)
  pub fresh : Each passes (λ k p. IsFresh k p.known)
  pub waiting : waits ≡ waiting_in source shards
