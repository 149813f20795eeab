-- MEANING: the one history of a service whose shards went on from contents in order, by the records that it left
use Rattle.std.specs.Prelude.{◌≡◌, ℕ, ◌<◌, List, [], ◌++◌, length, map, slice_index_or}
use Rattle.history.specs.Merged.{AreTicketed, IsMerged}
use Rattle.service.specs.AtClose.{base_of, IsHistoryOf}
use Rattle.service.specs.Contents.{setup_of}
use Rattle.service.specs.Headline.{content_of}
use Rattle.service.specs.Resuming.{Resumes}
use Rattle.service.specs.Services.{settings_of}
use Rattle.service.specs.ServiceViews.{Pass, Service}
use Rattle.service.specs.Starting.{StartsEmpty}
use Rattle.service_model.specs.Service.{Entry, opening}
use Rattle.service_model.specs.WholeRuns.{Whole, on}
use Rattle.service_model_types.specs.declared.content.Content.{Content}
use Rattle.service_model_types.specs.declared.settings.Settings.{Settings}
use Rattle.shard_gate.specs.Starts.{Start, content_behind}
use Rattle.shard_gate.specs.declared.source.Source.{Source}
use Rattle.checkpoint_history.specs.Orders.{AreInOrder, GoOn, IsWholeFrom}

-- the content from which a shard went on: what the record with which it was opened leaves of the one at which it started
abbrev pub begun : Service → ℕ → Content
begun x shard = content_of x shard (base_of x shard)

-- What is known at the close: the shards went on from contents in order, the tickets are those of one history, and of each
-- shard's record this is what comes after the one with which the shard was opened
pub record IsClosedFrom (x : Service) (records : List (List Entry)) (tickets : List (List ℕ)) (since : List (List Entry)) : Type 0 where
  pub starts : AreInOrder (settings_of x).shards (begun x)
  pub history : IsHistoryOf x records tickets
  pub count : length since ≡ (settings_of x).shards
  pub parts : (k : ℕ) → k < (settings_of x).shards → slice_index_or records k [] ≡ base_of x k ++ slice_index_or since k []

-- A list of steps is the history of the service: each shard's record since the opening is its part of it, what comes before
-- each step grounds it, and at every place, for every pair of shards, the transfers from one to the other go on in order
pub record IsTheHistoryFrom (x : Service) (since : List (List Entry)) (steps : Whole) : Type 0 where
  pub records_are : (k : ℕ) → slice_index_or since k [] ≡ on k steps
  pub whole : IsWholeFrom (begun x) steps
  pub go_on : (front rest : Whole) → steps ≡ front ++ rest → (from to : ℕ) → from < (settings_of x).shards → to < (settings_of x).shards
      → GoOn (begun x) front from to

-- what a service left may be merged by its tickets
abbrev pub SinceMayBeMerged : Type 0
SinceMayBeMerged = (x : Service) (records : List (List Entry)) (tickets : List (List ℕ)) (since : List (List Entry))
    → IsClosedFrom x records tickets since → AreTicketed since tickets

-- what is merged of it, without its tickets, is its history since the opening
abbrev pub MergedGoesOn : Type 0
MergedGoesOn = (x : Service) (records : List (List Entry)) (tickets : List (List ℕ)) (since : List (List Entry))
    (steps : List (ℕ × (ℕ × Entry))) → IsClosedFrom x records tickets since → IsMerged steps since tickets
    → IsTheHistoryFrom x since (map (λ (s : ℕ × (ℕ × Entry)). s.1) steps)

-- the content that each shard has at the close
abbrev pub left : Service → List (List Entry) → ℕ → Content
left x records shard = content_of x shard (slice_index_or records shard [])

-- these are in order again: so are the snapshots of them, and a service that goes on from those
abbrev pub LeavesInOrder : Type 0
LeavesInOrder = (x : Service) (records : List (List Entry)) (tickets : List (List ℕ)) (since : List (List Entry))
    → IsClosedFrom x records tickets since → AreInOrder (settings_of x).shards (left x records)

-- a service that was opened without records went on from contents in order
abbrev pub OpenedIsBegun : Type 0
OpenedIsBegun = (x : Service) (records : List (List Entry)) (tickets : List (List ℕ)) → StartsEmpty x → ((k : ℕ) → base_of x k ≡ [])
    → length records ≡ (settings_of x).shards → IsHistoryOf x records tickets → IsClosedFrom x records tickets records

-- where a shard of a service by these settings begins that is resumed so: at what its record leaves of its content
abbrev pub begun_from : Settings → List Start → ℕ → Content
begun_from K shards shard = content_behind (slice_index_or shards shard (opening (setup_of K shard), []))

-- so a service that was resumed went on from the contents that its shards were given at
abbrev pub ResumedIsBegun : Type 0
ResumedIsBegun = (source : Source) (K : Settings) (shards : List Start) (x : Service) (passes : List Pass) → Resumes source K shards x passes
    → (shard : ℕ) → begun x shard ≡ begun_from K shards shard

-- where these are in order, so it is
abbrev pub ResumedInOrder : Type 0
ResumedInOrder = (source : Source) (K : Settings) (shards : List Start) (x : Service) (passes : List Pass) → Resumes source K shards x passes
    → AreInOrder K.shards (begun_from K shards) → AreInOrder (settings_of x).shards (begun x)
