-- MEANING: what is merged of a service's records by their tickets
use Rattle.std.specs.Prelude.{◌≡◌, ℕ, List, [], ◌++◌, length, map, slice_index_or}
use Rattle.gate.specs.Records.{on}
use Rattle.history.specs.Merged.{AreTicketed, IsMerged}
use Rattle.service.specs.Contents.{setup_of}
use Rattle.service.specs.AtClose.{base_of, IsHistoryOf}
use Rattle.service.specs.Services.{settings_of}
use Rattle.service.specs.Starting.{StartsEmpty}
use Rattle.service.specs.ServiceViews.{Service}
use Rattle.service_model.specs.Service.{Entry}
use Rattle.service_model.specs.WholeRuns.{Whole, InOrder, IsWhole}

-- What is known at the close of a service that was opened without records: there is a record of each shard, and the
-- tickets are those of one history
pub record IsClosed (x : Service) (records : List (List Entry)) (tickets : List (List ℕ)) : Type 0 where
  pub starts : StartsEmpty x
  pub bases : (k : ℕ) → base_of x k ≡ []
  pub count : length records ≡ (settings_of x).shards
  pub history : IsHistoryOf x records tickets

-- what a service left may be merged: its records, by its tickets
abbrev pub ClosedMayBeMerged : Type 0
ClosedMayBeMerged = (x : Service) (records : List (List Entry)) (tickets : List (List ℕ)) → IsClosed x records tickets
    → AreTicketed records tickets

-- A list of steps is the history of the service: each shard's record is its part of it, what comes before each step
-- grounds it, and at every place,
-- for every pair of shards, of the transfers from one to the other those that are acknowledged begin those that are
-- accepted, and these begin those that were issued
pub record IsTheHistory (x : Service) (records : List (List Entry)) (steps : Whole) : Type 0 where
  pub records_are : (k : ℕ) → slice_index_or records k [] ≡ on k steps
  pub whole : IsWhole (setup_of (settings_of x)) steps
  pub in_order : (front rest : Whole) → steps ≡ front ++ rest → (from to : ℕ) → InOrder (setup_of (settings_of x)) front from to

-- what is merged of them, without its tickets, is the service's history
abbrev pub MergedIsTheHistory : Type 0
MergedIsTheHistory = (x : Service) (records : List (List Entry)) (tickets : List (List ℕ)) (steps : List (ℕ × (ℕ × Entry)))
    → IsClosed x records tickets
    → IsMerged steps records tickets → IsTheHistory x records (map (λ (s : ℕ × (ℕ × Entry)). s.1) steps)
