-- MEANING: what the one history of all shards says about the transfers between them
use Rattle.std.specs.Prelude.{◌≡◌, ℕ, List, [], ◌++◌}
use Rattle.service.specs.ServiceViews.{Service}
use Rattle.service_model.specs.Service.{Entry}
use Rattle.service_model.specs.WholeRuns.{Whole, InOrder, IsWhole}
use Rattle.service.specs.Contents.{setup_of}
use Rattle.service.specs.AtClose.{base_of, IsHistoryOf}
use Rattle.service.specs.Starting.{StartsEmpty}

-- Of a service that was opened without records: the history at the close is a run of the whole service, in which what
-- comes before each step grounds it;
-- and at every place of it, for every pair of shards, of the transfers from one to the other those that are
-- acknowledged begin those that are accepted, and these begin those that were issued
abbrev pub HistoriesInOrder : Type 0
HistoriesInOrder = (x : Service) (records : List (List Entry)) (tickets : List (List ℕ)) → StartsEmpty x → ((k : ℕ) → base_of x k ≡ [])
    → (h : IsHistoryOf x records tickets)
    → IsWhole (setup_of x.settings) h.run
    × ((front rest : Whole) → h.run ≡ front ++ rest → (from to : ℕ) → InOrder (setup_of x.settings) front from to)
