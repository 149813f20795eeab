-- the one history of a service over lanes, and the text of its steps
use Rattle.std.proofs.Common.{◌≡◌, ℕ, List, [], Some, Vec, Global, length, map, slice_get, sym, subst}
use Rattle.gate.specs.Passes as gate
use Rattle.gate.specs.Records.{Begins}
use Rattle.history.specs.Merged.{AreTicketed, IsMerged, numbered}
use Rattle.history.proofs.RunLemmas.{history-ticketed, run-merged}
use Rattle.service.specs.AtClose.{IsHistoryOf, base_of}
use Rattle.service.specs.Services.{known_by, settings_of}
use Rattle.service.specs.ServiceViews.{Service}
use Rattle.service.specs.ServiceViews.{Pass}
use Rattle.service_model.specs.Service.{Entry}
use Rattle.service_model.proofs.ListLemmas.{get-map}
use Rattle.lanes.specs.Reopened.{AreOneHistory}

module _ (x : Service) (logs : List (List Entry)) (stamps : List (List ℕ)) (count : length logs ≡ (settings_of x).shards) (history : IsHistoryOf x logs stamps) (empty : (s : ℕ) → base_of x s ≡ []) where
  pub closed-ticketed : AreTicketed logs stamps
  closed-ticketed = history-ticketed _ (base_of x) empty _ logs stamps count history

  pub closed-merged : IsMerged (numbered 1 history.run) logs stamps
  closed-merged = run-merged _ (base_of x) empty _ logs stamps count history

-- what the close gives
abbrev pub one-history : (x : Service) (ends : List Pass) (logs : List (List Entry)) (tickets : List (Vec ℕ Global)) → IsHistoryOf x logs (map (λ t. t.items) tickets)
    → ((s : ℕ) (ts : Vec ℕ Global) (k : ℕ) (p : Pass) → slice_get tickets s ≡ Some ts → slice_get ends k ≡ Some p → Begins (gate.tickets (known_by p) s) ts.items) → AreOneHistory x ends logs
one-history x ends logs tickets history seen = record {
  tickets = map (λ t. t.items) tickets;
  history = history;
  seen = λ s ts k p there at.
      let (v, found, is) = get-map (λ (t : Vec ℕ Global). t.items) tickets s ts there in
      subst (λ l. Begins (gate.tickets (known_by p) s) l) (sym is) (seen s v k p found at);
}
