use Rattle.std.proofs.Common.{[], refl}
use Rattle.history.proofs.RunLemmas.{history-ticketed}
use Rattle.checkpoint_history.proofs.HistoryLemmas.{GroundsBehind, since-history}
use Rattle.checkpoint_history.proofs.histories.records_since_may_be_merged.Goals as goal

pub returns : goal.returns
returns c = λ x records tickets since h.
    history-ticketed (GroundsBehind x) (λ k. []) (λ k. refl) x.settings.shards since tickets h.count (since-history x records tickets since h)
