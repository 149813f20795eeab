use Rattle.std.proofs.Common.{[], refl, sym, subst}
use Rattle.history.proofs.RunLemmas.{merged-run, run-records}
use Rattle.service_model.specs.WholeRuns.{Whole}
use Rattle.checkpoint_history.specs.Histories.{begun}
use Rattle.checkpoint_history.specs.Orders.{IsWholeFrom}
use Rattle.checkpoint_history.proofs.HistoryLemmas.{GroundsBehind, since-history, since-whole}
use Rattle.checkpoint_history.proofs.histories.what_is_merged_goes_on.Goals as goal

pub returns : goal.returns
returns c = λ x records tickets since steps h m.
    let history = since-history x records tickets since h in
    let is = merged-run (GroundsBehind x) (λ k. []) (λ k. refl) x.settings.shards since tickets h.count history steps m in
    let whole = subst (λ (W : Whole). IsWholeFrom (begun x) W) (sym is) (since-whole x records tickets since h) in
    record {
      records_are = run-records (GroundsBehind x) (λ k. []) (λ k. refl) x.settings.shards since tickets h.count history steps m;
      whole = whole;
      go_on = λ front rest e from to there there'. c.transfers_go_on.ensures (begun x) _ whole from to (h.starts from to there there') front rest e;
    }
