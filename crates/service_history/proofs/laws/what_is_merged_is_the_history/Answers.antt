use Rattle.std.proofs.Common.{◌∙◌, sym, subst}
use Rattle.service_model.specs.WholeRuns.{IsWhole, Whole}
use Rattle.service.specs.Contents.{setup_of}
use Rattle.service.specs.AtClose.{base_of}
use Rattle.history.proofs.RunLemmas.{merged-run, run-records}
use Rattle.service_history.proofs.laws.what_is_merged_is_the_history.Goals as goal

pub returns : goal.returns
returns c = λ x records tickets steps h m.
    let is = merged-run _ (base_of x) h.bases _ records tickets h.count h.history steps m in
    let known = c.histories_are_in_order.ensures x records tickets h.starts h.bases h.history in
    record {
      records_are = run-records _ (base_of x) h.bases _ records tickets h.count h.history steps m;
      whole = subst (λ (W : Whole). IsWhole (setup_of x.settings) W) (sym is) known.0;
      in_order = λ front rest e from to. known.1 front rest (sym is ∙ e) from to;
    }
