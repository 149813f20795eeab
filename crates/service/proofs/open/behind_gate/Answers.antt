use Rattle.std.proofs.Common.{◌≡◌, ℕ, List, length, ap, sym, ◌∙◌, subst}
use Rattle.std.proofs.lemmas.List.{length-map}
use Rattle.std.proofs.lemmas.Result.{err_from_is_err_and}
use Rattle.std.specs.Prelude.{slice_get, Some}
use Rattle.service_model_types.specs.declared.settings.Settings.{Settings}
use Rattle.service_model_types.specs.declared.content.Content.{Content}
use Rattle.service_model.proofs.ListLemmas.{map-get}
use Rattle.service.specs.ServiceViews.{Pass}
use Rattle.service.specs.Services.{IsInRange}
use Rattle.service.specs.Starting.{AreStarts}
use Rattle.service.proofs.OpenLemmas.{in-range}
use Rattle.service.proofs.ResumeLemmas.{resumes-as}
use Rattle.service.proofs.open.behind_gate.Goals as goal

pub open_queues-requires-clause-range : goal.open_queues-requires-clause-range
open_queues-requires-clause-range g c = in-range c.args.settings.now c.requires.range

pub returns-clause-ok : goal.returns-clause-ok
returns-clause-ok g c = λ shards gate starts.
    let K = c.args.settings.now in
    let same = sym c.in_ok-copy.ensures in
    let queues = c.in_ok-queues.ensures in
    let made = c.in_ok-passes in
    let inner : (k : ℕ) (p : Pass) → slice_get made.passes.items k ≡ Some p → slice_get c.args.opened.passes.items k ≡ Some p.inner =
    λ k p there. ap (λ t. slice_get t k) (sym made.ensures.inner) ∙ map-get (λ (q : Pass). q.inner) made.passes.items k p there in
    let hints : (k : ℕ) (p : Pass) → slice_get made.passes.items k ≡ Some p → slice_get c.in_ok-queues.hints.items k ≡ Some p.hints =
    λ k p there. ap (λ t. slice_get t k) (sym made.ensures.hints) ∙ map-get (λ (q : Pass). q.hints) made.passes.items k p there in
    let by_starts = subst (λ (cs : List Content). AreStarts K cs) (sym gate.starts) starts in
    record {
      own = λ k p there. record {
        opened = record {
          range = subst (λ N. IsInRange N) same (in-range K c.requires.range);
          slots = gate.slots ∙ sym (length-map shards (λ s. s.0)) ∙ starts.count ∙ ap (λ (N : Settings). N.shards) same;
          starts = subst (λ N. AreStarts N c.args.opened.gate.origin.starts) same by_starts;
          passes = gate.given ∙ ap (λ (N : Settings). N.passes) same;
          names = queues.names ∙ ap (λ (N : Settings). N.queues) same;
          capacity = queues.capacity ∙ ap (λ (N : Settings). N.capacity) same;
          named_shards = queues.shards ∙ ap (λ (N : Settings). N.shards) same;
          hint_passes = queues.given ∙ ap (λ (N : Settings). N.passes) same;
        };
        own = gate.own k p.inner (inner k p there);
        hints = queues.own k p.hints (hints k p there);
      };
      fresh = λ k p there. gate.fresh k p.inner (inner k p there);
      starts = gate.starts;
      records = gate.records;
      held = record {
        held = queues.held.held;
        resumed = resumes-as c.args.source K shards _ _ c.requires.range gate.waiting queues.held.pushed;
        fresh = λ k p there. queues.held.fresh k p.hints (hints k p there);
      };
      settings = c.in_ok-copy.ensures;
      count = sym (length-map made.passes.items (λ (p : Pass). p.inner)) ∙ ap length made.ensures.inner ∙ gate.count;
      range = c.requires.range;
    }

pub returns-in_err-queues-clause-err : goal.returns-in_err-queues-clause-err
returns-in_err-queues-clause-err g c =
    let p = err_from_is_err_and c.from_residual.result c.from_residual.ensures.1 in
    rw (p.1, p.2) (λ other. c.in_err-queues.ensures.err other)
