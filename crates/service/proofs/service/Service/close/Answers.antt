use Rattle.std.proofs.Common.{ap, sym, ◌∙◌, subst, arith}
use Rattle.std.proofs.lemmas.List.{length-map}
use Rattle.std.specs.Prelude.{slice_get, length}
use Rattle.shard_gate.specs.GateViews as gates
use Rattle.service.specs.ServiceViews.{Pass}
use Rattle.service.proofs.CloseLemmas.{ends-with, has-done, hints-own, history-as, opened-by, queues-ended}
use Rattle.service_model.proofs.ListLemmas.{get-map, map-get}
use Rattle.service.proofs.service.Service.close.Goals as goal

pub handed_down-passes-requires : goal.handed_down-passes-requires
handed_down-passes-requires g c =
    let opened = opened-by c.args.passes.items c.args.self c.into_parts-gate.ensures.some_pass c.requires.own c.requires.all in
    omega (arith, c.requires.count, opened.range.few_passes)

pub close-closed-requires-clause-own : goal.close-closed-requires-clause-own
close-closed-requires-clause-own g c = λ k i there.
    let (p, place, is) = get-map (λ (p : Pass). p.inner) c.args.passes.items k i (ap (λ t. slice_get t k) (sym c.handed_down-passes.ensures.inner) ∙ there) in
    let P : gates.PassView → Type 0 = λ q. gates.IsPassOf q c.args.self.gate in
    let G : gates.GateView → Type 0 = λ x. gates.IsPassOf i x in
    subst G (sym c.into_parts-gate.ensures.gate) (subst P (sym is) (c.requires.own k p place).own)

pub close-closed-requires-clause-count : goal.close-closed-requires-clause-count
close-closed-requires-clause-count g c =
    let opened = opened-by c.args.passes.items c.args.self c.into_parts-gate.ensures.some_pass c.requires.own c.requires.all in
    ap length c.handed_down-passes.ensures.inner ∙ length-map c.args.passes.items (λ (p : Pass). p.inner) ∙ c.requires.count ∙ sym opened.passes ∙ ap gates.given (sym c.into_parts-gate.ensures.gate)

pub close-closed-requires-clause-all : goal.close-closed-requires-clause-all
close-closed-requires-clause-all g c = λ n below.
    let opened = opened-by c.args.passes.items c.args.self c.into_parts-gate.ensures.some_pass c.requires.own c.requires.all in
    let passes = opened.passes in
    let (k, p, there, named) = c.requires.all n (omega (arith, below, passes, ap gates.given c.into_parts-gate.ensures.gate)) in
    (k, p.inner, ap (λ t. slice_get t k) c.handed_down-passes.ensures.inner ∙ map-get (λ (p : Pass). p.inner) c.args.passes.items k p there, named)

pub close-requires : goal.close-requires
close-requires g c = record {
  own = hints-own c.args.passes.items c.args.self _ c.into_parts-gate.ensures.queues c.requires.own _ c.handed_down-passes.ensures.hints;
}

pub returns-clause-kept : goal.returns-clause-kept
returns-clause-kept g c =
    let opened = opened-by c.args.passes.items c.args.self c.into_parts-gate.ensures.some_pass c.requires.own c.requires.all in
    c.close-closed.ensures.kept ∙ ap gates.slots c.into_parts-gate.ensures.gate ∙ opened.slots

pub returns-clause-count : goal.returns-clause-count
returns-clause-count g c =
    let opened = opened-by c.args.passes.items c.args.self c.into_parts-gate.ensures.some_pass c.requires.own c.requires.all in
    c.close-closed.ensures.count ∙ ap gates.slots c.into_parts-gate.ensures.gate ∙ opened.slots

pub returns-clause-records : goal.returns-clause-records
returns-clause-records g c = λ k log there.
    let opened = opened-by c.args.passes.items c.args.self c.into_parts-gate.ensures.some_pass c.requires.own c.requires.all in
    ends-with c.args.self _ c.into_parts-gate.ensures.gate opened k log (c.close-closed.ensures.records k log there)

pub returns-clause-passes : goal.returns-clause-passes
returns-clause-passes g c = λ k log j p there mine.
    let handed = ap (λ t. slice_get t j) c.handed_down-passes.ensures.inner ∙ map-get (λ (p : Pass). p.inner) c.args.passes.items j p mine in
    has-done c.args.self _ c.into_parts-gate.ensures.gate k log p (c.close-closed.ensures.passes k log j p.inner there handed)

pub returns-clause-seen : goal.returns-clause-seen
returns-clause-seen g c = λ k ts j p there mine.
    let handed = ap (λ t. slice_get t j) c.handed_down-passes.ensures.inner ∙ map-get (λ (p : Pass). p.inner) c.args.passes.items j p mine in
    c.close-closed.ensures.seen k ts j p.inner there handed

pub returns-clause-history : goal.returns-clause-history
returns-clause-history g c =
    let opened = opened-by c.args.passes.items c.args.self c.into_parts-gate.ensures.some_pass c.requires.own c.requires.all in
    history-as c.args.self _ c.into_parts-gate.ensures.gate opened _ _ c.close-closed.ensures.history

pub returns-clause-queues : goal.returns-clause-queues
returns-clause-queues g c =
    let opened = opened-by c.args.passes.items c.args.self c.into_parts-gate.ensures.some_pass c.requires.own c.requires.all in
    queues-ended c.args.passes.items c.args.self _ c.into_parts-gate.ensures.queues _ c.handed_down-passes.ensures.hints opened c.close.ensures.ended
