use Rattle.std.proofs.Common.{List, ap, sym, ◌∙◌, subst, arith}
use mathlib.Core.List.{map-map}
use Rattle.std.specs.Prelude.{map, slice_get}
use Rattle.service_model.specs.Service.{Entry}
use Rattle.service_model.proofs.ListLemmas.{get-map}
use Rattle.service_model_types.specs.declared.content.Content.{Content}
use Rattle.service_model_types.specs.declared.request.Request.{Request}
use Rattle.gate.specs.declared.view.Origin.{Origin}
use Rattle.gate.specs.declared.view.View.{View}
use Rattle.gate.specs.AtClose.{IsEnd, HasDone}
use Rattle.gate.specs.SlotRule.{at}
use Rattle.gate.specs.Passes.{number, tickets}
use Rattle.gate.specs.Passes.{view as seen_by}
use Rattle.gate.specs.Records.{Begins, replay}
use Rattle.shard_gate.specs.GateViews.{PassView}
use Rattle.shard_gate.proofs.CloseLemmas.{history-as, image-at, one-at}
use Rattle.shard_gate.proofs.shard_gate.ShardGate.close.Goals as goal

pub close-requires-clause-own : goal.close-requires-clause-own
close-requires-clause-own g c = λ k i there.
    let handed = c.handed_down-passes.ensures in
    let (p, place, table) = image-at _ (λ (p : PassView). p.table) c.handed_down-passes.result.items c.args.passes.items i.seat.table_id handed.tables k i there in
    let (q, also, known) = image-at _ (λ (p : PassView). p.known) c.handed_down-passes.result.items c.args.passes.items (seen_by i) handed.known k i there in
    let own = c.requires.own k p place in
    let origin = ap (λ (v : View Request Content). v.origin) (known ∙ ap (λ (p : PassView). p.known) (one-at c.args.passes.items k q p also place)) in
    (table ∙ own.0 ∙ sym c.into_parts-gate.ensures.table, origin ∙ own.1 ∙ sym c.into_parts-gate.ensures.origin)

pub close-requires-clause-all : goal.close-requires-clause-all
close-requires-clause-all g c = λ n below.
    let handed = c.handed_down-passes.ensures in
    let count = ap (λ (o : Origin Request Content). o.passes) c.into_parts-gate.ensures.origin in
    let (k, p, there, named) = c.requires.all n (omega (arith, below, count)) in
    let (i, place, known) = image-at (λ (p : PassView). p.known) (λ j. seen_by j) c.args.passes.items c.handed_down-passes.result.items p.known (sym handed.known) k p there in
    (k, i, place, ap (λ (v : View Request Content). number v) (sym known) ∙ named)

pub returns-clause-shards : goal.returns-clause-shards
returns-clause-shards g c = λ k shard log there kept.
    let (x, place, is) = get-map (λ x. x.object) c.close.result.items k shard (ap (λ t. slice_get t k) (sym c.taken_out.ensures.shards) ∙ there) in
    let (y, also, entries) = get-map (λ x. x.entries) c.close.result.items k log (ap (λ t. slice_get t k) (sym c.taken_out.ensures.records) ∙ kept) in
    let same = one-at c.close.result.items k y x also place in
    let N : _ → Type 0 = λ o. g.S.Object.stands o (replay g.S.Object.after (g.S.Object.opening o) log) in
    let L : List Entry → Type 0 = λ l. g.S.Object.stands x.object (replay g.S.Object.after (g.S.Object.opening x.object) l) in
    subst N (sym is) (subst L (sym (entries ∙ ap (λ z. z.entries) same)) (c.close.ensures.stands k x place))

pub returns-clause-records : goal.returns-clause-records
returns-clause-records g c = λ k log there.
    let (x, place, is) = get-map (λ x. x.entries) c.close.result.items k log (ap (λ t. slice_get t k) (sym c.taken_out.ensures.records) ∙ there) in
    let P : Origin Request Content → Type 0 = λ o. IsEnd (at o.bases k) o.passes x.entries in
    let N : List Entry → Type 0 = λ l. IsEnd (at c.args.self.origin.bases k) c.args.self.origin.passes l in
    subst N (sym is) (subst P c.into_parts-gate.ensures.origin (c.close.ensures.records k x place))

pub returns-clause-passes : goal.returns-clause-passes
returns-clause-passes g c = λ k log j p there mine.
    let handed = c.handed_down-passes.ensures in
    let (x, place, is) = get-map (λ x. x.entries) c.close.result.items k log (ap (λ t. slice_get t k) (sym c.taken_out.ensures.records) ∙ there) in
    let (i, own, known) = image-at (λ (p : PassView). p.known) (λ q. seen_by q) c.args.passes.items c.handed_down-passes.result.items p.known (sym handed.known) j p mine in
    let P : Origin Request Content → Type 0 = λ o. HasDone (at o.bases k) (seen_by i) k x.entries in
    let V : View Request Content → Type 0 = λ v. HasDone (at c.args.self.origin.bases k) v k x.entries in
    let N : List Entry → Type 0 = λ l. HasDone (at c.args.self.origin.bases k) p.known k l in
    subst N (sym is) (subst V (sym known) (subst P c.into_parts-gate.ensures.origin (c.close.ensures.passes k x j i place own)))

pub returns-clause-seen : goal.returns-clause-seen
returns-clause-seen g c = λ k ts j p there mine.
    let handed = c.handed_down-passes.ensures in
    let (x, place, is) = get-map (λ x. x.tickets) c.close.result.items k ts (ap (λ t. slice_get t k) (sym c.taken_out.ensures.tickets) ∙ there) in
    let (i, own, known) = image-at (λ (p : PassView). p.known) (λ q. seen_by q) c.args.passes.items c.handed_down-passes.result.items p.known (sym handed.known) j p mine in
    let V : View Request Content → Type 0 = λ v. Begins (tickets v k) x.tickets.items in
    let N : _ → Type 0 = λ l. Begins (tickets p.known k) l.items in
    subst N (sym is) (subst V (sym known) (c.close.ensures.seen k x j i place own))

pub returns-clause-history : goal.returns-clause-history
returns-clause-history g c =
    let laws = g.met.S.ShardObject in
    let parts = c.into_parts-gate.ensures in
    let logs = sym c.taken_out.ensures.records in
    let stamps = sym (ap (map (λ t. t.items)) c.taken_out.ensures.tickets ∙ map-map (λ t. t.items) (λ x. x.tickets) c.close.result.items) in
    history-as _ _ laws.goes_on laws.needs_all _ _ parts.origin _ _ (ap (λ t. t.slots) parts.table) _ _ logs _ _ stamps c.close.ensures.history
