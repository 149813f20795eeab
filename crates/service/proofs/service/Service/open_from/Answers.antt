use Rattle.std.proofs.Common.{◌≡◌, ap, sym, ◌∙◌, subst, arith}
use Rattle.std.specs.Prelude.{◌<◌, All, Ok}
use Rattle.service_model_types.specs.declared.content.Dispatch.{Dispatch}
use Rattle.shard_gate.specs.Starts.{from_setups}
use Rattle.service.specs.Reopening.{records_fault}
use Rattle.service.proofs.OpenLemmas.{in-range}
use Rattle.service.proofs.ReopenLemmas.{given-count, opens-as, records-right, setups-fit, waiting-is, waiting-there}
use Rattle.service.proofs.ResumeLemmas.{empty-start, err-weaker, opened-as}
use Rattle.service.proofs.ServedLemmas.{weaker}
use Rattle.service.proofs.service.Service.open_from.Goals as goal

pub setups_and_records-requires-clause-count : goal.setups_and_records-requires-clause-count
setups_and_records-requires-clause-count g c =
    let K = c.args.settings.now in
    records-right K c.args.records.items (sym (c.in_ok-check_records.ensures ∙ ap (records_fault K) c.deref.ensures.value))

pub open-requires-clause-slots : goal.open-requires-clause-slots
open-requires-clause-slots g c =
    let K = c.args.settings.now in
    let range = in-range K (sym c.in_ok-check_ranges.ensures) in
    let count = given-count K c.in_ok-given.given.items c.in_ok-given.ensures.setups in
    (omega (arith, count, range.some_shard), omega (arith, count, range.few_shards))

pub open-requires-clause-setups : goal.open-requires-clause-setups
open-requires-clause-setups g c =
    let K = c.args.settings.now in
    setups-fit K c.in_ok-given.given.items (in-range K (sym c.in_ok-check_ranges.ensures)) c.in_ok-given.ensures.setups

pub behind_gate-requires-clause-shards : goal.behind_gate-requires-clause-shards
behind_gate-requires-clause-shards g c =
    let K = c.args.settings.now in
    let R = c.args.records.items in
    let waits = c.in_ok-opened.ensures.waiting ∙ waiting-is c.args.source K R c.in_ok-given.given.items c.in_ok-given.ensures.setups c.in_ok-given.ensures.records in
    subst (All (λ (d : Dispatch). d.hint.shard < K.shards)) (sym waits) (waiting-there c.args.source K R)

pub behind_gate-requires-clause-range : goal.behind_gate-requires-clause-range
behind_gate-requires-clause-range g c = sym c.in_ok-check_ranges.ensures

pub behind_gate-requires-clause-count : goal.behind_gate-requires-clause-count
behind_gate-requires-clause-count g c = c.in_ok-opened.ensures.count

pub returns-clause-ok : goal.returns-clause-ok
returns-clause-ok g c =
    let K = c.args.settings.now in
    let R = c.args.records.items in
    let given = c.in_ok-given in
    let right : records_fault K R ≡ Ok tt = sym (c.in_ok-check_records.ensures ∙ ap (records_fault K) c.deref.ensures.value) in
    weaker c.behind_gate.result _ _
    (λ r resumed. opened-as c.args.source K R given.given.items r.0 r.1.items given.ensures.setups given.ensures.records right
    (resumed (from_setups given.given.items) c.in_ok-opened.ensures (empty-start K given.given.items given.ensures.setups)))
    c.behind_gate.ensures.ok

pub returns-clause-err : goal.returns-clause-err
returns-clause-err g c =
    let K = c.args.settings.now in
    let R = c.args.records.items in
    let right : records_fault K R ≡ Ok tt = sym (c.in_ok-check_records.ensures ∙ ap (records_fault K) c.deref.ensures.value) in
    let waits = c.in_ok-opened.ensures.waiting ∙ waiting-is c.args.source K R c.in_ok-given.given.items c.in_ok-given.ensures.setups c.in_ok-given.ensures.records in
    err-weaker c.behind_gate.result _ _
    (λ e refused other. opens-as c.args.source K R _ _ (sym c.in_ok-check_ranges.ensures) right waits (refused other))
    c.behind_gate.ensures.err
