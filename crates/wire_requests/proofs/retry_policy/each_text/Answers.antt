use Rattle.std.proofs.Common.{◌≡◌, ◌+◌, drop, rules}
use Rattle.std.specs.Prelude.{◌≢◌, map, Err}
use Rattle.wf_event_values.specs.declared.refusal.Refusal.TheVariants.{NoMemory}
use Rattle.wire_fields.specs.Steps.{for_each}
use Rattle.wire_fields.specs.Kinds.{text_of}
use Rattle.wire_fields.proofs.ElementLemmas.{reading-none, reading-at, reading-more, reading-refused, reading-done}
use Rattle.wire_requests.proofs.retry_policy.each_text.Goals as goal

pub loop-value-init : goal.loop-value-init
loop-value-init g c = reading-none g.V.Tree.stands_for (text_of c.args.field) c.args.values.now c.new-texts.result.items c.new-texts.ensures.items

pub loop-value-preserved : goal.loop-value-preserved
loop-value-preserved g c =
    let values = c.args.values.now in
    let i = c.loop-value.value-index in
    let texts = c.loop-value.texts.items in
    reading-more g.V.Tree.stands_for (text_of c.args.field) values texts c.value-item.result (drop (i + 1) values) c.in_ok-from_value.field-0 c.push.new.self.items c.in_ok-from_value.ensures c.in_ok-push.ensures.items
    (reading-at g.V.Tree.stands_for (text_of c.args.field) values i c.value-item.result texts c.loop-value-test.true c.value-item.is c.loop-value.invariant)

pub returns-in_err-from_value : goal.returns-in_err-from_value
returns-in_err-from_value g c =
    let values = c.args.values.now in
    let i = c.loop-value.value-index in
    let texts = c.loop-value.texts.items in
    let e = c.in_err-from_value.field-0.0 in
    let refused : e ≢ NoMemory → for_each (text_of c.args.field) (map g.V.Tree.stands_for values) ≡ Err e = λ n. reading-refused g.V.Tree.stands_for (text_of c.args.field) values texts c.value-item.result (drop (i + 1) values) e (c.in_err-from_value.ensures n) (reading-at g.V.Tree.stands_for (text_of c.args.field) values i c.value-item.result texts c.loop-value-test.true c.value-item.is c.loop-value.invariant) in
    search (rules, refused)

pub returns : goal.returns
returns g c = rw c.from_vec.ensures (reading-done g.V.Tree.stands_for (text_of c.args.field) c.args.values.now c.loop-value.value-index c.loop-value.texts.items c.loop-value-test.false c.loop-value.invariant)
