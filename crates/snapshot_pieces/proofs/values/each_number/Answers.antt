use Rattle.std.proofs.Common.{◌≡◌, ◌+◌, drop, rules}
use Rattle.std.specs.Prelude.{◌≢◌, map, Err}
use Rattle.wf_event_values.specs.declared.refusal.Refusal.TheVariants.{NoMemory}
use Rattle.wire_fields.specs.Steps.{for_each}
use Rattle.wire_fields.specs.Kinds.{number_of}
use Rattle.wire_record_rows.specs.Keys.{keyed}
use Rattle.wire_fields.proofs.ElementLemmas.{reading-none, reading-at, reading-more, reading-refused, reading-done}
use Rattle.snapshot_pieces.proofs.values.each_number.Goals as goal

pub loop-value-init : goal.loop-value-init
loop-value-init g c = reading-none g.V.Tree.stands_for (keyed number_of c.args.key.now) c.args.values.now c.new-numbers.result.items c.new-numbers.ensures.items

pub loop-value-preserved : goal.loop-value-preserved
loop-value-preserved g c =
    let step = keyed number_of c.args.key.now in
    let values = c.args.values.now in
    let i = c.loop-value.value-index in
    let numbers = c.loop-value.numbers.items in
    reading-more g.V.Tree.stands_for step values numbers c.value-item.result (drop (i + 1) values) c.in_ok-number.number c.push.new.self.items c.in_ok-number.ensures c.in_ok-push.ensures.items
    (reading-at g.V.Tree.stands_for step values i c.value-item.result numbers c.loop-value-test.true c.value-item.is c.loop-value.invariant)

pub returns-in_err-number : goal.returns-in_err-number
returns-in_err-number g c =
    let step = keyed number_of c.args.key.now in
    let values = c.args.values.now in
    let i = c.loop-value.value-index in
    let numbers = c.loop-value.numbers.items in
    let e = c.in_err-number.field-0.0 in
    let refused : e ≢ NoMemory → for_each step (map g.V.Tree.stands_for values) ≡ Err e = λ n. reading-refused g.V.Tree.stands_for step values numbers c.value-item.result (drop (i + 1) values) e (c.in_err-number.ensures n) (reading-at g.V.Tree.stands_for step values i c.value-item.result numbers c.loop-value-test.true c.value-item.is c.loop-value.invariant) in
    search (rules, refused)

pub returns : goal.returns
returns g c = rw c.from_vec.ensures (reading-done g.V.Tree.stands_for (keyed number_of c.args.key.now) c.args.values.now c.loop-value.value-index c.loop-value.numbers.items c.loop-value-test.false c.loop-value.invariant)
