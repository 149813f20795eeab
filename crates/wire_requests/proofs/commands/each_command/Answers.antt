use Rattle.std.proofs.Common.{◌≡◌, ◌+◌, drop, rules}
use Rattle.std.specs.Prelude.{◌≢◌, map, Err}
use Rattle.wf_event_values.specs.declared.refusal.Refusal.TheVariants.{NoMemory}
use Rattle.wire_fields.specs.Steps.{for_each}
use Rattle.wire_requests.specs.Commands.{command_of}
use Rattle.wire_fields.proofs.ElementLemmas.{reading-none, reading-at, reading-more, reading-refused, reading-done}
use Rattle.wire_requests.proofs.commands.each_command.Goals as goal

pub loop-value-init : goal.loop-value-init
loop-value-init g c = reading-none g.V.Tree.stands_for command_of c.args.values.now c.new-commands.result.items c.new-commands.ensures.items

pub loop-value-preserved : goal.loop-value-preserved
loop-value-preserved g c =
    let values = c.args.values.now in
    let i = c.loop-value.value-index in
    let commands = c.loop-value.commands.items in
    reading-more g.V.Tree.stands_for command_of values commands c.value-item.result (drop (i + 1) values) c.in_ok-command.field-0 c.push.new.self.items c.in_ok-command.ensures c.in_ok-push.ensures.items
    (reading-at g.V.Tree.stands_for command_of values i c.value-item.result commands c.loop-value-test.true c.value-item.is c.loop-value.invariant)

pub returns-in_err-command : goal.returns-in_err-command
returns-in_err-command g c =
    let values = c.args.values.now in
    let i = c.loop-value.value-index in
    let commands = c.loop-value.commands.items in
    let e = c.in_err-command.field-0.0 in
    let refused : e ≢ NoMemory → for_each command_of (map g.V.Tree.stands_for values) ≡ Err e = λ n. reading-refused g.V.Tree.stands_for command_of values commands c.value-item.result (drop (i + 1) values) e (c.in_err-command.ensures n) (reading-at g.V.Tree.stands_for command_of values i c.value-item.result commands c.loop-value-test.true c.value-item.is c.loop-value.invariant) in
    search (rules, refused)

pub returns : goal.returns
returns g c = rw c.from_vec.ensures (reading-done g.V.Tree.stands_for command_of c.args.values.now c.loop-value.value-index c.loop-value.commands.items c.loop-value-test.false c.loop-value.invariant)
