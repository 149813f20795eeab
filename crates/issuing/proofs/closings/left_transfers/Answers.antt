use Rattle.std.proofs.Common.{sym, ◌∙◌}
use Rattle.issuing.specs.Settled.{left_transfer}
use Rattle.issuing.proofs.LeftLemmas.{left-each, found-none, found-all}
use Rattle.issuing.proofs.closings.left_transfers.Goals as goal

pub loop-event-preserved : goal.loop-event-preserved
loop-event-preserved c =
    let f = left_transfer c.args.setup.now c.args.run c.args.events.now in
    found-none f c.args.events.now c.loop-event.event-iterator c.next.new.self c.loop-event.found.items c.in-Some.event.now c.loop-event.invariant c.in-Some.ensures.steps (sym (c.in_ok-sent.ensures c.args.events.now c.in_ok-settled.ensures) ∙ c.in_default.is)

pub returns : goal.returns
returns c =
    let f = left_transfer c.args.setup.now c.args.run c.args.events.now in
    found-all f c.args.events.now c.loop-event.event-iterator c.loop-event.found.items c.loop-event.invariant c.in-None.ensures.steps.0 ∙ left-each c.args.setup.now c.args.run c.args.events.now c.args.events.now
