use Rattle.std.proofs.Common.{sym, ◌∙◌, Some}
use Rattle.service_model.specs.Issued.{closed_transfer}
use Rattle.issuing.proofs.LeftLemmas.{found-none, found-all}
use Rattle.issuing.proofs.closings.closed_transfers.Goals as goal

pub loop-event-preserved : goal.loop-event-preserved
loop-event-preserved c =
    let f = closed_transfer c.args.run (Some c.args.parent.now) in
    found-none f c.args.events.now c.loop-event.event-iterator c.next.new.self c.loop-event.found.items c.in-Some.event.now c.loop-event.invariant c.in-Some.ensures.steps (sym c.in_ok-sent.ensures ∙ c.in_default.is)

pub returns : goal.returns
returns c =
    let f = closed_transfer c.args.run (Some c.args.parent.now) in
    found-all f c.args.events.now c.loop-event.event-iterator c.loop-event.found.items c.loop-event.invariant c.in-None.ensures.steps.0
