use Rattle.std.proofs.Common.{sym, ◌∙◌}
use Rattle.service_model.specs.Issued.{task_dispatch}
use Rattle.issuing.proofs.LeftLemmas.{found-none, found-all}
use Rattle.issuing.proofs.dispatches.dispatches_of.Goals as goal

pub loop-event-preserved : goal.loop-event-preserved
loop-event-preserved c =
    let f = task_dispatch c.args.setup.now c.args.run in
    found-none f c.args.events.now c.loop-event.event-iterator c.next.new.self c.loop-event.found.items c.in-Some.event.now c.loop-event.invariant c.in-Some.ensures.steps (sym c.in_ok-dispatch.ensures ∙ c.in_default.is)

pub returns : goal.returns
returns c =
    let f = task_dispatch c.args.setup.now c.args.run in
    found-all f c.args.events.now c.loop-event.event-iterator c.loop-event.found.items c.loop-event.invariant c.in-None.ensures.steps.0
