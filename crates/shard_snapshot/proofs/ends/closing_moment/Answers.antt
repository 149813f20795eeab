use Rattle.std.proofs.Common.{◌∙◌, ap, sym, cond, Some}
use Rattle.std.specs.Prelude.{find, option_map}
use Rattle.wf_event.specs.declared.event.Event.{Event}
use Rattle.service_model.specs.Deadlines.{is_closing_event}
use Rattle.shard_snapshot.proofs.ends.closing_moment.Goals as goal

pub loop-event-init : goal.loop-event-init
loop-event-init c = record { left = ap (find is_closing_event) (c.into_iter-event-iterator.ensures.into_iter_gives ∙ c.again-event-items.ensures) }

pub loop-event-preserved : goal.loop-event-preserved
loop-event-preserved c =
    let e = c.in-Some.event.now in
    let rest = c.next.new.self in
    record {
      left = sym (ap (λ b. cond b (Some e) (find is_closing_event rest)) (sym c.is_closing.ensures ∙ c.if-is_closing.false))
          ∙ sym (ap (find is_closing_event) c.in-Some.ensures.steps) ∙ c.loop-event.invariant.left;
    }

pub returns-then-is_closing : goal.returns-then-is_closing
returns-then-is_closing c =
    let e = c.in-Some.event.now in
    let rest = c.next.new.self in
    ap (option_map (λ (x : Event). x.at)) (sym (ap (λ b. cond b (Some e) (find is_closing_event rest)) (sym c.is_closing.ensures ∙ c.if-is_closing.true))
    ∙ sym (ap (find is_closing_event) c.in-Some.ensures.steps) ∙ c.loop-event.invariant.left)

pub returns : goal.returns
returns c = ap (option_map (λ (x : Event). x.at)) (sym (ap (find is_closing_event) c.in-None.ensures.steps.0) ∙ c.loop-event.invariant.left)
