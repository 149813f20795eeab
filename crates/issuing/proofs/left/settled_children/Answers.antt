use Rattle.std.proofs.Common.{ap, sym, subst, ◌∙◌, ◌++◌, ◌∷◌, [], ◌==◌}
use Rattle.std.specs.List.{list_any}
use Rattle.issuing.specs.Settled.{IsSettledBy}
use Rattle.issuing.proofs.LeftLemmas.{one-behind, settled-one, settled-same, settled-all}
use Rattle.issuing.proofs.left.settled_children.Goals as goal

pub loop-event-init : goal.loop-event-init
loop-event-init c = record {
  done = [];
  parts = sym (c.into_iter-event-iterator.ensures.into_iter_gives ∙ c.again-event-items.ensures);
  settled = λ id. ap (list_any (λ n. id == n)) c.new-settled.ensures.empty;
}

pub loop-event-preserved : goal.loop-event-preserved
loop-event-preserved c =
    let before = c.loop-event.invariant in
    let event = c.in-Some.event.now in
    let steps = c.in-Some.ensures.steps in
    record {
      done = before.done ++ event ∷ [];
      parts = one-behind c.args.events.now before.done c.loop-event.event-iterator c.next.new.self event before.parts steps;
      settled = settled-same before.done event c.loop-event.settled.keys before.settled (sym c.settled_child.ensures ∙ c.in_default.is);
    }

pub loop-event-preserved-in_ok-insert : goal.loop-event-preserved-in_ok-insert
loop-event-preserved-in_ok-insert c =
    let before = c.loop-event.invariant in
    let event = c.in-Some.event.now in
    let steps = c.in-Some.ensures.steps in
    record {
      done = before.done ++ event ∷ [];
      parts = one-behind c.args.events.now before.done c.loop-event.event-iterator c.next.new.self event before.parts steps;
      settled = subst (IsSettledBy (before.done ++ event ∷ [])) (sym c.in_ok-insert.ensures.keys)
          (settled-one c.in-Some-settled_child.initiated before.done event c.loop-event.settled.keys before.settled (sym c.settled_child.ensures ∙ c.in-Some-settled_child.is));
    }

pub returns : goal.returns
returns c =
    settled-all c.args.events.now c.loop-event.invariant.done c.loop-event.event-iterator c.loop-event.settled.keys c.loop-event.invariant.parts c.in-None.ensures.steps.0 c.loop-event.invariant.settled
