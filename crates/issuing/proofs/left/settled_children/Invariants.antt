use Rattle.std.proofs.Common.{◌≡◌, ◌++◌, List}
use Rattle.wf_event.specs.declared.event.Event.{Event}
use Rattle.issuing.specs.Settled.{IsSettledBy}
use Rattle.issuing.proofs.left.settled_children.Given as goal

abbrev pub invariant-loop-event : goal.invariant-loop-event
invariant-loop-event l = record {
  done : List Event;
  parts : l.events ≡ done ++ l.event-iterator;
  settled : IsSettledBy done l.settled.keys;
}
