use Rattle.matching.specs.Named.{known_by, IsPassOf}
use Rattle.matching.proofs.Slots.{PartlyMet}
use Rattle.matching.proofs.queues.Queues.meet.Given as goal

abbrev pub invariant-loop-slot : goal.invariant-loop-slot
invariant-loop-slot l = record {
  first : IsPassOf l.first l.self;
  second : IsPassOf l.second l.self;
  met : PartlyMet l.slot (known_by l.fn.first) (known_by l.fn.second) (known_by l.first) (known_by l.second);
}
