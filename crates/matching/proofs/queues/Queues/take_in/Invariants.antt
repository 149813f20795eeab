use Rattle.std.proofs.Common.{◌≡◌, ◌++◌, length}
use Rattle.matching.specs.Named.{known_by, IsPassOf}
use Rattle.matching.proofs.Ended.{PartlyTaken}
use Rattle.matching.proofs.queues.Queues.take_in.Given as goal

abbrev pub invariant-loop-each : goal.invariant-loop-each
invariant-loop-each l = record {
  own : IsPassOf l.pass l.self;
  place : l.slot ≡ length l.yielded;
  rest : l.fn.other.passes.items ≡ l.yielded ++ l.each-iterator.rest.items;
  taken : PartlyTaken l.slot (known_by l.fn.pass) (known_by l.fn.other) (known_by l.pass);
}
