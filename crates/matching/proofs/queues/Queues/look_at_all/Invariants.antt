use Rattle.std.proofs.Common.{◌≡◌, ◌<◌, ℕ, List}
use Rattle.service_model_types.specs.declared.request.Hint.{Hint}
use Rattle.matching.specs.Rule.{IsLast}
use Rattle.matching.specs.Named.{at, known_by, IsPassOf}
use Rattle.matching.proofs.queues.Queues.look_at_all.Given as goal

abbrev pub invariant-loop-slot : goal.invariant-loop-slot
invariant-loop-slot l = record {
  own : IsPassOf l.pass l.self;
  same : known_by l.pass ≡ known_by l.fn.pass;
  each : (s : ℕ) → s < l.slot → (waiting : List Hint) × IsLast (at (known_by l.fn.pass) s) waiting;
}
