-- MEANING: the requests that the calls make
use Rattle.std.specs.Prelude.{ℕ}
use Rattle.service_model_types.specs.declared.request.Operation.{Operation}
use Rattle.service_model_types.specs.declared.request.Operation.TheVariants as operation
use Rattle.service_model_types.specs.declared.request.Request.{Request}
use Rattle.service_model_types.specs.declared.request.Hint.{Hint}
use Rattle.service_model_types.specs.declared.transfer.Transfer.{Transfer}
use Rattle.service_model_types.specs.Hints.{task_of}

-- a request for this, at a moment
abbrev pub ask : ℕ → Operation → Request
ask at o = record { at = at; operation = o }

abbrev pub to_start_task : ℕ → Hint → Request
to_start_task at h = record { at = at; operation = operation.StartTask (task_of h) }

abbrev pub to_turn_timers : ℕ → Request
to_turn_timers at = record { at = at; operation = operation.TimerTurn }

abbrev pub to_next_transfer : ℕ → ℕ → Request
to_next_transfer at to = record { at = at; operation = operation.NextTransfer to }

abbrev pub to_deliver : ℕ → Transfer → Request
to_deliver at t = record { at = at; operation = operation.Deliver t }

abbrev pub to_acknowledge : ℕ → ℕ → ℕ → Request
to_acknowledge at to number = record { at = at; operation = operation.Acknowledge (record { to = to; number = number }) }

abbrev pub to_next_dispatch : ℕ → Request
to_next_dispatch at = record { at = at; operation = operation.NextDispatch }

abbrev pub to_dispatched : ℕ → ℕ → Request
to_dispatched at number = record { at = at; operation = operation.Dispatched number }
