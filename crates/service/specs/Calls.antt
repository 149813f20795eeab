-- MEANING: what a call of any kind comes to
use Rattle.std.specs.Prelude.{◌≡◌, Option, None, Some, Ok}
use Rattle.service_model_types.specs.declared.answer.Answer.TheVariants as answer
use Rattle.service_model_types.specs.declared.call.Call.{Call}
use Rattle.service_model_types.specs.declared.call.Call.TheVariants.{Step, Poll, DispatchTurn, TransferTurn}
use Rattle.service_model_types.specs.declared.call.Poll.{Poll as APoll}
use Rattle.service_model_types.specs.declared.request.Hint.{Hint}
use Rattle.service_model_types.specs.Calls.{request_of}
use Rattle.service_model_types.specs.Replies.{Reply}
use Rattle.gate.specs.Passes.{Waited}
use Rattle.service.specs.ServiceViews.{Pass}
use Rattle.service.specs.ServiceViews.{Service}
use Rattle.service.specs.Contents.{refusal_of_step, slot_of_step}
use Rattle.service.specs.Services.{ServedOnAtLast, hints_by, known_by}
use Rattle.service.specs.TransferTurns.{TransferKept, TransferTurns}
use Rattle.service.specs.Turns.{Polls, PollKept, Turns, TurnKept, place_of}

-- the reply of a poll: where no hint waited, the task queue was empty
abbrev pub reply_of_poll : Option Reply → Reply
reply_of_poll None = Ok answer.Empty
reply_of_poll (Some reply) = reply

-- a poll was answered
pub record PollServed (x : Service) (p p' : Pass) (q : APoll) (r : Reply) : Type 0 where
  pub polled : Option Reply
  pub reply : r ≡ reply_of_poll polled
  pub polls : Polls x (place_of x q.task_queue) q.kind q.at (known_by p) (known_by p') (hints_by p) (hints_by p') polled

-- a call was answered so: a step on its shard, which leaves what the pass knows of hints, as a transfer turn does; a
-- poll and the turns part by part
abbrev pub CallServed : Service → Pass → Pass → Call → Reply → Type 0
CallServed x p p' (Step c) r =
    ServedOnAtLast x p p' (refusal_of_step x.settings c) (slot_of_step x.settings c) (request_of c) r × (hints_by p' ≡ hints_by p)
CallServed x p p' (Poll q) r = PollServed x p p' q r
CallServed x p p' (DispatchTurn q) r = Turns x q.shard q.at q.stop (known_by p) (known_by p') (hints_by p) (hints_by p') r
CallServed x p p' (TransferTurn q) r = TransferTurns x q (known_by p) (known_by p') r × (hints_by p' ≡ hints_by p)

-- a call was refused for memory: a step did nothing, a poll had popped a hint and made no step, a turn keeps the parts that were done
abbrev pub CallKept : Service → Pass → Pass → Call → Type 0
CallKept x p p' (Step c) = Waited (known_by p) (known_by p') (slot_of_step x.settings c) × (hints_by p' ≡ hints_by p)
CallKept x p p' (Poll q) = (h : Hint) × PollKept (place_of x q.task_queue) q.kind (known_by p) (known_by p') (hints_by p) (hints_by p') h
CallKept x p p' (DispatchTurn q) = TurnKept x q.shard q.at (known_by p) (known_by p') (hints_by p) (hints_by p')
CallKept x p p' (TransferTurn q) = TransferKept x q (known_by p) (known_by p') × (hints_by p' ≡ hints_by p)
