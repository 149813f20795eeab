-- MEANING: The sequential service as a whole: its shards, the hints that wait in its task queues, and the steps that
-- were made. A step is its shard's; a poll and a dispatch turn are made of steps and of what they take from a queue
-- or put into it, a transfer turn of steps.
use Rattle.std.specs.Prelude.{ℕ, Bool, true, false, List, [], ◌∷◌, ◌++◌, length, nat_lt, if◌then◌else◌, map, slice_index_or, slice_set, Option, None, Some, Result, Ok, Err}
use Rattle.std.specs.List.{range_with_len}
use Rattle.wf_event_values.specs.declared.policies.TaskKind.{TaskKind}
use Rattle.wf_event_values.specs.declared.refusal.Refusal.{Refusal}
use Rattle.wf_event_values.specs.declared.refusal.Refusal.TheVariants.{QueueFull, UnknownTaskQueue}
use Rattle.service_model_types.specs.declared.answer.Answer.TheVariants as answered
use Rattle.service_model_types.specs.declared.answer.NumberedDispatch.{NumberedDispatch}
use Rattle.service_model_types.specs.declared.call.Call.{Call}
use Rattle.service_model_types.specs.declared.call.Call.TheVariants.{Step, Poll, DispatchTurn, TransferTurn}
use Rattle.service_model_types.specs.declared.call.DispatchTurn.{DispatchTurn as ADispatchTurn}
use Rattle.service_model_types.specs.declared.call.Poll.{Poll as APoll}
use Rattle.service_model_types.specs.declared.call.StepCall.{StepCall}
use Rattle.service_model_types.specs.declared.call.Stop.{Stop}
use Rattle.service_model_types.specs.declared.call.Stop.TheVariants.{AtEnd, AfterFirstPart, AfterSecondPart}
use Rattle.service_model_types.specs.declared.call.TransferTurn.{TransferTurn as ATransferTurn}
use Rattle.service_model_types.specs.declared.content.Content.{Content}
use Rattle.service_model_types.specs.declared.request.Hint.{Hint}
use Rattle.service_model_types.specs.declared.request.Request.{Request}
use Rattle.service_model_types.specs.declared.settings.Settings.{Settings}
use Rattle.service_model_types.specs.declared.transfer.Transfer.{Transfer}
use Rattle.service_model_types.specs.Calls.{request_of}
use Rattle.service_model_types.specs.Replies.{dispatch_of, Reply, transfer_of}
use Rattle.service_model.specs.Service.{Entry, after, answer, opening}
use Rattle.matching.specs.Named.{place_in, slot_of}
use Rattle.service.specs.CallRequests.{to_acknowledge, to_deliver, to_dispatched, to_next_dispatch, to_next_transfer, to_start_task}
use Rattle.service.specs.Contents.{ends_refusal, refusal_of_step, setup_of, shard_refusal, slot_of_step}
use Rattle.service.specs.Reopening.{contents_from, opens_from, record_at}
use Rattle.service.specs.Resuming.{resumes_from}
use Rattle.shard_gate.specs.Starts.{Start, content_behind, records_in}
use Rattle.shard_gate.specs.declared.source.Source.{Source}
use Rattle.shard_gate.specs.declared.source.Source.TheVariants.{Records as FromRecords}
use Rattle.service.specs.TransferTurns.{goes_on}

pub record World : Type 0 where
  -- the shards' contents, by the shards' numbers
  pub contents : List Content
  -- the hints that wait in each queue: of the name at place k those of workflow tasks stand at 2 k, those of activities at 2 k + 1
  pub waiting : List (List Hint)
  -- the shards' records: what each was opened with, and the steps since, all of pass 0
  pub records : List (List Entry)
  -- all steps since the opening, each with its shard, in the order in which they were made
  pub steps : List (ℕ × Entry)

-- what a call comes to: its reply, and the world that it leaves
pub record Came : Type 0 where
  pub reply : Reply
  pub world : World

-- what the queues hold at opening; nothing where that is refused
abbrev pub held_at_opening : Result (List (List Hint)) Refusal → List (List Hint)
held_at_opening (Ok held) = held
held_at_opening (Err refusal) = []

-- the service as it is opened from a record of each shard, or from those of a journal: as these left it, with the hints
-- of the tasks that are hinted again in the queues
unfoldable pub opening_from : Source → Settings → List (List Entry) → World
opening_from source K R = record {
  contents = contents_from K R;
  waiting = held_at_opening (opens_from source K R);
  records = map (record_at R) (range_with_len 0 K.shards);
  steps = [];
}

-- the same from records
abbrev pub opening_world : Settings → List (List Entry) → World
opening_world = opening_from FromRecords

-- the service as it is resumed from shards, of each a content and the record of what was done since: as these records left
-- it, with the hints of the tasks that are hinted again in the queues
unfoldable pub resumed_from : Source → Settings → List Start → World
resumed_from source K starts = record {
  contents = map content_behind starts;
  waiting = held_at_opening (resumes_from source K starts);
  records = records_in starts;
  steps = [];
}

-- a shard's content
abbrev pub content_at : Settings → List Content → ℕ → Content
content_at K contents shard = slice_index_or contents shard (opening (setup_of K shard))

-- a step of the one pass
abbrev pub entry_of : Request → Entry
entry_of q = record { pass = 0; request = q }

-- a record with one step more
abbrev pub recorded : List Entry → Request → List Entry
recorded log q = log ++ entry_of q ∷ []

-- a step on a shard
abbrev pub stepped : Settings → World → ℕ → Request → Came
stepped K W shard q =
    let S = content_at K W.contents shard in
    record {
      reply = answer S q;
      world = record W {
        contents = slice_set W.contents shard (after S q);
        records = slice_set W.records shard (recorded (record_at W.records shard) q);
        steps = W.steps ++ (shard, entry_of q) ∷ [];
      };
    }

-- what is refused before any shard is entered leaves the world as it was
abbrev pub unless : Option Refusal → World → Came → Came
unless None W came = came
unless (Some refusal) W came = record { reply = Err refusal; world = W }

-- a call that is one step
abbrev pub step : Settings → World → StepCall → Came
step K W c = unless (refusal_of_step K c) W (stepped K W (slot_of_step K c) (request_of c))

-- the hints that wait in the queue of a slot
abbrev pub waiting_at : World → ℕ → List Hint
waiting_at W slot = slice_index_or W.waiting slot []

abbrev pub with_waiting : World → ℕ → List Hint → World
with_waiting W slot hints = record W { waiting = slice_set W.waiting slot hints }

-- a poll of the queue of a slot, in which these hints wait: the first one leaves it, and its task is taken on the shard that it names
abbrev pub polled : Settings → World → ℕ → ℕ → List Hint → Came
polled K W slot at [] = record { reply = Ok answered.Empty; world = W }
polled K W slot at (hint ∷ rest) = stepped K (with_waiting W slot rest) hint.shard (to_start_task at hint)

-- a poll of the queue of a place, if there is one
abbrev pub poll_at : Settings → World → Option ℕ → TaskKind → ℕ → Came
poll_at K W None kind at = record { reply = Err UnknownTaskQueue; world = W }
poll_at K W (Some place) kind at = polled K W (slot_of place kind) at (waiting_at W (slot_of place kind))

abbrev pub poll : Settings → World → APoll → Came
poll K W q = poll_at K W (place_in K.queues q.task_queue) q.kind q.at

-- a hint after all that wait in the queue of a slot, where there is room
abbrev pub pushed_at : Settings → World → ℕ → Hint → Result World Refusal
pushed_at K W slot hint =
    let hints = waiting_at W slot in
    if nat_lt (length hints) K.capacity then Ok (with_waiting W slot (hints ++ hint ∷ [])) else Err QueueFull

-- a push to the queue of a place, if there is one
abbrev pub pushed : Settings → World → Option ℕ → Hint → Result World Refusal
pushed K W None hint = Err UnknownTaskQueue
pushed K W (Some place) hint = pushed_at K W (slot_of place hint.kind) hint

-- a refused push ends a dispatch turn
abbrev pub behind : World → Result World Refusal → (World → Came) → Came
behind W (Err refusal) rest = record { reply = Err refusal; world = W }
behind W (Ok W') rest = rest W'

-- the second part of a dispatch turn pushes the hint, and the third counts the dispatch; the turn may be told to end before
abbrev pub handed : Settings → ADispatchTurn → Stop → NumberedDispatch → World → Came
handed K t AfterFirstPart d W = record { reply = Ok (answered.Taken d.number); world = W }
handed K t AfterSecondPart d W =
    behind W (pushed K W (place_in K.queues d.dispatch.queue) d.dispatch.hint)
    (λ W'. record { reply = Ok (answered.Pushed d.number); world = W' })
handed K t AtEnd d W =
    behind W (pushed K W (place_in K.queues d.dispatch.queue) d.dispatch.hint)
    (λ W'. record { reply = Ok (answered.Dispatched d.number); world = (stepped K W' t.shard (to_dispatched t.at d.number)).world })

-- what follows the first part: where its reply has no dispatch, that is the turn's
abbrev pub after_next : Settings → ADispatchTurn → Reply → Option NumberedDispatch → World → Came
after_next K t reply None W = record { reply = reply; world = W }
after_next K t reply (Some d) W = handed K t t.stop d W

-- the first part of a dispatch turn reads the shard's next dispatch
abbrev pub turn : Settings → World → ADispatchTurn → Came
turn K W t =
    unless (shard_refusal K t.shard) W
    (let next = stepped K W t.shard (to_next_dispatch t.at) in after_next K t next.reply (dispatch_of next.reply) next.world)

-- the last part of a transfer turn, where it comes to that, acknowledges the transfer; the reply stays the delivery's
abbrev pub acknowledged : Settings → ATransferTurn → ℕ → Bool → Came → Came
acknowledged K t number true c = record c { world = (stepped K c.world t.from (to_acknowledge t.at t.to number)).world }
acknowledged K t number false c = c

-- the second part delivers that very transfer
abbrev pub delivered : Settings → ATransferTurn → Transfer → World → Came
delivered K t transfer W =
    let c = stepped K W t.to (to_deliver t.at transfer) in acknowledged K t transfer.number (goes_on t.stop c.reply) c

-- the turn may be told to end before
abbrev pub transferred : Settings → ATransferTurn → Stop → Transfer → World → Came
transferred K t AtEnd transfer W = delivered K t transfer W
transferred K t AfterFirstPart transfer W = record { reply = Ok (answered.Taken transfer.number); world = W }
transferred K t AfterSecondPart transfer W = delivered K t transfer W

-- what follows the first part: where its reply has no transfer, that is the turn's
abbrev pub after_reading : Settings → ATransferTurn → Reply → Option Transfer → World → Came
after_reading K t reply None W = record { reply = reply; world = W }
after_reading K t reply (Some transfer) W = transferred K t t.stop transfer W

-- the first part of a transfer turn reads the next transfer from the one shard to the other
abbrev pub transfer_turn : Settings → World → ATransferTurn → Came
transfer_turn K W t =
    unless (ends_refusal K t.from t.to) W
    (let next = stepped K W t.from (to_next_transfer t.at t.to) in after_reading K t next.reply (transfer_of next.reply) next.world)

-- what a call comes to
unfoldable pub served : Settings → World → Call → Came
served K W (Step c) = step K W c
served K W (Poll q) = poll K W q
served K W (DispatchTurn t) = turn K W t
served K W (TransferTurn t) = transfer_turn K W t
