-- what steps and queues keep of a world, every line keeps
use Rattle.std.proofs.Common.{◌≡◌, ℕ, Bool, true, false, List, [], ◌∷◌, ◌++◌, length, refl, Option, None, Some, subst}
use Rattle.std.specs.Prelude.{nat_lt, if◌then◌else◌, Result, Ok, Err}
use Rattle.wf_event_values.specs.declared.policies.TaskKind.{TaskKind}
use Rattle.wf_event_values.specs.declared.refusal.Refusal.{Refusal}
use Rattle.wf_event_values.specs.declared.refusal.Refusal.TheVariants.{QueueFull}
use Rattle.service_model_types.specs.declared.answer.Answer.TheVariants as answered
use Rattle.service_model_types.specs.declared.answer.NumberedDispatch.{NumberedDispatch}
use Rattle.service_model_types.specs.declared.call.Call.{Call}
use Rattle.service_model_types.specs.declared.call.Call.TheVariants.{Step, Poll, DispatchTurn, TransferTurn}
use Rattle.service_model_types.specs.declared.call.DispatchTurn.{DispatchTurn as ADispatchTurn}
use Rattle.service_model_types.specs.declared.call.Stop.{Stop}
use Rattle.service_model_types.specs.declared.call.Stop.TheVariants.{AtEnd, AfterFirstPart, AfterSecondPart}
use Rattle.service_model_types.specs.declared.call.TransferTurn.{TransferTurn as ATransferTurn}
use Rattle.service_model_types.specs.declared.request.Hint.{Hint}
use Rattle.service_model_types.specs.declared.request.Request.{Request}
use Rattle.service_model_types.specs.declared.settings.Settings.{Settings}
use Rattle.service_model_types.specs.declared.transfer.Transfer.{Transfer}
use Rattle.service_model_types.specs.Calls.{request_of}
use Rattle.service_model_types.specs.Replies.{dispatch_of, Reply, transfer_of}
use Rattle.matching.specs.Named.{place_in, slot_of}
use Rattle.service.specs.CallRequests.{to_acknowledge, to_deliver, to_dispatched, to_next_dispatch, to_next_transfer, to_start_task}
use Rattle.service.specs.Contents.{ends_refusal, refusal_of_step, shard_refusal, slot_of_step}
use Rattle.service.specs.TransferTurns.{goes_on}
use Rattle.wire_requests.specs.declared.calls.Asked.{Asked}
use Rattle.wire_requests.specs.declared.calls.Asked.TheVariants.{Barrier, Call as in_a_lane}
use Rattle.script.specs.Asked.{asked}
use Rattle.script.specs.Lines.{Line}
use Rattle.script.specs.Output.{world_after_lines}
use Rattle.script.specs.Serving.{world_after, world_after_asked}
use Rattle.script.specs.World.{Came, World, acknowledged, after_next, after_reading, behind, delivered, handed, poll_at, polled, pushed, served, stepped, transferred, unless, waiting_at, with_waiting}

-- a step keeps it, and so does another list of hints in a queue
pub record IsKept (K : Settings) (P : World → Type 0) : Type 0 where
  pub step : (W : World) (shard : ℕ) (q : Request) → P W → P (stepped K W shard q).world
  pub waiting : (W : World) (slot : ℕ) (hints : List Hint) → P W → P (with_waiting W slot hints)

module _ (K : Settings) (P : World → Type 0) (h : IsKept K P) where
  unless-kept : (o : Option Refusal) (W : World) (came : Came) → P W → P came.world → P (unless o W came).world
  unless-kept None W came w c = c
  unless-kept (Some e) W came w c = w

  -- ---- polls

  polled-kept : (W : World) (slot at : ℕ) (hints : List Hint) → P W → P (polled K W slot at hints).world
  polled-kept W slot at [] w = w
  polled-kept W slot at (hint ∷ rest) w = h.step (with_waiting W slot rest) hint.shard (to_start_task at hint) (h.waiting W slot rest w)

  poll-kept : (W : World) (o : Option ℕ) (kind : TaskKind) (at : ℕ) → P W → P (poll_at K W o kind at).world
  poll-kept W None kind at w = w
  poll-kept W (Some place) kind at w = polled-kept W (slot_of place kind) at (waiting_at W (slot_of place kind)) w

  -- ---- dispatch turns

  room-kept : (b : Bool) (X W : World) → P X → ◌≡◌ {A = Result World Refusal} (if b then Ok X else Err QueueFull) (Ok W) → P W
  room-kept true X W x is = let same : X ≡ W = cc is in subst P same x
  room-kept false X W x is = absurd (cc is)

  pushed-kept : (W W' : World) (o : Option ℕ) (hint : Hint) → P W → pushed K W o hint ≡ Ok W' → P W'
  pushed-kept W W' None hint w is = absurd (cc is)
  pushed-kept W W' (Some place) hint w is =
      let slot = slot_of place hint.kind in
      let hints = waiting_at W slot ++ hint ∷ [] in
      room-kept (nat_lt (length (waiting_at W slot)) K.capacity) (with_waiting W slot hints) W' (h.waiting W slot hints w) is

  behind-kept : (W : World) (r : Result World Refusal) (rest : World → Came) → P W → ((X : World) → r ≡ Ok X → P X) → ((X : World) → P X → P (rest X).world) → P (behind W r rest).world
  behind-kept W (Err e) rest w pushed next = w
  behind-kept W (Ok X) rest w pushed next = next X (pushed X refl)

  handed-kept : (t : ADispatchTurn) (stop : Stop) (d : NumberedDispatch) (W : World) → P W → P (handed K t stop d W).world
  handed-kept t AfterFirstPart d W w = w
  handed-kept t AfterSecondPart d W w =
      let o = place_in K.queues d.dispatch.queue in
      behind-kept W (pushed K W o d.dispatch.hint) (λ X. record { reply = Ok (answered.Pushed d.number); world = X }) w (λ X is. pushed-kept W X o d.dispatch.hint w is) (λ X x. x)
  handed-kept t AtEnd d W w =
      let o = place_in K.queues d.dispatch.queue in
      behind-kept W (pushed K W o d.dispatch.hint) (λ X. record { reply = Ok (answered.Dispatched d.number); world = (stepped K X t.shard (to_dispatched t.at d.number)).world }) w
      (λ X is. pushed-kept W X o d.dispatch.hint w is)
      (λ X x. h.step X t.shard (to_dispatched t.at d.number) x)

  next-kept : (t : ADispatchTurn) (reply : Reply) (o : Option NumberedDispatch) (W : World) → P W → P (after_next K t reply o W).world
  next-kept t reply None W w = w
  next-kept t reply (Some d) W w = handed-kept t t.stop d W w

  -- ---- transfer turns

  acknowledged-kept : (t : ATransferTurn) (number : ℕ) (go : Bool) (c : Came) → P c.world → P (acknowledged K t number go c).world
  acknowledged-kept t number true c w = h.step c.world t.from (to_acknowledge t.at t.to number) w
  acknowledged-kept t number false c w = w

  delivered-kept : (t : ATransferTurn) (transfer : Transfer) (W : World) → P W → P (delivered K t transfer W).world
  delivered-kept t transfer W w =
      let c = stepped K W t.to (to_deliver t.at transfer) in
      acknowledged-kept t transfer.number (goes_on t.stop c.reply) c (h.step W t.to (to_deliver t.at transfer) w)

  transferred-kept : (t : ATransferTurn) (stop : Stop) (transfer : Transfer) (W : World) → P W → P (transferred K t stop transfer W).world
  transferred-kept t AtEnd transfer W w = delivered-kept t transfer W w
  transferred-kept t AfterFirstPart transfer W w = w
  transferred-kept t AfterSecondPart transfer W w = delivered-kept t transfer W w

  reading-kept : (t : ATransferTurn) (reply : Reply) (o : Option Transfer) (W : World) → P W → P (after_reading K t reply o W).world
  reading-kept t reply None W w = w
  reading-kept t reply (Some transfer) W w = transferred-kept t t.stop transfer W w

  -- ---- lines

  served-kept : (W : World) (c : Call) → P W → P (served K W c).world
  unfolding served
  served-kept W (Step c) w = unless-kept (refusal_of_step K c) W (stepped K W (slot_of_step K c) (request_of c)) w (h.step W (slot_of_step K c) (request_of c) w)
  served-kept W (Poll q) w = poll-kept W (place_in K.queues q.task_queue) q.kind q.at w
  served-kept W (DispatchTurn t) w =
      let next = stepped K W t.shard (to_next_dispatch t.at) in
      unless-kept (shard_refusal K t.shard) W (after_next K t next.reply (dispatch_of next.reply) next.world) w
      (next-kept t next.reply (dispatch_of next.reply) next.world (h.step W t.shard (to_next_dispatch t.at) w))
  served-kept W (TransferTurn t) w =
      let next = stepped K W t.from (to_next_transfer t.at t.to) in
      unless-kept (ends_refusal K t.from t.to) W (after_reading K t next.reply (transfer_of next.reply) next.world) w
      (reading-kept t next.reply (transfer_of next.reply) next.world (h.step W t.from (to_next_transfer t.at t.to) w))

  asked-kept : (W : World) (r : Result Asked Refusal) → P W → P (world_after_asked K W r)
  asked-kept W (Ok Barrier) w = w
  asked-kept W (Ok (in_a_lane c)) w = served-kept W c.call w
  asked-kept W (Err e) w = w

  pub lines-kept : (W : World) (lines : List Line) → P W → P (world_after_lines K W lines)
  lines-kept W [] w = w
  lines-kept W (line ∷ lines) w = lines-kept (world_after K W line) lines (asked-kept W (asked K line) w)
