-- MEANING: what a transfer turn does, part by part
use Rattle.std.specs.Prelude.{◌≡◌, ◌⊎◌, ℕ, Bool, true, false, Option, None, Some, Ok}
use Rattle.service_model_types.specs.declared.answer.Answer.TheVariants as answer
use Rattle.service_model_types.specs.declared.call.Stop.{Stop}
use Rattle.service_model_types.specs.declared.call.Stop.TheVariants.{AtEnd, AfterFirstPart}
use Rattle.service_model_types.specs.declared.call.TransferTurn.{TransferTurn}
use Rattle.service_model_types.specs.declared.content.Content.{Content}
use Rattle.service_model_types.specs.declared.request.Request.{Request}
use Rattle.service_model_types.specs.declared.transfer.Transfer.{Transfer}
use Rattle.service_model_types.specs.Replies.{Reply, is_delivered, transfer_of}
use Rattle.gate.specs.declared.view.View.{View}
use Rattle.gate.specs.Passes.{Waited}
use Rattle.service.specs.ServiceViews.{Service}
use Rattle.service.specs.CallRequests.{to_acknowledge, to_deliver, to_next_transfer}
use Rattle.service.specs.Contents.{ends_refusal}
use Rattle.service.specs.Services.{Answered, IsServedAtLast}

-- the last part: the transfer is acknowledged where it came from, whatever that answers
pub record Acknowledges (x : Service) (q : TransferTurn) (number : ℕ) (v w : View Request Content) : Type 0 where
  pub reply : Reply
  pub step : IsServedAtLast x v w q.from (to_acknowledge q.at q.to number) reply

-- whether a turn goes on after the delivery: where the transfer took effect, now or before, and the turn isn't to end there
abbrev pub goes_on : Stop → Reply → Bool
goes_on AtEnd r = is_delivered r
goes_on _ r = false

abbrev pub AfterDelivery : Service → TransferTurn → ℕ → Bool → (v w : View Request Content) → Type 0
AfterDelivery x q number true v w = Acknowledges x q number v w
AfterDelivery x q number false v w = w ≡ v

-- the second part: that very transfer is delivered, and the reply is the turn's
pub record Delivers (x : Service) (q : TransferTurn) (t : Transfer) (v w : View Request Content) (r : Reply) : Type 0 where
  pub met : View Request Content
  pub step : IsServedAtLast x v met q.to (to_deliver q.at t) r
  pub rest : AfterDelivery x q t.number (goes_on q.stop r) met w

-- what follows the reading of a transfer
abbrev pub AfterTransfer : Service → TransferTurn → Stop → Transfer → (v w : View Request Content) → Reply → Type 0
AfterTransfer x q AfterFirstPart t v w r = (r ≡ Ok (answer.Taken t.number)) × (w ≡ v)
AfterTransfer x q _ t v w r = Delivers x q t v w r

-- what follows the first part: without a transfer its reply is the turn's
abbrev pub AfterReading : Service → TransferTurn → Reply → Option Transfer → (v w : View Request Content) → Reply → Type 0
AfterReading x q next None v w r = (r ≡ next) × (w ≡ v)
AfterReading x q next (Some t) v w r = AfterTransfer x q q.stop t v w r

-- a transfer turn between shards that are there: the first part reads the next transfer, and the rest follows from its reply
pub record Transfers (x : Service) (q : TransferTurn) (v w : View Request Content) (r : Reply) : Type 0 where
  pub next : Reply
  pub met : View Request Content
  pub step : IsServedAtLast x v met q.from (to_next_transfer q.at q.to) next
  pub rest : AfterReading x q next (transfer_of next) met w r

-- A transfer turn of that reply, to a pass that knew v and then knows w
abbrev pub TransferTurns : Service → TransferTurn → (v w : View Request Content) → Reply → Type 0
TransferTurns x q v w r = Answered (ends_refusal x.settings q.from q.to) (Transfers x q v w r) v w r

-- where memory was refused after the delivery, after which the turn goes on: the transfer took effect, and isn't acknowledged
pub record StaysDelivered (x : Service) (q : TransferTurn) (t : Transfer) (v w : View Request Content) : Type 0 where
  pub reply : Reply
  pub met : View Request Content
  pub step : IsServedAtLast x v met q.to (to_deliver q.at t) reply
  pub behind : goes_on q.stop reply ≡ true
  pub waited : Waited met w q.from

abbrev pub DeliveryKept : Service → TransferTurn → Transfer → (v w : View Request Content) → Type 0
DeliveryKept x q t v w = Waited v w q.to ⊎ StaysDelivered x q t v w

-- where it was refused after the first part, which answered a transfer
pub record StaysRead (x : Service) (q : TransferTurn) (v w : View Request Content) : Type 0 where
  pub next : Reply
  pub met : View Request Content
  pub step : IsServedAtLast x v met q.from (to_next_transfer q.at q.to) next
  pub taken : Transfer
  pub found : transfer_of next ≡ Some taken
  pub rest : DeliveryKept x q taken met w

-- where memory was refused, the parts that were done are kept
abbrev pub TransferKept : Service → TransferTurn → (v w : View Request Content) → Type 0
TransferKept x q v w = Waited v w q.from ⊎ StaysRead x q v w
