-- the parts of a transfer turn after its first one
use Rattle.std.proofs.Common.{◌≡◌, ◌≢◌, true, refl, sym, subst, Some, inr}
use Rattle.std.specs.Prelude.{Result, Ok, Err, OnErr}
use Rattle.service_model_types.specs.declared.call.Stop.{Stop}
use Rattle.service_model_types.specs.declared.call.Stop.TheVariants.{AtEnd, AfterFirstPart, AfterSecondPart}
use Rattle.service_model_types.specs.declared.call.TransferTurn.{TransferTurn}
use Rattle.service_model_types.specs.declared.content.Content.{Content}
use Rattle.service_model_types.specs.declared.request.Request.{Request}
use Rattle.service_model_types.specs.declared.transfer.Transfer.{Transfer}
use Rattle.service_model_types.specs.Replies.{Reply, transfer_of}
use Rattle.gate.specs.declared.view.View.{View}
use Rattle.gate.specs.Passes.{Waited}
use Rattle.service.specs.ServiceViews.{Service}
use Rattle.service.specs.CallRequests.{to_deliver, to_next_transfer}
use Rattle.service.specs.Services.{IsServedAtLast}
use Rattle.service.specs.TransferTurns.{AfterReading, AfterTransfer, DeliveryKept, Delivers, TransferKept, Transfers, goes_on}

-- a transfer was read, and delivered
pub then-delivered : (x : Service) (q : TransferTurn) (t : Transfer) (v met w : View Request Content) (next r : Reply) → IsServedAtLast x v met q.from (to_next_transfer q.at q.to) next → transfer_of next ≡ Some t → q.stop ≢ AfterFirstPart → Delivers x q t met w r → Transfers x q v w r
then-delivered x q t v met w next r step found stop done = record {
  next = next;
  met = met;
  step = step;
  rest = subst (λ o. AfterReading x q next o met w r) (sym found) (by_stop q.stop stop);
}
  where
    by_stop : (s : Stop) → s ≢ AfterFirstPart → AfterTransfer x q s t met w r
    by_stop AtEnd apart = done
    by_stop AfterFirstPart apart = absurd (apart refl)
    by_stop AfterSecondPart apart = done

-- a transfer was read, and memory was refused after that
pub then-kept : {T E : Type 0} (result : Result T E) (x : Service) (q : TransferTurn) (t : Transfer) (v met w : View Request Content) (next : Reply) → IsServedAtLast x v met q.from (to_next_transfer q.at q.to) next → transfer_of next ≡ Some t → OnErr result (DeliveryKept x q t met w) → OnErr result (TransferKept x q v w)
then-kept (Ok r) x q t v met w next step found kept = tt
then-kept (Err e) x q t v met w next step found kept = inr (record { next = next; met = met; step = step; taken = t; found = found; rest = kept })

-- a transfer was delivered, and memory was refused after that
pub not-acknowledged : {T E : Type 0} (result : Result T E) (x : Service) (q : TransferTurn) (t : Transfer) (v met w : View Request Content) (reply : Reply) → IsServedAtLast x v met q.to (to_deliver q.at t) reply → goes_on q.stop reply ≡ true → Waited met w q.from → OnErr result (DeliveryKept x q t v w)
not-acknowledged (Ok r) x q t v met w reply step behind waited = tt
not-acknowledged (Err e) x q t v met w reply step behind waited = inr (record { reply = reply; met = met; step = step; behind = behind; waited = waited })
