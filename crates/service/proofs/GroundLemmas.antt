-- each part of a transfer turn grounds the next
use Rattle.std.proofs.Common.{◌≡◌, ℕ, zero, suc, ◌+◌, ◌≤◌, true, List, [], ◌∷◌, sym, ap, ◌∙◌, subst, arith, Some}
use Rattle.std.specs.Prelude.{slice_get}
use Rattle.service_model_types.specs.declared.call.Stop.{Stop}
use Rattle.service_model_types.specs.declared.call.Stop.TheVariants.{AtEnd, AfterFirstPart, AfterSecondPart}
use Rattle.service_model_types.specs.declared.content.Content.{Content}
use Rattle.service_model_types.specs.declared.content.Setup.{Setup}
use Rattle.service_model_types.specs.declared.request.Request.{Request}
use Rattle.service_model_types.specs.declared.settings.Settings.{Settings}
use Rattle.service_model_types.specs.declared.transfer.Transfer.{Transfer}
use Rattle.service_model_types.specs.Replies.{Reply, transfer_of, is_delivered}
use Rattle.service_model.specs.Growth.{KeepsHistories}
use Rattle.service_model.specs.Service.{Entry, after, answer}
use Rattle.service_model.proofs.GroundLemmas.{read-holds, holds-after, delivered-accepted}
use Rattle.gate.specs.declared.view.View.{View}
use Rattle.gate.specs.Passes.{Stepped, seen, starts}
use Rattle.gate.specs.Records.{contents, replay}
use Rattle.gate.proofs.Growth.{replay-snoc}
use Rattle.service.specs.ServiceViews.{Service}
use Rattle.service.specs.CallRequests.{to_acknowledge, to_deliver, to_next_transfer}
use Rattle.shard_gate.specs.GateViews.{SeenGrounds}
use Rattle.service.specs.Services.{IsOpened, IsServedAtLast, IsServedOn}
use Rattle.service.specs.Starting.{IsStart, start_of}
use Rattle.service.proofs.StartLemmas.{counts-all, start-is-fit, stays}
use Rattle.service.specs.TransferTurns.{goes_on}

content-at : (all : List Content) (logs : ℕ → List Entry) (j : ℕ) (S : Content) → slice_get all j ≡ Some S → slice_get (contents after all logs) j ≡ Some (replay after S (logs j))
content-at [] logs j S e = absurd (cc e)
content-at (c ∷ cs) logs zero S e = let h : c ≡ S = cc e in ap (λ (T : Content). Some (replay after T (logs 0))) h
content-at (c ∷ cs) logs (suc j) S e = let next : j + 1 ≡ suc j = omega arith in content-at cs (λ k. logs (k + 1)) j S e ∙ ap (λ (n : ℕ). Some (replay after S (logs n))) next

-- the content that a pass sees of the shard of its step
seen-behind : (v w : View Request Content) (s : ℕ) (q : Request) (r : Reply) (step : Stepped after answer KeepsHistories v w s q r)
    → slice_get (contents after (starts w) (seen w)) s ≡ Some (after (replay after step.start step.front) q)
seen-behind v w s q r step =
    let here : slice_get (starts w) s ≡ Some step.start = ap (λ o. slice_get o.starts s) step.same.1 ∙ step.opened in
    content-at (starts w) (seen w) s step.start here ∙ ap Some (ap (replay after step.start) step.last ∙ replay-snoc after step.start step.front (record { pass = v.number; request = q }))

read-there : (v w : View Request Content) (from to at later : ℕ) (next : Reply) (t : Transfer) (step : Stepped after answer KeepsHistories v w from (to_next_transfer at to) next)
    → (K : Settings) → IsStart K from step.start → transfer_of next ≡ Some t → (t.from ≡ from) × SeenGrounds w to (to_deliver later t)
read-there v w from to at later next t step K start is =
    let q : Request = to_next_transfer at to in let S : Content = replay after step.start step.front in
    let h = read-holds S at to t (ap transfer_of (sym step.reply) ∙ is) in
    let shard : S.setup.shard ≡ from = ap (λ (u : Setup). u.shard) ((stays step.start step.front).0 ∙ start.setup) in
    let source : t.from ≡ from = h.0 ∙ shard in (
      source,
      (after S q, ap (slice_get (contents after (starts w) (seen w))) source ∙ seen-behind v w from q next step, holds-after to t S q h.1),
    )

delivered-there : (v w : View Request Content) (to at later : ℕ) (reply : Reply) (t : Transfer) (step : Stepped after answer KeepsHistories v w to (to_deliver at t) reply)
    → (K : Settings) → IsStart K to step.start → 1 ≤ t.number → is_delivered reply ≡ true → SeenGrounds w t.from (to_acknowledge later to t.number)
delivered-there v w to at later reply t step K start some is =
    let q : Request = to_deliver at t in let S : Content = replay after step.start step.front in
    (after S q, seen-behind v w to q reply step, (some, delivered-accepted S at t (counts-all K to step.start step.front start) (ap is_delivered (sym step.reply) ∙ is)))

-- a step of the service is one of the gate
abbrev stepped : (x : Service) (v w : View Request Content) (shard : ℕ) (q : Request) (r : Reply) → IsServedOn x v w shard q r → Stepped after answer KeepsHistories v w shard q r
stepped x v w shard q r done = record {
  same = done.same;
  front = done.step.front;
  extends = done.step.extends;
  last = done.step.last;
  adds = done.step.adds;
  based = done.step.based;
  own = done.step.own;
  given = done.given;
  others = done.step.others;
  turns = done.turns;
  start = start_of x shard;
  opened = done.opened;
  reply = done.answered.reply;
  kept = done.answered.kept;
}

-- the transfer that was read may be delivered
pub read-grounds : (x : Service) → IsOpened x → (v w : View Request Content) (from to at : ℕ) (next : Reply) (t : Transfer) → IsServedAtLast x v w from (to_next_transfer at to) next → transfer_of next ≡ Some t
    → (t.from ≡ from) × SeenGrounds w to (to_deliver at t)
read-grounds x opened v w from to at next t done is = read-there done.met w from to at at next t (stepped x done.met w from (to_next_transfer at to) next done.served) x.settings (start-is-fit x opened from) is

-- a turn goes on only where its transfer took effect
went-on : (stop : Stop) (r : Reply) → goes_on stop r ≡ true → is_delivered r ≡ true
went-on AtEnd r h = h
went-on AfterFirstPart r h = absurd (cc)
went-on AfterSecondPart r h = absurd (cc)

-- where it took effect, now or before, the transfer may be acknowledged
pub delivery-grounds : (x : Service) → IsOpened x → (v w : View Request Content) (from to at : ℕ) (stop : Stop) (r : Reply) (t : Transfer) → IsServedAtLast x v w to (to_deliver at t) r → t.from ≡ from → SeenGrounds v to (to_deliver at t) → goes_on stop r ≡ true
    → SeenGrounds w from (to_acknowledge at to t.number)
delivery-grounds x opened v w from to at stop r t done source grounded on =
    subst (λ (s : ℕ). SeenGrounds w s (to_acknowledge at to t.number)) source
    (delivered-there done.met w to at at r t (stepped x done.met w to (to_deliver at t) r done.served) x.settings (start-is-fit x opened to) grounded.2.0 (went-on stop r on))
