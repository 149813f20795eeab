-- what the passes of a course have seen begins the records at its end
use Rattle.std.proofs.Common.{◌≡◌, ◌≢◌, ◌⊎◌, ℕ, ◌<◌, zero, suc, Bool, true, false, List, [], ◌∷◌, arith, length, set, slice_get, Option, None, Some, refl, sym, ap, subst, inl, inr}
use Rattle.std.proofs.lemmas.Option.{same_Some, slice_get-get_or}
use Rattle.std.specs.Prelude.{Result, Ok, Err}
use Rattle.wf_event_values.specs.declared.policies.TaskKind.{TaskKind}
use Rattle.wf_event_values.specs.declared.refusal.Refusal.{Refusal}
use Rattle.service_model.specs.Service.{Entry}
use Rattle.service_model_types.specs.declared.answer.NumberedDispatch.{NumberedDispatch}
use Rattle.service_model_types.specs.declared.call.Call.{Call}
use Rattle.service_model_types.specs.declared.call.Call.TheVariants.{Step, Poll, DispatchTurn, TransferTurn}
use Rattle.service_model_types.specs.declared.call.Stop.{Stop}
use Rattle.service_model_types.specs.declared.call.Stop.TheVariants.{AtEnd, AfterFirstPart, AfterSecondPart}
use Rattle.service_model_types.specs.declared.call.TransferTurn.{TransferTurn as ATransferTurn}
use Rattle.service_model_types.specs.declared.content.Content.{Content}
use Rattle.service_model_types.specs.declared.request.Request.{Request}
use Rattle.service_model_types.specs.declared.settings.Settings.{Settings}
use Rattle.service_model_types.specs.declared.transfer.Transfer.{Transfer}
use Rattle.service_model_types.specs.Replies.{Reply, dispatch_of, transfer_of}
use Rattle.gate.specs.declared.view.View.{View}
use Rattle.gate.specs.Passes.{Agree, seen}
use Rattle.gate.specs.Records.{Begins}
use Rattle.matching.specs.declared.view.View.{View as HintView}
use Rattle.service.specs.CallRequests.{to_acknowledge, to_deliver, to_dispatched, to_next_dispatch, to_next_transfer}
use Rattle.service.specs.Calls.{CallServed}
use Rattle.service.specs.Contents.{ends_refusal, shard_refusal}
use Rattle.service.specs.Reopening.{record_at}
use Rattle.service.specs.Services.{Answered, IsServedAtLast, IsServedOn, known_by, settings_of}
use Rattle.service.specs.TransferTurns.{AfterDelivery, AfterReading, AfterTransfer, Delivers, Transfers, goes_on}
use Rattle.service.specs.Turns.{AfterDispatch, AfterNext, AfterPush, Polls, Turns}
use Rattle.service.specs.ServiceViews.{Service}
use Rattle.service.specs.ServiceViews.{Pass}
use Rattle.wire_requests.specs.declared.calls.Asked.{Asked}
use Rattle.wire_requests.specs.declared.calls.Asked.TheVariants.{Barrier as a_barrier, Call as in_a_lane}
use Rattle.lanes.specs.Endings as over
use Rattle.lanes.specs.Meetings.{PassServed, PassesMet}
use Rattle.lanes.specs.Reopened.{ServedAlong}
use Rattle.lanes.specs.Course.{AllMet, Course, FirstMet, InTurn, LaneServed, LineServed, Meets, Serves}
use Rattle.lanes.proofs.PartLemmas.{begins-same, begins-then}

-- ---- a pass sees more and more

abbrev KnownView : Type 0
KnownView = View Request Content

-- of each shard it has seen what it had seen, and perhaps more
abbrev pub Sees : KnownView → KnownView → Type 0
Sees v w = (s : ℕ) → Begins (seen v s) (seen w s)

sees-same : (v w : KnownView) → w ≡ v → Sees v w
sees-same v w is s = begins-same (seen v s) (seen w s) (ap (λ u. seen u s) is)

sees-then : (u v w : KnownView) → Sees u v → Sees v w → Sees u w
sees-then u v w a b s = begins-then (seen u s) (seen v s) (seen w s) (a s) (b s)

same-or-not : (m n : ℕ) → (m ≡ n) ⊎ (m ≢ n)
same-or-not zero zero = inl refl
same-or-not zero (suc n) = inr (λ h. absurd (cc h))
same-or-not (suc m) zero = inr (λ h. absurd (cc h))
same-or-not (suc m) (suc n) = elim (same-or-not m n) [ inl h ↦ inl (ap suc h) | inr h ↦ inr (λ e. h (cc e)) ]

served-sees : (x : Service) (v w : KnownView) (shard : ℕ) (q : Request) (r : Reply) → IsServedOn x v w shard q r → Sees v w
served-sees x v w shard q r done s = elim (same-or-not s shard) [
  | inl same ↦ let P : ℕ → Type 0 = λ k. Begins (seen v k) (seen w k) in
      subst P (sym same) (begins-then (seen v shard) done.step.front (seen w shard) done.step.extends (_, done.step.last))
  | inr apart ↦ begins-same (seen v s) (seen w s) (done.step.others s apart).0
]

step-sees : (x : Service) (v w : KnownView) (shard : ℕ) (q : Request) (r : Reply) → IsServedAtLast x v w shard q r → Sees v w
step-sees x v w shard q r done =
    sees-then v done.met w (λ s. begins-same (seen v s) (seen done.met s) (done.waited.nothing.sees s)) (served-sees x done.met w shard q r done.served)

answered-sees : (x : Service) (v w : KnownView) (o : Option Refusal) (shard : ℕ) (q : Request) (r : Reply) → Answered o (IsServedAtLast x v w shard q r) v w r → Sees v w
answered-sees x v w None shard q r done = step-sees x v w shard q r done
answered-sees x v w (Some e) shard q r done = sees-same v w done.1

poll-sees : (x : Service) (o : Option ℕ) (kind : TaskKind) (at : ℕ) (v w : KnownView) (hs ws : List HintView) (r : Option Reply) → Polls x o kind at v w hs ws r → Sees v w
poll-sees x None kind at v w hs ws r h = sees-same v w h.1
poll-sees x (Some place) kind at v w hs ws None h = sees-same v w h.0
poll-sees x (Some place) kind at v w hs ws (Some r) h = step-sees x v w _ _ r h.2

-- ---- dispatch turns

pushed-sees : (x : Service) (shard at : ℕ) (stop : Stop) (number : ℕ) (v w : KnownView) (r : Result (Unit {0}) Refusal) (t : Reply) → AfterPush x shard at stop number v w r t → Sees v w
pushed-sees x shard at AtEnd number v w (Ok done) t h = answered-sees x v w (shard_refusal x.settings shard) shard (to_dispatched at number) h.1.reply h.1.step
pushed-sees x shard at AfterFirstPart number v w (Ok done) t h = absurd h
pushed-sees x shard at AfterSecondPart number v w (Ok done) t h = sees-same v w h.1
pushed-sees x shard at AtEnd number v w (Err e) t h = sees-same v w h.1
pushed-sees x shard at AfterFirstPart number v w (Err e) t h = sees-same v w h.1
pushed-sees x shard at AfterSecondPart number v w (Err e) t h = sees-same v w h.1

dispatch-sees : (x : Service) (shard at : ℕ) (stop : Stop) (d : NumberedDispatch) (v w : KnownView) (hs ws : List HintView) (t : Reply) → AfterDispatch x shard at stop d v w hs ws t → Sees v w
dispatch-sees x shard at AtEnd d v w hs ws t h = pushed-sees x shard at AtEnd d.number v w h.pushed t h.rest
dispatch-sees x shard at AfterFirstPart d v w hs ws t h = sees-same v w h.1
dispatch-sees x shard at AfterSecondPart d v w hs ws t h = pushed-sees x shard at AfterSecondPart d.number v w h.pushed t h.rest

next-sees : (x : Service) (shard at : ℕ) (stop : Stop) (r : Reply) (o : Option NumberedDispatch) (v w : KnownView) (hs ws : List HintView) (t : Reply) → AfterNext x shard at stop r o v w hs ws t → Sees v w
next-sees x shard at stop r None v w hs ws t h = sees-same v w h.1
next-sees x shard at stop r (Some d) v w hs ws t h = dispatch-sees x shard at stop d v w hs ws t h

turn-sees : (x : Service) (shard at : ℕ) (stop : Stop) (v w : KnownView) (hs ws : List HintView) (t : Reply) → Turns x shard at stop v w hs ws t → Sees v w
turn-sees x shard at stop v w hs ws t h =
    sees-then v h.met w (answered-sees x v h.met (shard_refusal x.settings shard) shard (to_next_dispatch at) h.next h.step)
    (next-sees x shard at stop h.next (dispatch_of h.next) h.met w hs ws t h.rest)

-- ---- transfer turns

delivery-sees : (x : Service) (q : ATransferTurn) (number : ℕ) (go : Bool) (v w : KnownView) → AfterDelivery x q number go v w → Sees v w
delivery-sees x q number true v w h = step-sees x v w q.from (to_acknowledge q.at q.to number) h.reply h.step
delivery-sees x q number false v w h = sees-same v w h

delivers-sees : (x : Service) (q : ATransferTurn) (t : Transfer) (v w : KnownView) (r : Reply) → Delivers x q t v w r → Sees v w
delivers-sees x q t v w r h = sees-then v h.met w (step-sees x v h.met q.to (to_deliver q.at t) r h.step) (delivery-sees x q t.number (goes_on q.stop r) h.met w h.rest)

transfer-sees : (x : Service) (q : ATransferTurn) (stop : Stop) (t : Transfer) (v w : KnownView) (r : Reply) → AfterTransfer x q stop t v w r → Sees v w
transfer-sees x q AtEnd t v w r h = delivers-sees x q t v w r h
transfer-sees x q AfterFirstPart t v w r h = sees-same v w h.1
transfer-sees x q AfterSecondPart t v w r h = delivers-sees x q t v w r h

reading-sees : (x : Service) (q : ATransferTurn) (next : Reply) (o : Option Transfer) (v w : KnownView) (r : Reply) → AfterReading x q next o v w r → Sees v w
reading-sees x q next None v w r h = sees-same v w h.1
reading-sees x q next (Some t) v w r h = transfer-sees x q q.stop t v w r h

transfers-sees : (x : Service) (q : ATransferTurn) (v w : KnownView) (o : Option Refusal) (r : Reply) → Answered o (Transfers x q v w r) v w r → Sees v w
transfers-sees x q v w None r h =
    sees-then v h.met w (step-sees x v h.met q.from (to_next_transfer q.at q.to) h.next h.step) (reading-sees x q h.next (transfer_of h.next) h.met w r h.rest)
transfers-sees x q v w (Some e) r h = sees-same v w h.1

pub call-sees : (x : Service) (p p' : Pass) (c : Call) (r : Reply) → CallServed x p p' c r → Sees (known_by p) (known_by p')
call-sees x p p' (Step c) r h = answered-sees x (known_by p) (known_by p') _ _ _ r h.0
call-sees x p p' (Poll q) r h = poll-sees x _ q.kind q.at (known_by p) (known_by p') _ _ h.polled h.polls
call-sees x p p' (DispatchTurn q) r h = turn-sees x q.shard q.at q.stop (known_by p) (known_by p') _ _ r h
call-sees x p p' (TransferTurn q) r h = transfers-sees x q (known_by p) (known_by p') (ends_refusal x.settings q.from q.to) r h.0

-- where two passes meet, both have seen what they had seen
pub met-sees : (a b a' b' : KnownView) (s : ℕ) → Agree a b a' b' s → Begins (seen a s) (seen a' s) × Begins (seen b s) (seen b' s)
met-sees a b a' b' s (inl (longer, first, second)) = (
  begins-then (seen a s) (seen b s) (seen a' s) longer (begins-same (seen b s) (seen a' s) first),
  begins-same (seen b s) (seen b' s) second,
)
met-sees a b a' b' s (inr (longer, first, second)) = (
  begins-same (seen a s) (seen a' s) first,
  begins-then (seen b s) (seen a s) (seen b' s) longer (begins-same (seen a s) (seen b' s) second),
)

-- ---- what is so at the end of a course is so of each pass on its way

abbrev pub Each : (Pass → Type 0) → List Pass → Type 0
Each Q [] = Unit {0}
Each Q (p ∷ ps) = Q p × Each Q ps

pub each-from : (Q : Pass → Type 0) (ps : List Pass) → ((k : ℕ) (p : Pass) → slice_get ps k ≡ Some p → Q p) → Each Q ps
each-from Q [] h = tt
each-from Q (p ∷ ps) h = (h 0 p refl, each-from Q ps (λ k q there. h (suc k) q there))

set-back : (Q : Pass → Type 0) (ps : List Pass) (k : ℕ) (p p' : Pass) → slice_get ps k ≡ Some p → (Q p' → Q p) → Each Q (set ps k p') → Q p' × Each Q ps
set-back Q [] k p p' is back h = absurd (cc is)
set-back Q (x ∷ ps) zero p p' is back h = (h.0, (subst Q (sym (same_Some x p is)) (back h.0), h.1))
set-back Q (x ∷ ps) (suc k) p p' is back h = let rest = set-back Q ps k p p' is back h.1 in (rest.0, (h.0, rest.1))

abbrev pub BackServed : (Pass → Type 0) → Serves → Type 0
BackServed Q serves = (p p' : Pass) (call : Call) (r : Reply) → serves p p' call r → Q p' → Q p

abbrev pub BackMet : (Pass → Type 0) → Meets → Type 0
BackMet Q meets = (p q p' q' : Pass) → meets p q p' q' → Q p' → Q q' → Q p × Q q

module _ (Q : Pass → Type 0) (serves serves' : Serves) (meets : Meets) (bs : BackServed Q serves) (bm : BackMet Q meets)
    (along : (p p' : Pass) (call : Call) (r : Reply) → serves p p' call r → Q p' → serves' p p' call r) where
  others-back : (p : Pass) (ps ps' : List Pass) (p' : Pass) → InTurn (λ q other other' q'. meets q other q' other') p ps ps' p' → Q p' → Each Q ps' → Q p × Each Q ps
  others-back p [] [] p' h q each = (subst Q h q, tt)
  others-back p [] (y ∷ ys) p' h q each = absurd h
  others-back p (x ∷ xs) [] p' h q each = absurd h
  others-back p (x ∷ xs) (y ∷ ys) p' h q each =
      let rest = others-back h.0 xs ys p' h.2 q each.1 in
      let one = bm p x h.0 y h.1 rest.0 each.0 in
      (one.0, (one.1, rest.1))

  first-back : (ps ps' : List Pass) → FirstMet meets ps ps' → Each Q ps' → Each Q ps
  first-back [] ps' h each = tt
  first-back (p ∷ ps) [] h each = absurd h
  first-back (p ∷ ps) (p' ∷ ps') h each = others-back p ps ps' p' h each.0 each.1

  pub met-back : (ps ps' : List Pass) → AllMet meets ps ps' → Each Q ps' → Each Q ps
  met-back ps ps' h each = first-back ps h.0 h.1 (first-back h.0 ps' h.2 each)

  lane-along : (lane : ℕ) (call : Call) (o : Option Pass) (ps : List Pass) (r : Option Reply) (ps' : List Pass) → slice_get ps lane ≡ o → LaneServed serves lane call o ps r ps' → Each Q ps' → LaneServed serves' lane call o ps r ps' × Each Q ps
  lane-along lane call None ps r ps' is h each = ((h.0, h.1), subst (Each Q) h.1 each)
  lane-along lane call (Some p) ps r ps' is h each =
      let both = set-back Q ps lane p h.pass is (bs p h.pass call h.reply h.served) (subst (Each Q) h.passes each) in
      (record { pass = h.pass; reply = h.reply; served = along p h.pass call h.reply h.served both.0; is = h.is; passes = h.passes }, both.1)

  line-along : (ps : List Pass) (line : Result Asked Refusal) (r : Option Reply) (ps' : List Pass) → LineServed serves meets ps line r ps' → Each Q ps' → LineServed serves' meets ps line r ps' × Each Q ps
  line-along ps (Ok a_barrier) r ps' h each = (h, met-back ps ps' h.1 each)
  line-along ps (Ok (in_a_lane c)) r ps' h each = lane-along c.lane c.call (slice_get ps c.lane) ps r ps' refl h each
  line-along ps (Err refusal) r ps' h each = (h, subst (Each Q) h.1 each)

  pub course-along : (ps : List Pass) (lines : List (Result Asked Refusal)) (rs : List (Option Reply)) (ps' : List Pass) → Course serves meets ps lines rs ps' → Each Q ps' → Course serves' meets ps lines rs ps' × Each Q ps
  course-along ps [] [] ps' h each = (h, subst (Each Q) h each)
  course-along ps [] (r ∷ rs) ps' h each = absurd h
  course-along ps (line ∷ lines) [] ps' h each = absurd h
  course-along ps (line ∷ lines) (r ∷ rs) ps' h each =
      let rest = course-along h.0 lines rs ps' h.2 each in
      let here = line-along ps line r h.0 h.1 rest.1 in
      ((h.0, here.0, rest.0), here.1)

-- ---- a script that ran to its end

-- what the pass has seen of each shard begins that shard's record
abbrev pub IsAlong : Service → List (List Entry) → Pass → Type 0
IsAlong x logs p = (s : ℕ) → s < (settings_of x).shards → Begins (seen (known_by p) s) (record_at logs s)

-- what a pass had seen before a call or a meeting begins what it has seen after it
module _ (x : Service) (logs : List (List Entry)) where
  pub back-served : BackServed (IsAlong x logs) (PassServed x)
  back-served p p' call r h q s below = begins-then (seen (known_by p) s) (seen (known_by p') s) (record_at logs s) (call-sees x p p' call r h.served s) (q s below)

  pub back-met : BackMet (IsAlong x logs) (PassesMet x)
  back-met a b a' b' h qa qb = (
    λ s below. begins-then (seen (known_by a) s) (seen (known_by a') s) (record_at logs s) (met-sees (known_by a) (known_by b) (known_by a') (known_by b') s (h.met.agree s below).0).0 (qa s below),
    λ s below. begins-then (seen (known_by b) s) (seen (known_by b') s) (record_at logs s) (met-sees (known_by a) (known_by b) (known_by a') (known_by b') s (h.met.agree s below).0).1 (qb s below),
  )

pub ran-along : (x : Service) (logs : List (List Entry)) (K : Settings) (ps : List Pass) (unread held unread' held' : Option (List ℕ)) (refused : Bool) (ends : List Pass) → length logs ≡ (settings_of x).shards
    → ((s : ℕ) (log : List Entry) (k : ℕ) (p : Pass) → slice_get logs s ≡ Some log → slice_get ends k ≡ Some p → Begins (seen (known_by p) s) log)
    → over.Ran (PassServed x) (PassesMet x) K ps unread held unread' held' refused ends → over.Ran (ServedAlong x logs) (PassesMet x) K ps unread held unread' held' refused ends
ran-along x logs K ps unread held unread' held' refused ends count seen_all ran =
    let t = ran.told in
    let along : (p p' : Pass) (call : Call) (r : Reply) → PassServed x p p' call r → IsAlong x logs p' → ServedAlong x logs p p' call r = λ p p' call r h q. record { served = h; along = q } in
    let each = each-from (IsAlong x logs) ends (λ k p there s l. seen_all s (record_at logs s) k p (slice_get-get_or logs s [] (omega (arith, l, count))) there) in
    let served = met-back (IsAlong x logs) (PassServed x) (ServedAlong x logs) (PassesMet x) (back-served x logs) (back-met x logs) along t.served ends t.met each in
    let course = course-along (IsAlong x logs) (PassServed x) (ServedAlong x logs) (PassesMet x) (back-served x logs) (back-met x logs) along ps _ t.replies t.served t.course served in
    record {
      text = ran.text;
      read = ran.read;
      at_end = ran.at_end;
      told = record { replies = t.replies; served = t.served; course = course.0; met = t.met; written = t.written; refused_is = t.refused_is };
    }
