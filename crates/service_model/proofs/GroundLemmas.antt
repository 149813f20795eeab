-- What grounds a request stays so as records grow, and each part of a transfer turn grounds the next.
use Rattle.std.proofs.Common.{◌≡◌, ◌⊎◌, inl, inr, ⊎_elim, ℕ, zero, suc, ◌+◌, ◌-◌, ◌<◌, ◌≤◌, Bool, true, false, cond, List, [], ◌∷◌, ◌++◌, length, refl, ap, ◌∙◌, subst, arith, length-set, Option, Some, None, Ok}
use Rattle.std.proofs.lemmas.Bool.Decides.{nat_tests}
use Rattle.std.specs.Prelude.{slice_get, slice_set, slice_index_or, nat_lt, ◌&&◌, not}
use Rattle.service_model_types.specs.declared.content.Content.{Content}
use Rattle.service_model_types.specs.declared.request.Acknowledge.{Acknowledge}
use Rattle.service_model_types.specs.declared.request.Operation.{Operation}
use Rattle.service_model_types.specs.declared.request.Operation.TheVariants as operation
use Rattle.service_model_types.specs.declared.request.Request.{Request}
use Rattle.service_model_types.specs.declared.transfer.Transfer.{Transfer}
use Rattle.service_model_types.specs.declared.transfer.TransferContent.{TransferContent}
use Rattle.service_model_types.specs.Replies.{transfer_of, is_delivered}
use Rattle.service_model.specs.Counts.{outgoing_to, next_transfer, next_answer}
use Rattle.service_model.specs.Deliveries.{accepted_from, by_delivery, comes_from, deliver, delivery_of, is_for_shard}
use Rattle.service_model.specs.Outcome.{Outcome, Counting, CountsNothing, AcceptsFrom, AcknowledgesTo, CountsDispatch, answered, refused}
use Rattle.service_model_types.specs.declared.transfer.Delivery.{Delivery}
use Rattle.service_model_types.specs.declared.transfer.Delivery.TheVariants.{Accepted as IsNext, AlreadyDelivered, OutOfOrder}
use Rattle.wf_event_values.specs.declared.field.Field.TheVariants as field
use Rattle.wf_event_values.specs.declared.refusal.Refusal.{Refusal}
use Rattle.wf_event_values.specs.declared.refusal.Refusal.TheVariants.{InvalidArgument}
use Rattle.service_model.specs.Service.{Entry, after, answer, moment_of, outcome, runs_of, with_count}
use Rattle.service_model.specs.TransferLaws.{AcceptsNext}
use Rattle.service_model.specs.WholeRuns.{Holds, Accepted}
use Rattle.service_model.specs.Grounds.{Grounds, AllLater, SetupStays, replayed}
use Rattle.service_model.proofs.TransferLemmas.{accepts-step, accepted-after, counted, effect-accepts, issued-more, next-number, already-number}

get-more : {A : Type 0} (xs ys : List A) (k : ℕ) (x : A) → slice_get xs k ≡ Some x → slice_get (xs ++ ys) k ≡ Some x
get-more [] ys k x e = absurd (cc e)
get-more (z ∷ xs) ys zero x e = e
get-more (z ∷ xs) ys (suc k) x e = get-more xs ys k x e

pub holds-after : (s : ℕ) (t : Transfer) (S : Content) (q : Request) → Holds s t S → Holds s t (after S q)
holds-after s t S q h = let m = issued-more S q s in
    (h.0, ap (λ (l : List TransferContent). slice_get l (t.number - 1)) m.1 ∙ get-more (outgoing_to S.outgoing s).issued m.0 (t.number - 1) t.content h.1)

still-accepted : (s : ℕ) (q : Acknowledge) (S : Content) (r : Request) → Accepted s q S → Accepted s q (after S r)
still-accepted s q S r h = let l = h.1 in (
  h.0,
  ⊎_elim (λ (e : accepted_from (after S r).accepted s ≡ accepted_from S.accepted s). omega (arith, e, l))
      (λ (n : AcceptsNext S r s). let a = n.accepted in let b = n.next in omega (arith, a, b, l)) (accepts-step S r s),
)

holds-replayed : (s : ℕ) (t : Transfer) (S : Content) (R : List Entry) → Holds s t S → Holds s t (replayed S R)
holds-replayed s t S [] h = h
holds-replayed s t S (e ∷ R) h = holds-replayed s t (after S e.request) R (holds-after s t S e.request h)

accepted-replayed : (s : ℕ) (q : Acknowledge) (S : Content) (R : List Entry) → Accepted s q S → Accepted s q (replayed S R)
accepted-replayed s q S [] h = h
accepted-replayed s q S (e ∷ R) h = accepted-replayed s q (after S e.request) R (still-accepted s q S e.request h)

later-at : (cs ds : List Content) (k : ℕ) (c : Content) → AllLater cs ds → slice_get cs k ≡ Some c → (log : List Entry) × (slice_get ds k ≡ Some (replayed c log))
later-at [] ds k c h e = absurd (cc e)
later-at (x ∷ cs) [] k c h e = absurd h
later-at (x ∷ cs) (y ∷ ds) zero c h e = let same : x ≡ c = cc e in (h.0.0, ap Some (h.0.1 ∙ ap (λ (z : Content). replayed z h.0.0) same))
later-at (x ∷ cs) (y ∷ ds) (suc k) c h e = later-at cs ds k c h.1 e

-- the law of the gate's object
pub grounds-on : (before later : List Content) (s : ℕ) (q : Request) → AllLater before later → Grounds before s q.operation → Grounds later s q.operation
grounds-on before later s q h g = by_kind q.operation g
  where
    by_kind : (a : Operation) → Grounds before s a → Grounds later s a
    by_kind (operation.Deliver t) (source, there, holds) = let l = later-at before later t.from source h there in (replayed source l.0, l.1, holds-replayed s t source l.0 holds)
    by_kind (operation.Acknowledge a) (destination, there, accepted) = let l = later-at before later a.to destination h there in (replayed destination l.0, l.1, accepted-replayed s a destination l.0 accepted)
    by_kind (operation.Start x) _ = tt
    by_kind (operation.Signal x) _ = tt
    by_kind (operation.SignalWithStart x) _ = tt
    by_kind (operation.RequestCancel x) _ = tt
    by_kind (operation.Terminate x) _ = tt
    by_kind (operation.StartTask x) _ = tt
    by_kind (operation.CompleteWorkflowTask x) _ = tt
    by_kind (operation.FailWorkflowTask x) _ = tt
    by_kind (operation.CompleteActivity x) _ = tt
    by_kind (operation.FailActivity x) _ = tt
    by_kind (operation.CancelActivity x) _ = tt
    by_kind (operation.Heartbeat x) _ = tt
    by_kind (operation.History x) _ = tt
    by_kind (operation.Describe x) _ = tt
    by_kind operation.TimerTurn _ = tt
    by_kind (operation.NextTransfer x) _ = tt
    by_kind operation.NextDispatch _ = tt
    by_kind (operation.Dispatched x) _ = tt

-- the first part of a transfer turn: what it answers was issued, and the shard is the source
pub read-holds : (S : Content) (at to : ℕ) (t : Transfer) → transfer_of (answer S (record { at = at; operation = operation.NextTransfer to })) ≡ Some t → (t.from ≡ S.setup.shard) × Holds to t S
unfolding answer outcome next_transfer
read-holds S at to t is = by_test (nat_lt to S.setup.shards) is
  where
    from_next : (number : ℕ) (x : Option TransferContent) → transfer_of (Ok (next_answer S.setup (number + 1) x)) ≡ Some t → slice_get (outgoing_to S.outgoing to).issued number ≡ x → (t.from ≡ S.setup.shard) × Holds to t S
    from_next number None e there = absurd (cc e)
    from_next number (Some x) e there =
        let same : record { from = S.setup.shard; number = number + 1; content = x } ≡ t = cc e in
        subst (λ (z : Transfer). (z.from ≡ S.setup.shard) × Holds to z S) same (refl, (omega arith, subst (λ (n : ℕ). slice_get (outgoing_to S.outgoing to).issued n ≡ Some x) (let p : number ≡ number + 1 - 1 = omega arith in p) there))

    by_test : (b : Bool) → transfer_of (cond b (answered (next_answer S.setup ((outgoing_to S.outgoing to).acknowledged + 1) (slice_get (outgoing_to S.outgoing to).issued (outgoing_to S.outgoing to).acknowledged))) (refused (InvalidArgument field.To))).reply ≡ Some t → (t.from ≡ S.setup.shard) × Holds to t S
    by_test true e = from_next _ _ e refl
    by_test false e = absurd (cc e)

-- the second part: where the delivery took effect, now or before, the destination has accepted the number
pub mores : (xs : List ℕ) (n : ℕ) → n < length xs → accepted_from (slice_set xs n (slice_index_or xs n 0 + 1)) n ≡ accepted_from xs n + 1
mores [] n l = absurd (omega arith)
mores (x ∷ xs) zero l = refl
mores (x ∷ xs) (suc n) l = mores xs n (omega arith)

never-fewer : (S : Content) (r : Request) (from : ℕ) → accepted_from S.accepted from ≤ accepted_from (after S r).accepted from
never-fewer S r from = ⊎_elim (λ (e : accepted_from (after S r).accepted from ≡ accepted_from S.accepted from). omega (arith, e))
    (λ (n : AcceptsNext S r from). let a = n.accepted in let b = n.next in omega (arith, a, b)) (accepts-step S r from)

-- what a delivery that took effect says
abbrev TookEffect : Content → Transfer → Outcome → Type 0
TookEffect S t o = (t.number ≤ accepted_from S.accepted t.from) ⊎ ((t.from < S.setup.shards) × (t.number ≡ accepted_from S.accepted t.from + 1) × (o.counting ≡ AcceptsFrom t.from))

no-refusal : (S : Content) (t : Transfer) (b : Bool) (r : Refusal) (o : Outcome) → (b ≡ false → is_delivered o.reply ≡ true → TookEffect S t o) → is_delivered (cond b (refused r) o).reply ≡ true → TookEffect S t (cond b (refused r) o)
no-refusal S t true r o h is = absurd (cc is)
no-refusal S t false r o h is = h refl is

took-effect : (S : Content) (m : ℕ) (t : Transfer) → is_delivered (deliver (runs_of S m) S.accepted t).reply ≡ true → TookEffect S t (deliver (runs_of S m) S.accepted t)
unfolding deliver
took-effect S m t =
    no-refusal S t (not (nat_lt t.from S.setup.shards && comes_from S.setup t t.content)) (InvalidArgument field.From) _ (λ near.
    no-refusal S t (not (is_for_shard S.setup t.content)) (InvalidArgument field.WorkflowId) _ (λ here. by_word near (delivery_of (accepted_from S.accepted t.from) t.number) refl))
  where
    inside : not (nat_lt t.from S.setup.shards && comes_from S.setup t t.content) ≡ false → t.from < S.setup.shards
    inside = by_test (nat_lt t.from S.setup.shards) refl
      where
        by_test : (b : Bool) → nat_lt t.from S.setup.shards ≡ b → not (b && comes_from S.setup t t.content) ≡ false → t.from < S.setup.shards
        by_test true is h = grind (is, arith, nat_tests)
        by_test false is h = absurd (cc h)

    by_word : not (nat_lt t.from S.setup.shards && comes_from S.setup t t.content) ≡ false → (d : Delivery) → delivery_of (accepted_from S.accepted t.from) t.number ≡ d → is_delivered (by_delivery (runs_of S m) t d).reply ≡ true → TookEffect S t (by_delivery (runs_of S m) t d)
    by_word near AlreadyDelivered is h = inl (already-number _ _ is)
    by_word near IsNext is h = inr (inside near, next-number _ _ is, (effect-accepts (runs_of S m) t t.content).is)
    by_word near OutOfOrder is h = absurd (cc h)

pub delivered-accepted : (S : Content) (at : ℕ) (t : Transfer) → length S.accepted ≡ S.setup.shards → is_delivered (answer S (record { at = at; operation = operation.Deliver t })) ≡ true
    → t.number ≤ accepted_from (after S (record { at = at; operation = operation.Deliver t })).accepted t.from
unfolding answer outcome
delivered-accepted S at t wide is =
    let q : Request = record { at = at; operation = operation.Deliver t } in
    ⊎_elim (λ (l : t.number ≤ accepted_from S.accepted t.from). let m = never-fewer S q t.from in omega (arith, l, m))
    (λ (h : (t.from < S.setup.shards) × (t.number ≡ accepted_from S.accepted t.from + 1) × ((deliver (runs_of S (moment_of S at)) S.accepted t).counting ≡ AcceptsFrom t.from)).
    let e = ap (λ l. accepted_from l t.from) (accepted-after S q ∙ ap (counted S.accepted) h.2) in let f = mores S.accepted t.from (let l = h.0 in omega (arith, l, wide)) in let n = h.1 in
    omega (arith, e, f, n))
    (took-effect S (moment_of S at) t is)

-- no step changes a shard's setup, or how many sources it counts
setup-counted : (c : Counting) (T : Content) → (with_count c T).setup ≡ T.setup
setup-counted CountsNothing T = refl
setup-counted (AcceptsFrom from) T = refl
setup-counted (AcknowledgesTo to) T = refl
setup-counted CountsDispatch T = refl

length-counted : (xs : List ℕ) (c : Counting) → length (counted xs c) ≡ length xs
length-counted xs CountsNothing = refl
length-counted xs (AcceptsFrom from) = length-set xs from (slice_index_or xs from 0 + 1)
length-counted xs (AcknowledgesTo to) = refl
length-counted xs CountsDispatch = refl

pub setup-stays : SetupStays
unfolding after
setup-stays S q = (setup-counted (outcome S (moment_of S q.at) q.operation).counting _, ap length (accepted-after S q) ∙ length-counted S.accepted (outcome S (moment_of S q.at) q.operation).counting)
