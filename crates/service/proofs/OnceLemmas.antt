-- From any content that counts what it accepted of each shard: a transfer is accepted just where it is the next one and belongs
-- here, and any other delivery leaves all but the moment
use Rattle.std.proofs.Common.{◌≡◌, ◌≢◌, ◌⊎◌, inl, inr, ⊎_elim, ℕ, ◌+◌, Bool, true, false, cond, List, [], ◌∷◌, ◌++◌, length, refl, sym, ap, ◌∙◌, subst, arith, append-nil, Option, None, Some, Ok}
use Rattle.std.proofs.lemmas.Bool.Decides.{nat_tests}
use Rattle.std.specs.Prelude.{nat_lt, nat_le, not, ◌==◌, ◌&&◌, option_map, slice_index_or, slice_set}
use Rattle.wf_event_values.specs.declared.field.Field.TheVariants as field
use Rattle.wf_event_values.specs.declared.refusal.Refusal.{Refusal}
use Rattle.wf_event_values.specs.declared.refusal.Refusal.TheVariants.{InvalidArgument}
use Rattle.service_model_types.specs.declared.answer.Answer.TheVariants.{Accepted}
use Rattle.service_model_types.specs.declared.content.Content.{Content}
use Rattle.service_model_types.specs.declared.request.Request.{Request}
use Rattle.service_model_types.specs.declared.content.Outgoing.{Outgoing}
use Rattle.service_model_types.specs.declared.journal.Fact.{Fact}
use Rattle.service_model_types.specs.declared.transfer.Delivery.{Delivery}
use Rattle.service_model_types.specs.declared.transfer.Delivery.TheVariants.{Accepted as IsNext, AlreadyDelivered, OutOfOrder}
use Rattle.service_model_types.specs.declared.transfer.Sent.{Sent}
use Rattle.service_model_types.specs.declared.transfer.Transfer.{Transfer}
use Rattle.service_model.specs.Deliveries.{accepted_from, answers_pending, asked_before, by_delivery, cancel_external, close_by_policy, close_child, comes_from, deliver, delivery_of, effect, is_child_of, is_for_shard, is_new, signal_external}
use Rattle.service_model.specs.IdPolicy.{decide}
use Rattle.service_model.specs.Outcome.{Added, Counting, CountsNothing, AcceptsFrom, AcknowledgesTo, CountsDispatch, Outcome, Runs, latest_run, refused, run_at}
use Rattle.service_model.specs.RunState.{parent_of}
use Rattle.service_model_types.specs.Routing.{knows_queue}
use Rattle.service_model.specs.Service.{after, answer, content_after, dispatched_for, dispatched_new, moment_of, outcome, runs_of, sent_for, with_added, with_all_sent, with_count, with_created, with_removed}
use Rattle.service_model.specs.TransferLaws.{DeliversOnce, IsAccepted, MayAccept, delivers}
use Rattle.service_model.proofs.GroundLemmas.{mores}
use Rattle.wf_event.specs.declared.attributes.Attributes.{Attributes}
use Rattle.wf_event_values.specs.declared.policies.ConflictPolicy.TheVariants.{Fail}
use Rattle.wf_event_values.specs.declared.policies.ParentClosePolicy.{ParentClosePolicy}
use Rattle.wf_event_values.specs.declared.policies.ParentClosePolicy.TheVariants as policy
use Rattle.service_model_types.specs.declared.transfer.CloseChild.{CloseChild as CloseChildContent}
use Rattle.service_model_types.specs.declared.transfer.CancelExternalTransfer.{CancelExternalTransfer}
use Rattle.service_model_types.specs.declared.transfer.SignalExternalTransfer.{SignalExternalTransfer}
use Rattle.service_model_types.specs.declared.transfer.TransferContent.{TransferContent}
use Rattle.service_model_types.specs.declared.transfer.TransferContent.TheVariants as content

-- each transfer that is accepted moves its source's count, and is answered so
record Accepts (t : Transfer) (o : Outcome) : Type 0 where
  is : o.counting ≡ AcceptsFrom t.from
  says : o.reply ≡ Ok (Accepted t.number)

takes : {t : Transfer} {o : Outcome} → o.counting ≡ AcceptsFrom t.from → o.reply ≡ Ok (Accepted t.number) → Accepts t o
takes h k = record { is = h; says = k }

takes-either : {t : Transfer} {x y : Outcome} (b : Bool) → Accepts t x → Accepts t y → Accepts t (cond b x y)
takes-either true h k = h
takes-either false h k = k

answer-accepts : (R : Runs) (t : Transfer) (p : Option (ℕ × List ℕ)) (event : List ℕ → Attributes) → Accepts t (answers_pending R t p event)
answer-accepts R t None event = takes refl refl
answer-accepts R t (Some p) event = takes refl refl

close-accepts : (R : Runs) (t : Transfer) (c : CloseChildContent) (n : Option ℕ) → Accepts t (close_child R t c n)
close-accepts R t c None = takes refl refl
close-accepts R t c (Some n) = takes-either (is_child_of c.parent_run c.initiated (parent_of (run_at R n))) (by_policy c.policy) (takes refl refl)
  where
    by_policy : (p : ParentClosePolicy) → Accepts t (close_by_policy R t n p)
    by_policy policy.Terminate = takes refl refl
    by_policy policy.RequestCancel = takes-either (asked_before (run_at R n)) (takes refl refl) (takes refl refl)
    by_policy policy.Abandon = takes refl refl

signal-accepts : (R : Runs) (t : Transfer) (c : SignalExternalTransfer) (n : Option ℕ) → Accepts t (signal_external R t c n)
signal-accepts R t c None = takes refl refl
signal-accepts R t c (Some n) = takes refl refl

cancel-accepts : (R : Runs) (t : Transfer) (c : CancelExternalTransfer) (n : Option ℕ) → Accepts t (cancel_external R t c n)
cancel-accepts R t c None = takes refl refl
cancel-accepts R t c (Some n) = takes-either (asked_before (run_at R n)) (takes refl refl) (takes refl refl)

effect-accepts : (R : Runs) (t : Transfer) (c : TransferContent) → Accepts t (effect R t c)
unfolding effect
effect-accepts R t (content.StartChild c) = takes-either (knows_queue R.setup c.task_queue && is_new (decide (option_map (λ n. (run_at R n).status) (latest_run R.states c.workflow_id)) false c.reuse Fail)) (takes refl refl) (takes refl refl)
effect-accepts R t (content.ChildStarted c) = answer-accepts R t _ _
effect-accepts R t (content.ChildStartFailed c) = answer-accepts R t _ _
effect-accepts R t (content.ChildClosed c) = answer-accepts R t _ _
effect-accepts R t (content.CloseChild c) = close-accepts R t c _
effect-accepts R t (content.SignalExternal c) = signal-accepts R t c _
effect-accepts R t (content.CancelExternal c) = cancel-accepts R t c _
effect-accepts R t (content.ExternalDone c) = answer-accepts R t _ _

-- the next number
next-number : (so_far number : ℕ) → delivery_of so_far number ≡ IsNext → number ≡ so_far + 1
next-number so_far number = by_tests (nat_le number so_far) (number == so_far + 1) refl
  where
    by_tests : (b c : Bool) → (number == so_far + 1) ≡ c → cond b AlreadyDelivered (cond c IsNext OutOfOrder) ≡ IsNext → number ≡ so_far + 1
    by_tests true c at is = absurd (cc (is))
    by_tests false true at is = grind (at, arith, nat_tests)
    by_tests false false at is = absurd (cc (is))

-- the numbers accepted from all sources after a step
abbrev counted : List ℕ → Counting → List ℕ
counted all CountsNothing = all
counted all (AcceptsFrom from) = slice_set all from (slice_index_or all from 0 + 1)
counted all (AcknowledgesTo to) = all
counted all CountsDispatch = all

accepted-counted : (c : Counting) (T : Content) → (with_count c T).accepted ≡ counted T.accepted c
accepted-counted CountsNothing T = refl
accepted-counted (AcceptsFrom from) T = refl
accepted-counted (AcknowledgesTo to) T = refl
accepted-counted CountsDispatch T = refl

accepted-after : (S : Content) (q : Request) → (after S q).accepted ≡ counted S.accepted (outcome S (moment_of S q.at) q.operation).counting
unfolding after
accepted-after S q = accepted-counted (outcome S (moment_of S q.at) q.operation).counting _

-- a step that only answers, and not that a transfer is accepted
record Rests (o : Outcome) : Type 0 where
  counts_none : o.counting ≡ CountsNothing
  adds_none : o.added ≡ None
  makes_none : o.created ≡ None
  takes_none : o.removed ≡ None
  tells_none : o.answers ≡ []
  other : (number : ℕ) → o.reply ≢ Ok (Accepted number)

refused-rests : (r : Refusal) → Rests (refused r)
refused-rests r = record { counts_none = refl; adds_none = refl; makes_none = refl; takes_none = refl; tells_none = refl; other = λ number e. absurd (cc e) }

none-sent : (to : ℕ) (all : List Outgoing) → with_all_sent [] to all ≡ all
none-sent to [] = refl
none-sent to (o ∷ os) = λ i. record { issued = append-nil o.issued i; acknowledged = o.acknowledged } ∷ none-sent (to + 1) os i

-- the content after a step, by what its outcome says
abbrev left_by : Content → ℕ → Counting → Option Added → Option (List Fact) → Option ℕ → List Sent → Content
left_by S m c added created removed answers = with_count c (record S {
  runs = with_created (S.steps + 1) m created (with_removed removed (with_added (S.steps + 1) m added S.runs));
  outgoing = with_all_sent (sent_for S (S.steps + 1) m added ++ answers) 0 S.outgoing;
  dispatches = S.dispatches ++ (dispatched_for S (S.steps + 1) m added ++ dispatched_new S (S.steps + 1) m created);
  last_moment = m;
  steps = S.steps + 1;
})

rest-leaves : (S : Content) (m : ℕ) (o : Outcome) → Rests o → content_after S m o ≡ record S { last_moment = m; steps = S.steps + 1 }
rest-leaves S m o h =
    let quiet : content_after S m o ≡ left_by S m CountsNothing None None None [] = λ i. left_by S m (h.counts_none i) (h.adds_none i) (h.makes_none i) (h.takes_none i) (h.tells_none i) in
    let same : left_by S m CountsNothing None None None [] ≡ record S { last_moment = m; steps = S.steps + 1 } = λ i. record S { outgoing = none-sent 0 S.outgoing i; dispatches = append-nil S.dispatches i; last_moment = m; steps = S.steps + 1 } in
    quiet ∙ same

-- a delivery is accepted, or leaves all as it was
abbrev Turns : Content → Transfer → Outcome → Type 0
Turns S t o = (MayAccept S t × Accepts t o) ⊎ Rests o

first-true : (a b : Bool) → (a && b) ≡ true → a ≡ true
first-true true b h = refl
first-true false b h = absurd (cc h)

second-true : (a b : Bool) → (a && b) ≡ true → b ≡ true
second-true true b h = h
second-true false b h = absurd (cc h)

turns : (S : Content) (m : ℕ) (t : Transfer) → Turns S t (deliver (runs_of S m) S.accepted t)
unfolding deliver
turns S m t = by_source (nat_lt t.from S.setup.shards && comes_from S.setup t t.content) refl
  where
    by_word : (nat_lt t.from S.setup.shards && comes_from S.setup t t.content) ≡ true → is_for_shard S.setup t.content ≡ true → (d : Delivery) → delivery_of (accepted_from S.accepted t.from) t.number ≡ d → Turns S t (by_delivery (runs_of S m) t d)
    by_word near here AlreadyDelivered is = inr (record { counts_none = refl; adds_none = refl; makes_none = refl; takes_none = refl; tells_none = refl; other = λ number e. absurd (cc e) })
    by_word near here OutOfOrder is = inr (record { counts_none = refl; adds_none = refl; makes_none = refl; takes_none = refl; tells_none = refl; other = λ number e. absurd (cc e) })
    by_word near here IsNext is =
        let there : nat_lt t.from S.setup.shards ≡ true = first-true _ _ near in
        inl (record { source = grind (there, arith, nat_tests); asking = second-true _ _ near; here = here; next = next-number _ _ is }, effect-accepts (runs_of S m) t t.content)

    by_place : (nat_lt t.from S.setup.shards && comes_from S.setup t t.content) ≡ true → (b : Bool) → is_for_shard S.setup t.content ≡ b → Turns S t (cond (not b) (refused (InvalidArgument field.WorkflowId)) (by_delivery (runs_of S m) t (delivery_of (accepted_from S.accepted t.from) t.number)))
    by_place near true here = by_word near here _ refl
    by_place near false here = inr (refused-rests _)

    by_source : (b : Bool) → (nat_lt t.from S.setup.shards && comes_from S.setup t t.content) ≡ b → Turns S t (cond (not b) (refused (InvalidArgument field.From)) (cond (not (is_for_shard S.setup t.content)) (refused (InvalidArgument field.WorkflowId)) (by_delivery (runs_of S m) t (delivery_of (accepted_from S.accepted t.from) t.number))))
    by_source true near = by_place near _ refl
    by_source false near = inr (refused-rests _)

-- the number after the last accepted one is the next
is-next : (so_far number : ℕ) → number ≡ so_far + 1 → delivery_of so_far number ≡ IsNext
is-next so_far number is = by_tests (nat_le number so_far) refl (number == so_far + 1) refl
  where
    by_tests : (b : Bool) → nat_le number so_far ≡ b → (c : Bool) → (number == so_far + 1) ≡ c → cond b AlreadyDelivered (cond c IsNext OutOfOrder) ≡ IsNext
    by_tests true low c at = absurd (grind (low, is, arith, nat_tests))
    by_tests false low true at = refl
    by_tests false low false at = absurd (grind (at, is, arith, nat_tests))

may-take : (S : Content) (m : ℕ) (t : Transfer) → MayAccept S t → deliver (runs_of S m) S.accepted t ≡ effect (runs_of S m) t t.content
unfolding deliver
may-take S m t h =
    let there : nat_lt t.from S.setup.shards ≡ true = (let l = h.source in grind (l, arith, nat_tests)) in
    let rest : Bool → Bool → Bool → Delivery → Outcome = λ a b c d. cond (not (a && b)) (refused (InvalidArgument field.From)) (cond (not c) (refused (InvalidArgument field.WorkflowId)) (by_delivery (runs_of S m) t d)) in
    λ i. rest (there i) (h.asking i) (h.here i) (is-next _ _ h.next i)

taken : (S : Content) (at : ℕ) (t : Transfer) → length S.accepted ≡ S.setup.shards → MayAccept S t → IsAccepted S at t
unfolding answer outcome
taken S at t wide h =
    let effects : Accepts t (deliver (runs_of S (moment_of S at)) S.accepted t) = subst (Accepts t) (sym (may-take S (moment_of S at) t h)) (effect-accepts (runs_of S (moment_of S at)) t t.content) in
    let raised : accepted_from (after S (delivers at t)).accepted t.from ≡ accepted_from S.accepted t.from + 1 =
    ap (λ l. accepted_from l t.from) (accepted-after S (delivers at t) ∙ ap (counted S.accepted) effects.is) ∙ mores S.accepted t.from (let l = h.source in omega (arith, l, wide)) in
    record { answered = effects.says; counted = raised ∙ sym h.next }

pub delivered-once : (S : Content) (at : ℕ) (t : Transfer) → length S.accepted ≡ S.setup.shards → DeliversOnce S at t
unfolding answer after outcome
delivered-once S at t wide = record {
  taken = taken S at t wide;
  only = λ number is. ⊎_elim
      (λ (h : MayAccept S t × Accepts t (deliver (runs_of S (moment_of S at)) S.accepted t)). (h.0, same number is h.1.says))
      (λ (h : Rests (deliver (runs_of S (moment_of S at)) S.accepted t)). absurd (h.other number is))
      (turns S (moment_of S at) t);
  otherwise = λ other. ⊎_elim
      (λ (h : MayAccept S t × Accepts t (deliver (runs_of S (moment_of S at)) S.accepted t)). absurd (other h.1.says))
      (λ (h : Rests (deliver (runs_of S (moment_of S at)) S.accepted t)). rest-leaves S (moment_of S at) _ h)
      (turns S (moment_of S at) t);
}
  where
    same : (number : ℕ) → (deliver (runs_of S (moment_of S at)) S.accepted t).reply ≡ Ok (Accepted number) → (deliver (runs_of S (moment_of S at)) S.accepted t).reply ≡ Ok (Accepted t.number) → number ≡ t.number
    same number is says = cc (is, says)
