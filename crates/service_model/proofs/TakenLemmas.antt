-- a transfer is accepted just where it is the next one and belongs here, and any other delivery leaves all but the moment
use Rattle.std.proofs.Common.{◌≡◌, ◌≢◌, ◌⊎◌, inl, inr, ⊎_elim, ℕ, ◌+◌, Bool, true, false, cond, List, [], ◌∷◌, ◌++◌, length, refl, sym, ap, ◌∙◌, subst, arith, append-nil, Option, None, Ok}
use Rattle.std.proofs.lemmas.Bool.Decides.{nat_tests}
use Rattle.std.specs.Prelude.{nat_lt, nat_le, not, ◌==◌, ◌&&◌}
use Rattle.std.specs.List.{fold}
use Rattle.wf_event_values.specs.declared.field.Field.TheVariants as field
use Rattle.wf_event_values.specs.declared.refusal.Refusal.{Refusal}
use Rattle.wf_event_values.specs.declared.refusal.Refusal.TheVariants.{InvalidArgument}
use Rattle.service_model_types.specs.declared.answer.Answer.TheVariants.{Accepted}
use Rattle.service_model_types.specs.declared.content.Content.{Content}
use Rattle.service_model_types.specs.declared.content.Outgoing.{Outgoing}
use Rattle.service_model_types.specs.declared.content.Setup.{Setup}
use Rattle.service_model_types.specs.declared.journal.Fact.{Fact}
use Rattle.service_model_types.specs.declared.transfer.Delivery.{Delivery}
use Rattle.service_model_types.specs.declared.transfer.Delivery.TheVariants.{Accepted as IsNext, AlreadyDelivered, OutOfOrder}
use Rattle.service_model_types.specs.declared.transfer.Sent.{Sent}
use Rattle.service_model_types.specs.declared.transfer.Transfer.{Transfer}
use Rattle.service_model.specs.Deliveries.{accepted_from, by_delivery, comes_from, deliver, delivery_of, effect, is_for_shard}
use Rattle.service_model.specs.Outcome.{Added, Counting, CountsNothing, Outcome, refused}
use Rattle.service_model.specs.Service.{Entry, after, answer, content_after, dispatched_for, dispatched_new, moment_of, opening, outcome, replay, runs_of, sent_for, with_added, with_all_sent, with_count, with_created, with_removed}
use Rattle.service_model.specs.TransferLaws.{AcceptsExactly, DeliversOnce, IsAccepted, MayAccept, delivers}
use Rattle.service_model.proofs.GroundLemmas.{mores, setup-stays}
use Rattle.std.proofs.lemmas.List.{length-replicate}
use Rattle.service_model.proofs.TransferLemmas.{Accepts, accepted-after, counted, effect-accepts, next-number}

-- a step that only answers, and not that a transfer is accepted
record Rests (o : Outcome) : Type 0 where
  counts_none : o.counting ≡ CountsNothing
  adds_none : o.added ≡ None
  makes_none : o.created ≡ None
  takes_none : o.removed ≡ None
  tells_none : o.answers ≡ []
  other : (number : ℕ) → o.reply ≢ Ok (Accepted number)

refused-rests : (r : Refusal) → Rests (refused r)
refused-rests r = record { counts_none = refl; adds_none = refl; makes_none = refl; takes_none = refl; tells_none = refl; other = λ number e. absurd (cc e) }

none-sent : (to : ℕ) (all : List Outgoing) → with_all_sent [] to all ≡ all
none-sent to [] = refl
none-sent to (o ∷ os) = λ i. record { issued = append-nil o.issued i; acknowledged = o.acknowledged } ∷ none-sent (to + 1) os i

-- the content after a step, by what its outcome says
abbrev left_by : Content → ℕ → Counting → Option Added → Option (List Fact) → Option ℕ → List Sent → Content
left_by S m c added created removed answers = with_count c (record S {
  runs = with_created (S.steps + 1) m created (with_removed removed (with_added (S.steps + 1) m added S.runs));
  outgoing = with_all_sent (sent_for S (S.steps + 1) m added ++ answers) 0 S.outgoing;
  dispatches = S.dispatches ++ (dispatched_for S (S.steps + 1) m added ++ dispatched_new S (S.steps + 1) m created);
  last_moment = m;
  steps = S.steps + 1;
})

rest-leaves : (S : Content) (m : ℕ) (o : Outcome) → Rests o → content_after S m o ≡ record S { last_moment = m; steps = S.steps + 1 }
rest-leaves S m o h =
    let quiet : content_after S m o ≡ left_by S m CountsNothing None None None [] = λ i. left_by S m (h.counts_none i) (h.adds_none i) (h.makes_none i) (h.takes_none i) (h.tells_none i) in
    let same : left_by S m CountsNothing None None None [] ≡ record S { last_moment = m; steps = S.steps + 1 } = λ i. record S { outgoing = none-sent 0 S.outgoing i; dispatches = append-nil S.dispatches i; last_moment = m; steps = S.steps + 1 } in
    quiet ∙ same

-- a delivery is accepted, or leaves all as it was
abbrev Turns : Content → Transfer → Outcome → Type 0
Turns S t o = (MayAccept S t × Accepts t o) ⊎ Rests o

first-true : (a b : Bool) → (a && b) ≡ true → a ≡ true
first-true true b h = refl
first-true false b h = absurd (cc h)

second-true : (a b : Bool) → (a && b) ≡ true → b ≡ true
second-true true b h = h
second-true false b h = absurd (cc h)

turns : (S : Content) (m : ℕ) (t : Transfer) → Turns S t (deliver (runs_of S m) S.accepted t)
unfolding deliver
turns S m t = by_source (nat_lt t.from S.setup.shards && comes_from S.setup t t.content) refl
  where
    by_word : (nat_lt t.from S.setup.shards && comes_from S.setup t t.content) ≡ true → is_for_shard S.setup t.content ≡ true → (d : Delivery) → delivery_of (accepted_from S.accepted t.from) t.number ≡ d → Turns S t (by_delivery (runs_of S m) t d)
    by_word near here AlreadyDelivered is = inr (record { counts_none = refl; adds_none = refl; makes_none = refl; takes_none = refl; tells_none = refl; other = λ number e. absurd (cc e) })
    by_word near here OutOfOrder is = inr (record { counts_none = refl; adds_none = refl; makes_none = refl; takes_none = refl; tells_none = refl; other = λ number e. absurd (cc e) })
    by_word near here IsNext is =
        let there : nat_lt t.from S.setup.shards ≡ true = first-true _ _ near in
        inl (record { source = grind (there, arith, nat_tests); asking = second-true _ _ near; here = here; next = next-number _ _ is }, effect-accepts (runs_of S m) t t.content)

    by_place : (nat_lt t.from S.setup.shards && comes_from S.setup t t.content) ≡ true → (b : Bool) → is_for_shard S.setup t.content ≡ b → Turns S t (cond (not b) (refused (InvalidArgument field.WorkflowId)) (by_delivery (runs_of S m) t (delivery_of (accepted_from S.accepted t.from) t.number)))
    by_place near true here = by_word near here _ refl
    by_place near false here = inr (refused-rests _)

    by_source : (b : Bool) → (nat_lt t.from S.setup.shards && comes_from S.setup t t.content) ≡ b → Turns S t (cond (not b) (refused (InvalidArgument field.From)) (cond (not (is_for_shard S.setup t.content)) (refused (InvalidArgument field.WorkflowId)) (by_delivery (runs_of S m) t (delivery_of (accepted_from S.accepted t.from) t.number))))
    by_source true near = by_place near _ refl
    by_source false near = inr (refused-rests _)

-- the number after the last accepted one is the next
is-next : (so_far number : ℕ) → number ≡ so_far + 1 → delivery_of so_far number ≡ IsNext
is-next so_far number is = by_tests (nat_le number so_far) refl (number == so_far + 1) refl
  where
    by_tests : (b : Bool) → nat_le number so_far ≡ b → (c : Bool) → (number == so_far + 1) ≡ c → cond b AlreadyDelivered (cond c IsNext OutOfOrder) ≡ IsNext
    by_tests true low c at = absurd (grind (low, is, arith, nat_tests))
    by_tests false low true at = refl
    by_tests false low false at = absurd (grind (at, is, arith, nat_tests))

may-take : (S : Content) (m : ℕ) (t : Transfer) → MayAccept S t → deliver (runs_of S m) S.accepted t ≡ effect (runs_of S m) t t.content
unfolding deliver
may-take S m t h =
    let there : nat_lt t.from S.setup.shards ≡ true = (let l = h.source in grind (l, arith, nat_tests)) in
    let rest : Bool → Bool → Bool → Delivery → Outcome = λ a b c d. cond (not (a && b)) (refused (InvalidArgument field.From)) (cond (not c) (refused (InvalidArgument field.WorkflowId)) (by_delivery (runs_of S m) t d)) in
    λ i. rest (there i) (h.asking i) (h.here i) (is-next _ _ h.next i)

taken : (S : Content) (at : ℕ) (t : Transfer) → length S.accepted ≡ S.setup.shards → MayAccept S t → IsAccepted S at t
unfolding answer outcome
taken S at t wide h =
    let effects : Accepts t (deliver (runs_of S (moment_of S at)) S.accepted t) = subst (Accepts t) (sym (may-take S (moment_of S at) t h)) (effect-accepts (runs_of S (moment_of S at)) t t.content) in
    let raised : accepted_from (after S (delivers at t)).accepted t.from ≡ accepted_from S.accepted t.from + 1 =
    ap (λ l. accepted_from l t.from) (accepted-after S (delivers at t) ∙ ap (counted S.accepted) effects.is) ∙ mores S.accepted t.from (let l = h.source in omega (arith, l, wide)) in
    record { answered = effects.says; counted = raised ∙ sym h.next }

delivered-once : (S : Content) (at : ℕ) (t : Transfer) → length S.accepted ≡ S.setup.shards → DeliversOnce S at t
unfolding answer after outcome
delivered-once S at t wide = record {
  taken = taken S at t wide;
  only = λ number is. ⊎_elim
      (λ (h : MayAccept S t × Accepts t (deliver (runs_of S (moment_of S at)) S.accepted t)). (h.0, same number is h.1.says))
      (λ (h : Rests (deliver (runs_of S (moment_of S at)) S.accepted t)). absurd (h.other number is))
      (turns S (moment_of S at) t);
  otherwise = λ other. ⊎_elim
      (λ (h : MayAccept S t × Accepts t (deliver (runs_of S (moment_of S at)) S.accepted t)). absurd (other h.1.says))
      (λ (h : Rests (deliver (runs_of S (moment_of S at)) S.accepted t)). rest-leaves S (moment_of S at) _ h)
      (turns S (moment_of S at) t);
}
  where
    same : (number : ℕ) → (deliver (runs_of S (moment_of S at)) S.accepted t).reply ≡ Ok (Accepted number) → (deliver (runs_of S (moment_of S at)) S.accepted t).reply ≡ Ok (Accepted t.number) → number ≡ t.number
    same number is says = cc (is, says)

wide-replayed : (S : Content) (R : List Entry) → length S.accepted ≡ S.setup.shards → let T = fold (λ U (e : Entry). after U e.request) S R in length T.accepted ≡ T.setup.shards
wide-replayed S [] h = h
wide-replayed S (e ∷ R) h = wide-replayed (after S e.request) R ((setup-stays S e.request).1 ∙ h ∙ sym (ap (λ (K : Setup). K.shards) (setup-stays S e.request).0))

pub accepts-exactly : AcceptsExactly
accepts-exactly setup R at t = delivered-once (replay setup R) at t (wide-replayed (opening setup) R (length-replicate setup.shards 0))
