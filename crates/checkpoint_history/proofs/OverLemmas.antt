-- a delivery of what was accepted before leaves all but the moment
use Rattle.std.proofs.Common.{◌≡◌, ◌≢◌, ℕ, ◌+◌, ◌<◌, ◌≤◌, Bool, true, false, cond, List, [], ◌∷◌, refl, sym, subst, ap, arith, append-nil, Ok}
use Rattle.std.proofs.lemmas.Bool.Decides.{nat_tests}
use Rattle.std.specs.Prelude.{nat_lt, nat_le, not, ◌==◌, ◌&&◌}
use Rattle.wf_event_values.specs.declared.field.Field.TheVariants as field
use Rattle.wf_event_values.specs.declared.refusal.Refusal.{Refusal}
use Rattle.wf_event_values.specs.declared.refusal.Refusal.TheVariants.{InvalidArgument}
use Rattle.service_model_types.specs.declared.answer.Answer.TheVariants.{Accepted, AlreadyDelivered}
use Rattle.service_model_types.specs.declared.content.Content.{Content}
use Rattle.service_model_types.specs.declared.content.Outgoing.{Outgoing}
use Rattle.service_model_types.specs.declared.transfer.Delivery.{Delivery}
use Rattle.service_model_types.specs.declared.transfer.Delivery.TheVariants.{Accepted as IsNext, AlreadyDelivered as Already, OutOfOrder}
use Rattle.service_model_types.specs.declared.transfer.Transfer.{Transfer}
use Rattle.gate.specs.Records.{replay}
use Rattle.service_model.specs.Deliveries.{accepted_from, by_delivery, comes_from, deliver, delivery_of, is_for_shard}
use Rattle.service_model.specs.GroundGrowth.{outcome-accepted}
use Rattle.service_model.specs.Outcome.{Outcome, answered, refused}
use Rattle.service_model.specs.Service.{Entry, after, answer, content_after, moment_of, outcome, runs_of, with_all_sent}
use Rattle.service_model.specs.WholeRuns.{on}
use Rattle.checkpoint_history.specs.Orders.{IsOver, NeverAgain}

-- a step that leaves all but the moment, and doesn't answer that a transfer is accepted
record Rests (S : Content) (m : ℕ) (o : Outcome) : Type 0 where
  same : content_after S m o ≡ record S { last_moment = m; steps = S.steps + 1 }
  other : (number : ℕ) → o.reply ≢ Ok (Accepted number)

none-sent : (to : ℕ) (all : List Outgoing) → with_all_sent [] to all ≡ all
none-sent to [] = refl
none-sent to (o ∷ os) = λ i. record { issued = append-nil o.issued i; acknowledged = o.acknowledged } ∷ none-sent (to + 1) os i

refused-rests : (S : Content) (m : ℕ) (r : Refusal) → Rests S m (refused r)
refused-rests S m r = record {
  same = λ i. record S { outgoing = none-sent 0 S.outgoing i; dispatches = append-nil S.dispatches i; last_moment = m; steps = S.steps + 1 };
  other = λ number e. absurd (cc e);
}

already-rests : (S : Content) (m n : ℕ) → Rests S m (answered (AlreadyDelivered n))
already-rests S m n = record {
  same = λ i. record S { outgoing = none-sent 0 S.outgoing i; dispatches = append-nil S.dispatches i; last_moment = m; steps = S.steps + 1 };
  other = λ number e. absurd (cc e);
}

either : (S : Content) (m : ℕ) (b : Bool) (x y : Outcome) → Rests S m x → Rests S m y → Rests S m (cond b x y)
either S m true x y h k = h
either S m false x y h k = k

is-already : (so_far number : ℕ) → number ≤ so_far → delivery_of so_far number ≡ Already
is-already so_far number low =
    let test : nat_le number so_far ≡ true = grind (low, arith, nat_tests) in
    ap (λ b. cond b Already (cond (number == so_far + 1) IsNext OutOfOrder)) test

over-rests : (S : Content) (m : ℕ) (t : Transfer) → t.number ≤ accepted_from S.accepted t.from → Rests S m (deliver (runs_of S m) S.accepted t)
unfolding deliver
over-rests S m t low =
    let ends : Delivery → Outcome = λ d. cond (not (nat_lt t.from S.setup.shards && comes_from S.setup t t.content)) (refused (InvalidArgument field.From)) (cond (not (is_for_shard S.setup t.content)) (refused (InvalidArgument field.WorkflowId)) (by_delivery (runs_of S m) t d)) in
    subst (λ d. Rests S m (ends d)) (sym (is-already _ _ low))
    (either S m (not (nat_lt t.from S.setup.shards && comes_from S.setup t t.content)) _ _ (refused-rests S m (InvalidArgument field.From))
    (either S m (not (is_for_shard S.setup t.content)) _ _ (refused-rests S m (InvalidArgument field.WorkflowId)) (already-rests S m t.number)))

over-answers : (S : Content) (m : ℕ) (t : Transfer) → t.number ≤ accepted_from S.accepted t.from → t.from < S.setup.shards → comes_from S.setup t t.content ≡ true → is_for_shard S.setup t.content ≡ true
    → (deliver (runs_of S m) S.accepted t).reply ≡ Ok (AlreadyDelivered t.number)
unfolding deliver
over-answers S m t low source asking here =
    let there : nat_lt t.from S.setup.shards ≡ true = grind (source, arith, nat_tests) in
    let ends : Bool → Bool → Bool → Delivery → Outcome = λ a b c d. cond (not (a && b)) (refused (InvalidArgument field.From)) (cond (not c) (refused (InvalidArgument field.WorkflowId)) (by_delivery (runs_of S m) t d)) in
    λ i. (ends (there i) (asking i) (here i) (is-already _ _ low i)).reply

pub over : (S : Content) (at : ℕ) (t : Transfer) → t.number ≤ accepted_from S.accepted t.from → IsOver S at t
unfolding answer after outcome
over S at t low = let rests = over-rests S (moment_of S at) t low in record {
  answered = rests.other;
  already = over-answers S (moment_of S at) t low;
  leaves = rests.same;
}

-- an accepted count never falls
accepts-more : (S : Content) (e : Entry) (from : ℕ) → accepted_from S.accepted from ≤ accepted_from (after S e.request).accepted from
unfolding after
accepts-more S e from = outcome-accepted S (moment_of S e.request.at) (outcome S (moment_of S e.request.at) e.request.operation) from

accepts-on : (S : Content) (R : List Entry) (from : ℕ) → accepted_from S.accepted from ≤ accepted_from (replay after S R).accepted from
accepts-on S [] from = omega arith
accepts-on S (e ∷ R) from = let one = accepts-more S e from in let rest = accepts-on (after S e.request) R from in omega (arith, one, rest)

pub never-again : NeverAgain
never-again starts W s at t low = over (replay after (starts s) (on s W)) at t (let more = accepts-on (starts s) (on s W) t.from in omega (arith, low, more))
