-- PROOF: what one shard has issued and accepted, it still has after a step (no proof here uses a tactic, so that an
-- object of the gate can name them)
use Rattle.std.proofs.Common.{◌≡◌, le_refl, refl, ap, ◌∙◌, subst}
use Rattle.std.proofs.Math.Nat.{le_trans, le-add_right}
use Rattle.std.specs.Prelude.{ℕ, zero, suc, ◌+◌, ◌-◌, ◌==◌, ◌≤◌, Bool, true, false, if◌then◌else◌, List, [], ◌∷◌, ◌++◌, Option, None, Some, unwrap_or, slice_get, slice_set, slice_index_or}
use Rattle.service_model_types.specs.declared.content.Content.{Content}
use Rattle.service_model_types.specs.declared.content.Outgoing.{Outgoing}
use Rattle.service_model_types.specs.declared.request.Acknowledge.{Acknowledge}
use Rattle.service_model_types.specs.declared.request.Request.{Request}
use Rattle.service_model_types.specs.declared.transfer.Sent.{Sent}
use Rattle.service_model_types.specs.declared.transfer.Transfer.{Transfer}
use Rattle.service_model_types.specs.declared.transfer.TransferContent.{TransferContent}
use Rattle.service_model.specs.Counts.{outgoing_to}
use Rattle.service_model.specs.Deliveries.{accepted_from}
use Rattle.service_model.specs.Outcome.{Outcome, Counting, CountsNothing, AcceptsFrom, AcknowledgesTo, CountsDispatch}
use Rattle.service_model.specs.Service.{after, content_after, moment_of, one_more_acknowledged, outcome, sent_for, with_all_sent, with_count}
use Rattle.service_model.specs.WholeRuns.{Holds, Accepted}

abbrev pub Grew : List TransferContent → List TransferContent → Type 0
Grew xs ys = (more : List TransferContent) × (ys ≡ xs ++ more)

-- a count that moves on leaves what was issued
acknowledged-issued : (all : List Outgoing) (at to : ℕ)
    → (outgoing_to (one_more_acknowledged all at) to).issued ≡ (outgoing_to all to).issued
acknowledged-issued [] at to = refl
acknowledged-issued (o ∷ os) at to = go (at == 0) to (λ n. acknowledged-issued os (at - 1) n)
  where
    go : (b : Bool) (to : ℕ) → ((n : ℕ) → (outgoing_to (one_more_acknowledged os (at - 1)) n).issued ≡ (outgoing_to os n).issued)
        → (outgoing_to (if b then record {
          issued = o.issued;
          acknowledged = o.acknowledged + 1;
        } ∷ os else (o ∷ one_more_acknowledged os (at - 1))) to).issued ≡ (outgoing_to (o ∷ os) to).issued
    go true zero rest = refl
    go true (suc n) rest = refl
    go false zero rest = refl
    go false (suc n) rest = rest n

counted-issued : (c : Counting) (T : Content) (to : ℕ)
    → (outgoing_to (with_count c T).outgoing to).issued ≡ (outgoing_to T.outgoing to).issued
counted-issued CountsNothing T to = refl
counted-issued (AcceptsFrom from) T to = refl
counted-issued (AcknowledgesTo at) T to = acknowledged-issued T.outgoing at to
counted-issued CountsDispatch T to = refl

sending-issued : (sent : List Sent) (base : ℕ) (all : List Outgoing) (to : ℕ)
    → Grew (outgoing_to all to).issued (outgoing_to (with_all_sent sent base all) to).issued
sending-issued sent base [] to = ([], refl)
sending-issued sent base (o ∷ os) zero = (_, refl)
sending-issued sent base (o ∷ os) (suc n) = sending-issued sent (base + 1) os n

pub outcome-issued : (S : Content) (m : ℕ) (o : Outcome) (to : ℕ)
    → Grew (outgoing_to S.outgoing to).issued (outgoing_to (content_after S m o).outgoing to).issued
outcome-issued S m o to =
    let sent = sending-issued (sent_for S (S.steps + 1) m o.added ++ o.answers) 0 S.outgoing to in
    (sent.0, counted-issued o.counting _ to ∙ sent.1)

step-issued : (S : Content) (q : Request) (to : ℕ) → Grew (outgoing_to S.outgoing to).issued (outgoing_to (after S q).outgoing to).issued
unfolding after
step-issued S q to = outcome-issued S (moment_of S q.at) (outcome S (moment_of S q.at) q.operation) to

-- an accepted count never falls
moved-on : (all : List ℕ) (at from : ℕ) → accepted_from all from ≤ accepted_from (slice_set all at (slice_index_or all at 0 + 1)) from
moved-on [] at from = le_refl zero
moved-on (x ∷ xs) zero zero = le-add_right x 1
moved-on (x ∷ xs) zero (suc n) = le_refl (accepted_from (x ∷ xs) (suc n))
moved-on (x ∷ xs) (suc m) zero = le_refl x
moved-on (x ∷ xs) (suc m) (suc n) = moved-on xs m n

counted-accepted : (c : Counting) (T : Content) (from : ℕ) → accepted_from T.accepted from ≤ accepted_from (with_count c T).accepted from
counted-accepted CountsNothing T from = le_refl (accepted_from T.accepted from)
counted-accepted (AcceptsFrom at) T from = moved-on T.accepted at from
counted-accepted (AcknowledgesTo at) T from = le_refl (accepted_from T.accepted from)
counted-accepted CountsDispatch T from = le_refl (accepted_from T.accepted from)

pub outcome-accepted : (S : Content) (m : ℕ) (o : Outcome) (from : ℕ)
    → accepted_from S.accepted from ≤ accepted_from (content_after S m o).accepted from
outcome-accepted S m o from = counted-accepted o.counting _ from

step-accepted : (S : Content) (q : Request) (from : ℕ) → accepted_from S.accepted from ≤ accepted_from (after S q).accepted from
unfolding after
step-accepted S q from = outcome-accepted S (moment_of S q.at) (outcome S (moment_of S q.at) q.operation) from

-- the discriminator of options
abbrev IsNone : {A : Type 0} → Option A → Type 0
IsNone None = Unit {0}
IsNone (Some x) = ⊥

pub no-some : {A : Type 0} {x : A} → None ≡ Some x → ⊥
no-some e = subst IsNone e tt

pub some-same : {A : Type 0} {x y : A} → Some x ≡ Some y → x ≡ y
some-same {A} {x} e = ap (λ (o : Option A). unwrap_or o x) e

get-front : {A : Type 0} (xs ys : List A) (k : ℕ) (x : A) → slice_get xs k ≡ Some x → slice_get (xs ++ ys) k ≡ Some x
get-front [] ys k x e = absurd (no-some e)
get-front (z ∷ xs) ys zero x e = e
get-front (z ∷ xs) ys (suc k) x e = get-front xs ys k x e

pub holds-on : (s : ℕ) (t : Transfer) (S : Content) (q : Request) → Holds s t S → Holds s t (after S q)
holds-on s t S q h = let m = step-issued S q s in (
  h.0,
  ap (λ (l : List TransferContent). slice_get l (t.number - 1)) m.1
      ∙ get-front (outgoing_to S.outgoing s).issued m.0 (t.number - 1) t.content h.1,
)

pub accepted-on : (s : ℕ) (a : Acknowledge) (S : Content) (q : Request) → Accepted s a S → Accepted s a (after S q)
accepted-on s a S q h = (h.0, le_trans h.1 (step-accepted S q s))
