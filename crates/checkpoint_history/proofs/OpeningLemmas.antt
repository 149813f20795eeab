-- shards without runs are in order, and a run from there is one of the whole service from its opening
use Rattle.std.proofs.Common.{◌≡◌, ℕ, zero, suc, ◌≤◌, List, [], ◌∷◌, ◌++◌, length, refl, sym, ap, ◌∙◌, subst, arith}
use Rattle.std.specs.Prelude.{drop, replicate, take}
use Rattle.std.specs.List.{fold}
use Rattle.gate.specs.Records.{replay}
use Rattle.service_model_types.specs.declared.content.Content.{Content}
use Rattle.service_model_types.specs.declared.content.Outgoing.{Outgoing}
use Rattle.service_model_types.specs.declared.content.Setup.{Setup}
use Rattle.service_model_types.specs.declared.transfer.TransferContent.{TransferContent}
use Rattle.service_model.specs.Counts.{outgoing_to}
use Rattle.service_model.specs.Deliveries.{accepted_from}
use Rattle.service_model.specs.Service.{Entry, after, opening}
use Rattle.service_model.specs.WholeRuns.{Whole, on, content_at, Grounded, InOrder, Starts}
use Rattle.checkpoint_history.specs.Orders.{GoOn, IsInOrder, OpeningsAreInOrder, acknowledged, accepted_since, contents_after, issued, openings}

abbrev Ts : Type 0
Ts = List TransferContent

nothing-issued : (n to : ℕ) → outgoing_to (replicate n (record { issued = []; acknowledged = 0 })) to ≡ record { issued = []; acknowledged = 0 }
nothing-issued zero to = refl
nothing-issued (suc n) zero = refl
nothing-issued (suc n) (suc to) = nothing-issued n to

nothing-accepted : (n from : ℕ) → accepted_from (replicate n 0) from ≡ 0
nothing-accepted zero from = refl
nothing-accepted (suc n) zero = refl
nothing-accepted (suc n) (suc from) = nothing-accepted n from

same-replay : (S : Content) (R : List Entry) → replay after S R ≡ fold (λ T (e : Entry). after T e.request) S R
same-replay S [] = refl
same-replay S (e ∷ R) = same-replay (after S e.request) R

-- as many as are accepted, where no more are acknowledged
takes-starts : (a : ℕ) (xs rest : Ts) → a ≤ length xs → Starts (take a (xs ++ rest)) xs
takes-starts zero xs rest l = (xs, refl)
takes-starts (suc a) [] rest l = absurd (omega arith)
takes-starts (suc a) (x ∷ xs) rest l = let h = takes-starts a xs rest (omega arith) in (h.0, ap (λ (z : Ts). x ∷ z) h.1)

module _ (setups : ℕ → Setup) where
  behind-is : (W : Whole) (s : ℕ) → contents_after (openings setups) W s ≡ content_at setups W s
  behind-is W s = same-replay (opening (setups s)) (on s W)

  starts-in-order : (from to : ℕ) → IsInOrder (openings setups) from to
  starts-in-order from to =
      let none = nothing-issued (setups from).shards to in let zero-accepted = nothing-accepted (setups to).shards from in
      let a : acknowledged (openings setups) from to ≡ 0 = ap (λ (o : Outgoing). o.acknowledged) none in
      (omega (arith, a), omega (arith, zero-accepted))

  goes-in-order : (W : Whole) (from to : ℕ) → GoOn (openings setups) W from to → InOrder setups W from to
  goes-in-order W from to h =
      let none = nothing-accepted (setups to).shards from in
      let count : acknowledged (contents_after (openings setups) W) from to ≤ length (accepted_since (openings setups) W from to) = (let first = h.in_order.0 in let n = h.counted in omega (arith, first, n, none)) in
      let whole : issued (contents_after (openings setups) W) from to ≡ accepted_since (openings setups) W from to ++ h.since.0 = ap (λ k. drop k (issued (contents_after (openings setups) W) from to)) (sym none) ∙ h.since.1 in
      subst (λ (C : Content). let o = outgoing_to C.outgoing to in Starts (take o.acknowledged o.issued) (accepted_since (openings setups) W from to) × Starts (accepted_since (openings setups) W from to) o.issued) (behind-is W from) (
        subst (λ l. Starts (take (acknowledged (contents_after (openings setups) W) from to) l) (accepted_since (openings setups) W from to)) (sym whole) (takes-starts _ _ h.since.0 count),
        (h.since.0, whole),
      )

pub openings-in-order : OpeningsAreInOrder
openings-in-order setups = record {
  starts = starts-in-order setups;
  whole = λ W h front rest s e is. subst (λ (S : ℕ → Content). Grounded S s e.request.operation) (λ i j. sym (behind-is setups front j) i) (h front rest s e is);
  in_order = goes-in-order setups;
}
