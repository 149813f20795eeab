-- In a run of the whole service, what is acknowledged begins what is accepted, and that begins what was issued.
use Rattle.std.proofs.Common.{◌≡◌, ◌≢◌, ◌⊎◌, inl, inr, ⊎_elim, ℕ, zero, suc, ◌+◌, ◌-◌, ◌<◌, ◌≤◌, eqb, Bool, true, false, cond, List, [], ◌∷◌, ◌++◌, length, refl, sym, ap, ◌∙◌, subst, arith, append_assoc, append-nil, length-append, eq-eqb, ne_eqb, Some}
use Rattle.std.specs.Prelude.{take, slice_get, replicate}
use Rattle.std.specs.List.{fold}
use mathlib.Core.Logic.{dite}
use native.Mathlib.Decide.{ℕ_discrete}
use Rattle.service_model_types.specs.declared.content.Content.{Content}
use Rattle.service_model_types.specs.declared.content.Outgoing.{Outgoing}
use Rattle.service_model_types.specs.declared.content.Setup.{Setup}
use Rattle.service_model_types.specs.declared.transfer.TransferContent.{TransferContent}
use Rattle.service_model.specs.Counts.{outgoing_to}
use Rattle.service_model.specs.Deliveries.{accepted_from}
use Rattle.service_model.specs.Service.{Entry, after, opening, replay}
use Rattle.service_model.specs.TransferLaws.{AcceptsNext}
use Rattle.service_model.specs.WholeRuns.{Whole, on, content_at, Holds, Accepted, Grounded, delivered, accepted_in, all_accepted, Starts, TransfersInOrder}
use Rattle.service_model.proofs.TransferLemmas.{accepts-step, CountsNext, counts-step, issued-more}

abbrev Ts : Type 0
Ts = List TransferContent

-- so many are acknowledged, so many accepted, these were issued and these accepted
abbrev Link : ℕ → ℕ → Ts → Ts → Type 0
Link a c issued got = (a ≤ c) × (c ≤ length issued) × (got ≡ take c issued)

take-more : (c : ℕ) (xs ys : Ts) → c ≤ length xs → take c (xs ++ ys) ≡ take c xs
take-more zero xs ys l = refl
take-more (suc c) [] ys l = absurd (omega arith)
take-more (suc c) (x ∷ xs) ys l = ap (λ (z : Ts). x ∷ z) (take-more c xs ys (omega arith))

take-one : (c : ℕ) (xs : Ts) (x : TransferContent) → slice_get xs c ≡ Some x → (c < length xs) × (take (suc c) xs ≡ take c xs ++ x ∷ [])
take-one c [] x e = absurd (cc e)
take-one zero (y ∷ xs) x e = (omega arith, (let h : y ≡ x = cc e in ap (λ (z : TransferContent). z ∷ []) h))
take-one (suc c) (y ∷ xs) x e = let h = take-one c xs x e in ((let l = h.0 in omega arith), ap (λ (z : Ts). y ∷ z) h.1)

take-starts : (a c : ℕ) (xs : Ts) → a ≤ c → Starts (take a xs) (take c xs)
take-starts zero c xs l = (take c xs, refl)
take-starts (suc a) zero xs l = absurd (omega arith)
take-starts (suc a) (suc c) [] l = ([], refl)
take-starts (suc a) (suc c) (x ∷ xs) l = let h = take-starts a c xs (omega arith) in (h.0, ap (λ (z : Ts). x ∷ z) h.1)

take-whole : (c : ℕ) (xs : Ts) → Starts (take c xs) xs
take-whole zero xs = (xs, refl)
take-whole (suc c) [] = ([], refl)
take-whole (suc c) (x ∷ xs) = let h = take-whole c xs in (h.0, ap (λ (z : Ts). x ∷ z) h.1)

-- what a step does to a link
link-step : (a a' c c' : ℕ) (issued issued' got got' : Ts) → Link a c issued got → ((a' ≡ a) ⊎ (a' ≤ c))
    → (((c' ≡ c) × (got' ≡ got)) ⊎ ((x : TransferContent) × (c' ≡ c + 1) × (got' ≡ got ++ x ∷ []) × (slice_get issued c ≡ Some x)))
    → ((more : Ts) × (issued' ≡ issued ++ more)) → Link a' c' issued' got'
link-step a a' c c' issued issued' got got' h acked taken grew =
    let few : a' ≤ c = ⊎_elim (λ (e : a' ≡ a). let l = h.0 in omega (arith, e, l)) (λ (l : a' ≤ c). l) acked in
    let longer : length issued ≤ length issued' = let e = ap length grew.1 in let f = length-append issued grew.0 in omega (arith, e, f) in
    ⊎_elim
    (λ (t : (c' ≡ c) × (got' ≡ got)). let e = t.0 in let l = h.1 in (
      omega (arith, e, few),
      omega (arith, e, l, longer),
      t.1 ∙ (h.2 ∙ (sym (take-more c issued grew.0 l) ∙ (λ i. take (sym e i) (sym grew.1 i)))),
    ))
    (λ (t : (x : TransferContent) × (c' ≡ c + 1) × (got' ≡ got ++ x ∷ []) × (slice_get issued c ≡ Some x)).
    let e = t.1 in let one = take-one c issued t.0 t.3 in let l = one.0 in let next : suc c ≡ c' = omega (arith, e) in (
      omega (arith, e, few),
      omega (arith, e, l, longer),
      t.2 ∙ (ap (λ (z : Ts). z ++ t.0 ∷ []) h.2 ∙ (sym one.1 ∙ (sym (take-more (suc c) issued grew.0 (omega (arith, l))) ∙ (λ i. take (next i) (sym grew.1 i))))),
    ))
    taken

-- a step more on a shard, and on another
on-here : (s : ℕ) (e : Entry) (W : Whole) → on s (W ++ (s, e) ∷ []) ≡ on s W ++ e ∷ []
on-here s e [] = ap (λ (t : Bool). cond t (e ∷ []) []) (eq-eqb s s refl)
on-here s e (x ∷ W) = go (on-here s e W) (eqb s x.0)
  where
    go : on s (W ++ (s, e) ∷ []) ≡ on s W ++ e ∷ [] → (t : Bool) → cond t (x.1 ∷ on s (W ++ (s, e) ∷ [])) (on s (W ++ (s, e) ∷ [])) ≡ cond t (x.1 ∷ on s W) (on s W) ++ e ∷ []
    go h true = ap (λ (l : List Entry). x.1 ∷ l) h
    go h false = h

on-else : (j s : ℕ) (e : Entry) (W : Whole) → j ≢ s → on j (W ++ (s, e) ∷ []) ≡ on j W
on-else j s e [] ne = ap (λ (t : Bool). cond t (e ∷ []) []) (ne_eqb j s ne)
on-else j s e (x ∷ W) ne = go (on-else j s e W ne) (eqb j x.0)
  where
    go : on j (W ++ (s, e) ∷ []) ≡ on j W → (t : Bool) → cond t (x.1 ∷ on j (W ++ (s, e) ∷ [])) (on j (W ++ (s, e) ∷ [])) ≡ cond t (x.1 ∷ on j W) (on j W)
    go h true = ap (λ (l : List Entry). x.1 ∷ l) h
    go h false = h

fold-more : (S : Content) (R : List Entry) (e : Entry) → fold (λ T (x : Entry). after T x.request) S (R ++ e ∷ []) ≡ after (fold (λ T (x : Entry). after T x.request) S R) e.request
fold-more S [] e = refl
fold-more S (x ∷ R) e = fold-more (after S x.request) R e

accepted-more : (S : Content) (from : ℕ) (R : List Entry) (e : Entry) → all_accepted S from (R ++ e ∷ []) ≡ all_accepted S from R ++ accepted_in (fold (λ T (x : Entry). after T x.request) S R) from e.request
accepted-more S from [] e = append-nil (accepted_in S from e.request)
accepted-more S from (x ∷ R) e = ap (λ (l : Ts). accepted_in S from x.request ++ l) (accepted-more (after S x.request) from R e) ∙ sym (append_assoc (accepted_in S from x.request) (all_accepted (after S x.request) from R) (accepted_in (fold (λ T (y : Entry). after T y.request) (after S x.request) R) from e.request))

nothing-issued : (n to : ℕ) → outgoing_to (replicate n (record { issued = []; acknowledged = 0 })) to ≡ record { issued = []; acknowledged = 0 }
nothing-issued zero to = refl
nothing-issued (suc n) zero = refl
nothing-issued (suc n) (suc to) = nothing-issued n to

nothing-accepted : (n from : ℕ) → accepted_from (replicate n 0) from ≡ 0
nothing-accepted zero from = refl
nothing-accepted (suc n) zero = refl
nothing-accepted (suc n) (suc from) = nothing-accepted n from

module _ (setups : ℕ → Setup) where
  abbrev At : Whole → ℕ → Content
  At W s = content_at setups W s

  abbrev got : Whole → ℕ → ℕ → Ts
  got W from to = all_accepted (opening (setups to)) from (on to W)

  abbrev issued : Whole → ℕ → ℕ → Ts
  issued W from to = (outgoing_to (At W from).outgoing to).issued

  abbrev acked : Whole → ℕ → ℕ → ℕ
  acked W from to = (outgoing_to (At W from).outgoing to).acknowledged

  abbrev counted : Whole → ℕ → ℕ → ℕ
  counted W from to = accepted_from (At W to).accepted from

  abbrev Linked : Whole → Type 0
  Linked W = (from to : ℕ) → Link (acked W from to) (counted W from to) (issued W from to) (got W from to)

  module _ (W : Whole) (s : ℕ) (e : Entry) where
    abbrev W' : Whole
    W' = W ++ (s, e) ∷ []

    at-here : At W' s ≡ after (At W s) e.request
    at-here = ap (λ (R : List Entry). replay (setups s) R) (on-here s e W) ∙ fold-more (opening (setups s)) (on s W) e

    at-else : (j : ℕ) → j ≢ s → At W' j ≡ At W j
    at-else j ne = ap (λ (R : List Entry). replay (setups j) R) (on-else j s e W ne)

    acks : (grounds : Grounded (At W) s e.request.operation) (from to : ℕ) → (acked W' from to ≡ acked W from to) ⊎ (acked W' from to ≤ counted W from to)
    acks grounds from to = dite (ℕ_discrete from s)
        (λ here. subst (λ (j : ℕ). (acked W' j to ≡ acked W j to) ⊎ (acked W' j to ≤ counted W j to)) (sym here)
        (subst (λ (C : Content). ((outgoing_to C.outgoing to).acknowledged ≡ acked W s to) ⊎ ((outgoing_to C.outgoing to).acknowledged ≤ counted W s to)) (sym at-here) (told (counts-step (At W s) e.request to))))
        (λ other. inl (ap (λ (C : Content). (outgoing_to C.outgoing to).acknowledged) (at-else from other)))
      where
        told : let n = (outgoing_to (after (At W s) e.request).outgoing to).acknowledged in (n ≡ acked W s to) ⊎ CountsNext e.request.operation to n → (n ≡ acked W s to) ⊎ (n ≤ counted W s to)
        told (inl h) = inl h
        told (inr h) = let g : Accepted s h.counted (At W h.counted.to) = subst (Grounded (At W) s) h.asked grounds in
            let small : h.counted.number ≤ counted W s to = subst (λ (j : ℕ). h.counted.number ≤ counted W s j) h.destination g.1 in
            let n = h.next in inr (omega (arith, n, small))

    takes : (grounds : Grounded (At W) s e.request.operation) (from to : ℕ) → (((counted W' from to ≡ counted W from to) × (got W' from to ≡ got W from to))
        ⊎ ((x : TransferContent) × (counted W' from to ≡ counted W from to + 1) × (got W' from to ≡ got W from to ++ x ∷ []) × (slice_get (issued W from to) (counted W from to) ≡ Some x)))
    takes grounds from to = dite (ℕ_discrete to s)
        (λ here. subst (λ (j : ℕ). (((counted W' from j ≡ counted W from j) × (got W' from j ≡ got W from j))
        ⊎ ((x : TransferContent) × (counted W' from j ≡ counted W from j + 1) × (got W' from j ≡ got W from j ++ x ∷ []) × (slice_get (issued W from j) (counted W from j) ≡ Some x)))) (sym here) (told (accepts-step (At W s) e.request from)))
        (λ other. inl (ap (λ (C : Content). accepted_from C.accepted from) (at-else to other), ap (all_accepted (opening (setups to)) from) (on-else to s e W other)))
      where
        S : Content
        S = At W s

        more : got W' from s ≡ got W from s ++ accepted_in (At W s) from e.request
        more = ap (all_accepted (opening (setups s)) from) (on-here s e W) ∙ accepted-more (opening (setups s)) from (on s W) e

        count : counted W' from s ≡ accepted_from (after (At W s) e.request).accepted from
        count = ap (λ (C : Content). accepted_from C.accepted from) at-here

        told : (accepted_from (after (At W s) e.request).accepted from ≡ accepted_from (At W s).accepted from) ⊎ AcceptsNext (At W s) e.request from
            → (((counted W' from s ≡ counted W from s) × (got W' from s ≡ got W from s))
            ⊎ ((x : TransferContent) × (counted W' from s ≡ counted W from s + 1) × (got W' from s ≡ got W from s ++ x ∷ []) × (slice_get (issued W from s) (counted W from s) ≡ Some x)))
        told (inl h) = inl (count ∙ h, more ∙ (ap (λ (b : Bool). got W from s ++ delivered b e.request.operation) (eq-eqb (accepted_from (after (At W s) e.request).accepted from) (accepted_from (At W s).accepted from) h) ∙ append-nil (got W from s)))
        told (inr h) =
            let t = h.transfer in let n = h.next in let c = h.accepted in
            let moved : accepted_from (after (At W s) e.request).accepted from ≡ counted W from s + 1 = c ∙ n in
            let apart : accepted_from (after (At W s) e.request).accepted from ≢ accepted_from (At W s).accepted from = (λ z. absurd (omega (arith, z, moved))) in
            let g : Holds s t (At W t.from) = subst (Grounded (At W) s) h.asked grounds in
            let place : t.number - 1 ≡ counted W from s = omega (arith, n) in
            inr (
              t.content,
              count ∙ moved,
              more ∙ (λ i. got W from s ++ delivered (ne_eqb (accepted_from (after (At W s) e.request).accepted from) (accepted_from (At W s).accepted from) apart i) (h.asked i)),
              subst (λ (z : ℕ × ℕ). slice_get (issued W z.0 s) z.1 ≡ Some t.content) (λ i. (h.source i, place i)) g.1,
            )

    issues : (from to : ℕ) → (more : Ts) × (issued W' from to ≡ issued W from to ++ more)
    issues from to = dite (ℕ_discrete from s)
        (λ here. subst (λ (j : ℕ). (more : Ts) × (issued W' j to ≡ issued W j to ++ more)) (sym here) (let h = issued-more (At W s) e.request to in (h.0, ap (λ (C : Content). (outgoing_to C.outgoing to).issued) at-here ∙ h.1)))
        (λ other. ([], ap (λ (C : Content). (outgoing_to C.outgoing to).issued) (at-else from other) ∙ sym (append-nil (issued W from to))))

    linked-more : Linked W → Grounded (At W) s e.request.operation → Linked W'
    linked-more h grounds from to = link-step (acked W from to) (acked W' from to) (counted W from to) (counted W' from to) (issued W from to) (issued W' from to) (got W from to) (got W' from to)
        (h from to) (acks grounds from to) (takes grounds from to) (issues from to)

  -- step by step
  linked-all : (done rest whole : Whole) → ((front more : Whole) (s : ℕ) (e : Entry) → whole ≡ front ++ (s, e) ∷ more → Grounded (At front) s e.request.operation) → (tail : Whole) → whole ≡ done ++ (rest ++ tail) → Linked done → Linked (done ++ rest)
  linked-all done [] whole all tail is h = subst Linked (sym (append-nil done)) h
  linked-all done ((s, e) ∷ rest) whole all tail is h =
      let next : Linked (done ++ (s, e) ∷ []) = linked-more done s e h (all done (rest ++ tail) s e is) in
      subst Linked (append_assoc done ((s, e) ∷ []) rest) (linked-all (done ++ (s, e) ∷ []) rest whole all tail (is ∙ sym (append_assoc done ((s, e) ∷ []) (rest ++ tail))) next)

  linked-none : Linked []
  linked-none from to = subst (λ (z : Outgoing × ℕ). Link z.0.acknowledged z.1 z.0.issued []) (λ i. (sym (nothing-issued (setups from).shards to) i, sym (nothing-accepted (setups to).shards from) i)) (omega arith, omega arith, refl)

pub in-order : TransfersInOrder
in-order setups W whole front rest is from to =
    let l = linked-all setups [] front W whole rest is (linked-none setups) from to in
    let o = outgoing_to (content_at setups front from).outgoing to in
    let c = accepted_from (content_at setups front to).accepted from in (
      subst (Starts (take o.acknowledged o.issued)) (sym l.2) (take-starts o.acknowledged c o.issued l.0),
      subst (λ (z : Ts). Starts z o.issued) (sym l.2) (take-whole c o.issued),
    )
