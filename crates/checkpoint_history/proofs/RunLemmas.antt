-- In a run from contents in order, what is acknowledged is accepted, what is accepted is issued, and what was accepted since the
-- start is what was issued under the next numbers.
use Rattle.std.proofs.Common.{◌≡◌, ◌≢◌, ◌⊎◌, inl, inr, ⊎_elim, ℕ, zero, suc, ◌+◌, ◌-◌, ◌≤◌, eqb, Bool, true, false, cond, List, [], ◌∷◌, ◌++◌, length, refl, sym, ap, ◌∙◌, subst, arith, append_assoc, append-nil, length-append, eq-eqb, ne_eqb, Some}
use Rattle.std.proofs.lemmas.List.{drop-append-le}
use Rattle.std.proofs.lemmas.Option.{slice_get_within}
use Rattle.std.specs.Prelude.{drop, slice_get}
use mathlib.Core.Logic.{dite}
use native.Mathlib.Decide.{ℕ_discrete}
use Rattle.gate.specs.Records.{Begins, replay}
use Rattle.gate.proofs.Growth.{replay-snoc}
use Rattle.service_model_types.specs.declared.content.Content.{Content}
use Rattle.service_model_types.specs.declared.transfer.TransferContent.{TransferContent}
use Rattle.service_model.specs.Counts.{outgoing_to}
use Rattle.service_model.specs.Deliveries.{accepted_from}
use Rattle.service_model.specs.GroundGrowth.{outcome-issued}
use Rattle.service_model.specs.Service.{Entry, after, moment_of, outcome}
use Rattle.service_model.specs.TransferLaws.{AcceptsNext}
use Rattle.service_model.specs.WholeRuns.{Whole, on, Holds, Accepted, Grounded, delivered, accepted_in, all_accepted}
use Rattle.checkpoint_history.specs.Orders.{IsInOrder, TransfersGoOn, accepted, acknowledged, accepted_since, contents_after, issued}
use Rattle.checkpoint_history.proofs.StepCounts.{accepts-step, CountsNext, counts-step}

abbrev Ts : Type 0
Ts = List TransferContent

-- so many are acknowledged and so many accepted, these were issued and these accepted since the start, at which so many
-- were accepted and these issued
record Link (c₀ : ℕ) (before : Ts) (a c : ℕ) (all got : Ts) : Type 0 where
  few : a ≤ c
  there : c ≤ length all
  count : c ≡ c₀ + length got
  since : Begins got (drop c₀ all)
  kept : Begins before all

-- what stands at a place after the first ones
at-drop : (k n m : ℕ) (xs : Ts) (x : TransferContent) → n ≡ k + m → slice_get xs n ≡ Some x → slice_get (drop k xs) m ≡ Some x
at-drop zero n m xs x e g = let same : n ≡ m = omega (arith, e) in subst (λ j. slice_get xs j ≡ Some x) same g
at-drop (suc k) n m [] x e g = absurd (cc g)
at-drop (suc k) zero m (y ∷ xs) x e g = absurd (omega (arith, e))
at-drop (suc k) (suc n) m (y ∷ xs) x e g = at-drop k n m xs x (omega (arith, e)) g

-- what stands after a list is the first of the rest
at-rest : (got rest : Ts) (n : ℕ) (x : TransferContent) → n ≡ length got → slice_get (got ++ rest) n ≡ Some x → (left : Ts) × (rest ≡ x ∷ left)
at-rest [] [] n x e g = absurd (cc g)
at-rest [] (y ∷ rest) n x e g =
    let first : slice_get (y ∷ rest) 0 ≡ Some x = subst (λ j. slice_get (y ∷ rest) j ≡ Some x) e g in
    let same : y ≡ x = cc first in (rest, ap (λ (z : TransferContent). z ∷ rest) same)
at-rest (z ∷ got) rest zero x e g = absurd (omega (arith, e))
at-rest (z ∷ got) rest (suc n) x e g = at-rest got rest n x (omega (arith, e)) g

begins-more : (xs ys more : Ts) → Begins xs ys → Begins xs (ys ++ more)
begins-more xs ys more h = (h.0 ++ more, ap (λ (z : Ts). z ++ more) h.1 ∙ append_assoc xs h.0 more)

-- the count of accepted ones stayed, or the next one was accepted, which was issued under the next number
abbrev Takes : (c c' : ℕ) (all got got' : Ts) → Type 0
Takes c c' all got got' = ((c' ≡ c) × (got' ≡ got)) ⊎ ((x : TransferContent) × (c' ≡ c + 1) × (got' ≡ got ++ x ∷ []) × (slice_get all c ≡ Some x))

-- what a step does to a link
module _ (c₀ : ℕ) (before : Ts) (a a' c c' : ℕ) (all all' got got' : Ts) (h : Link c₀ before a c all got) (more : Ts) (grew : all' ≡ all ++ more) where
  longer : length all ≤ length all'
  longer = let e = ap length grew in let f = length-append all more in omega (arith, e, f)

  begun : c₀ ≤ length all
  begun = let l = h.there in let e = h.count in omega (arith, l, e)

  dropped : drop c₀ all' ≡ drop c₀ all ++ more
  dropped = ap (drop c₀) grew ∙ drop-append-le c₀ all more begun

  kept-on : Begins before all'
  kept-on = subst (Begins before) (sym grew) (begins-more before all more h.kept)

  link-stays : a' ≤ c → c' ≡ c → got' ≡ got → Link c₀ before a' c' all' got'
  link-stays few e same = record {
    few = omega (arith, e, few);
    there = (let l = h.there in let m = longer in omega (arith, e, l, m));
    count = (let n = h.count in let k = ap length same in omega (arith, e, n, k));
    since = subst (λ (z : Ts). Begins z (drop c₀ all')) (sym same) (subst (Begins got) (sym dropped) (begins-more got (drop c₀ all) more h.since));
    kept = kept-on;
  }

  link-takes : a' ≤ c → (x : TransferContent) → c' ≡ c + 1 → got' ≡ got ++ x ∷ [] → slice_get all c ≡ Some x → Link c₀ before a' c' all' got'
  link-takes few x e same there =
      let next : slice_get (got ++ h.since.0) (length got) ≡ Some x = subst (λ (z : Ts). slice_get z (length got) ≡ Some x) h.since.1 (at-drop c₀ c (length got) all x h.count there) in
      let left = at-rest got h.since.0 (length got) x refl next in
      let long : length (got ++ x ∷ []) ≡ length got + 1 = length-append got (x ∷ []) in
      let now : Begins (got ++ x ∷ []) (drop c₀ all) = (left.0, h.since.1 ∙ ap (λ (z : Ts). got ++ z) left.1 ∙ sym (append_assoc got (x ∷ []) left.0)) in record {
        few = omega (arith, e, few);
        there = (let l = slice_get_within all c x there in let m = longer in omega (arith, e, l, m));
        count = (let n = h.count in let k = ap length same in omega (arith, e, n, k, long));
        since = subst (λ (z : Ts). Begins z (drop c₀ all')) (sym same) (subst (Begins (got ++ x ∷ [])) (sym dropped) (begins-more (got ++ x ∷ []) (drop c₀ all) more now));
        kept = kept-on;
      }

link-step : (c₀ : ℕ) (before : Ts) (a a' c c' : ℕ) (all all' got got' : Ts) → Link c₀ before a c all got → ((a' ≡ a) ⊎ (a' ≤ c)) → Takes c c' all got got' → Begins all all' → Link c₀ before a' c' all' got'
link-step c₀ before a a' c c' all all' got got' h acked taken grew =
    let few : a' ≤ c = ⊎_elim (λ (e : a' ≡ a). let l = h.few in omega (arith, e, l)) (λ (l : a' ≤ c). l) acked in
    ⊎_elim
    (λ (t : (c' ≡ c) × (got' ≡ got)). link-stays c₀ before a a' c c' all all' got got' h grew.0 grew.1 few t.0 t.1)
    (λ (t : (x : TransferContent) × (c' ≡ c + 1) × (got' ≡ got ++ x ∷ []) × (slice_get all c ≡ Some x)). link-takes c₀ before a a' c c' all all' got got' h grew.0 grew.1 few t.0 t.1 t.2 t.3)
    taken

-- a step more on a shard, and on another
on-here : (s : ℕ) (e : Entry) (W : Whole) → on s (W ++ (s, e) ∷ []) ≡ on s W ++ e ∷ []
on-here s e [] = ap (λ (t : Bool). cond t (e ∷ []) []) (eq-eqb s s refl)
on-here s e (x ∷ W) = go (on-here s e W) (eqb s x.0)
  where
    go : on s (W ++ (s, e) ∷ []) ≡ on s W ++ e ∷ [] → (t : Bool) → cond t (x.1 ∷ on s (W ++ (s, e) ∷ [])) (on s (W ++ (s, e) ∷ [])) ≡ cond t (x.1 ∷ on s W) (on s W) ++ e ∷ []
    go h true = ap (λ (l : List Entry). x.1 ∷ l) h
    go h false = h

on-else : (j s : ℕ) (e : Entry) (W : Whole) → j ≢ s → on j (W ++ (s, e) ∷ []) ≡ on j W
on-else j s e [] ne = ap (λ (t : Bool). cond t (e ∷ []) []) (ne_eqb j s ne)
on-else j s e (x ∷ W) ne = go (on-else j s e W ne) (eqb j x.0)
  where
    go : on j (W ++ (s, e) ∷ []) ≡ on j W → (t : Bool) → cond t (x.1 ∷ on j (W ++ (s, e) ∷ [])) (on j (W ++ (s, e) ∷ [])) ≡ cond t (x.1 ∷ on j W) (on j W)
    go h true = ap (λ (l : List Entry). x.1 ∷ l) h
    go h false = h

accepted-more : (S : Content) (from : ℕ) (R : List Entry) (e : Entry) → all_accepted S from (R ++ e ∷ []) ≡ all_accepted S from R ++ accepted_in (replay after S R) from e.request
accepted-more S from [] e = append-nil (accepted_in S from e.request)
accepted-more S from (x ∷ R) e = ap (λ (l : Ts). accepted_in S from x.request ++ l) (accepted-more (after S x.request) from R e) ∙ sym (append_assoc (accepted_in S from x.request) (all_accepted (after S x.request) from R) (accepted_in (replay after (after S x.request) R) from e.request))

issued-more : (S : Content) (e : Entry) (to : ℕ) → Begins (outgoing_to S.outgoing to).issued (outgoing_to (after S e.request).outgoing to).issued
unfolding after
issued-more S e to = outcome-issued S (moment_of S e.request.at) (outcome S (moment_of S e.request.at) e.request.operation) to

module _ (starts : ℕ → Content) (from to : ℕ) where
  abbrev At : Whole → ℕ → Content
  At W s = contents_after starts W s

  abbrev Linked : Whole → Type 0
  Linked W = Link (accepted starts from to) (issued starts from to) (acknowledged (contents_after starts W) from to) (accepted (contents_after starts W) from to) (issued (contents_after starts W) from to) (accepted_since starts W from to)

  module _ (W : Whole) (s : ℕ) (e : Entry) where
    abbrev W' : Whole
    W' = W ++ (s, e) ∷ []

    at-here : At W' s ≡ after (At W s) e.request
    at-here = ap (replay after (starts s)) (on-here s e W) ∙ replay-snoc after (starts s) (on s W) e

    at-else : (j : ℕ) → j ≢ s → At W' j ≡ At W j
    at-else j ne = ap (replay after (starts j)) (on-else j s e W ne)

    abbrev acked : Whole → ℕ → ℕ
    acked V j = acknowledged (contents_after starts V) j to

    acks : Grounded (At W) s e.request.operation → (acked W' from ≡ acked W from) ⊎ (acked W' from ≤ accepted (contents_after starts W) from to)
    acks grounds = dite (ℕ_discrete from s)
        (λ here. subst (λ (j : ℕ). (acked W' j ≡ acked W j) ⊎ (acked W' j ≤ accepted (contents_after starts W) j to)) (sym here)
        (subst (λ (C : Content). ((outgoing_to C.outgoing to).acknowledged ≡ acked W s) ⊎ ((outgoing_to C.outgoing to).acknowledged ≤ accepted (contents_after starts W) s to)) (sym at-here) (told (counts-step (At W s) e.request to))))
        (λ other. inl (ap (λ (C : Content). (outgoing_to C.outgoing to).acknowledged) (at-else from other)))
      where
        told : let n = (outgoing_to (after (At W s) e.request).outgoing to).acknowledged in (n ≡ acked W s) ⊎ CountsNext e.request.operation to n → (n ≡ acked W s) ⊎ (n ≤ accepted (contents_after starts W) s to)
        told (inl h) = inl h
        told (inr h) = let g : Accepted s h.counted (At W h.counted.to) = subst (Grounded (At W) s) h.asked grounds in
            let small : h.counted.number ≤ accepted (contents_after starts W) s to = subst (λ (j : ℕ). h.counted.number ≤ accepted (contents_after starts W) s j) h.destination g.1 in
            let n = h.next in inr (omega (arith, n, small))

    abbrev Took : ℕ → Type 0
    Took j = Takes (accepted (contents_after starts W) from j) (accepted (contents_after starts W') from j) (issued (contents_after starts W) from j) (accepted_since starts W from j) (accepted_since starts W' from j)

    takes : Grounded (At W) s e.request.operation → Took to
    takes grounds = dite (ℕ_discrete to s)
        (λ here. subst Took (sym here) (told (accepts-step (At W s) e.request from)))
        (λ other. inl (ap (λ (C : Content). accepted_from C.accepted from) (at-else to other), ap (all_accepted (starts to) from) (on-else to s e W other)))
      where
        got : Whole → Ts
        got V = accepted_since starts V from s

        had : ℕ
        had = accepted (contents_after starts W) from s

        more : accepted_since starts W' from s ≡ accepted_since starts W from s ++ accepted_in (At W s) from e.request
        more = ap (all_accepted (starts s) from) (on-here s e W) ∙ accepted-more (starts s) from (on s W) e

        count : accepted (contents_after starts W') from s ≡ accepted_from (after (At W s) e.request).accepted from
        count = ap (λ (C : Content). accepted_from C.accepted from) at-here

        told : (accepted_from (after (At W s) e.request).accepted from ≡ accepted_from (At W s).accepted from) ⊎ AcceptsNext (At W s) e.request from → Took s
        told (inl h) = inl (count ∙ h, more ∙ (ap (λ (b : Bool). accepted_since starts W from s ++ delivered b e.request.operation) (eq-eqb (accepted_from (after (At W s) e.request).accepted from) (accepted_from (At W s).accepted from) h) ∙ append-nil (accepted_since starts W from s)))
        told (inr h) =
            let t = h.transfer in let n = h.next in let c = h.accepted in
            let moved : accepted_from (after (At W s) e.request).accepted from ≡ accepted (contents_after starts W) from s + 1 = c ∙ n in
            let apart : accepted_from (after (At W s) e.request).accepted from ≢ accepted_from (At W s).accepted from = (λ z. absurd (omega (arith, z, moved))) in
            let g : Holds s t (At W t.from) = subst (Grounded (At W) s) h.asked grounds in
            let place : t.number - 1 ≡ accepted (contents_after starts W) from s = omega (arith, n) in
            inr (
              t.content,
              count ∙ moved,
              more ∙ (λ i. accepted_since starts W from s ++ delivered (ne_eqb (accepted_from (after (At W s) e.request).accepted from) (accepted_from (At W s).accepted from) apart i) (h.asked i)),
              subst (λ (z : ℕ × ℕ). slice_get (issued (contents_after starts W) z.0 s) z.1 ≡ Some t.content) (λ i. (h.source i, place i)) g.1,
            )

    issues : Begins (issued (contents_after starts W) from to) (issued (contents_after starts W') from to)
    issues = dite (ℕ_discrete from s)
        (λ here. subst (λ (j : ℕ). Begins (issued (contents_after starts W) j to) (issued (contents_after starts W') j to)) (sym here) (let h = issued-more (At W s) e to in (h.0, ap (λ (C : Content). (outgoing_to C.outgoing to).issued) at-here ∙ h.1)))
        (λ other. ([], ap (λ (C : Content). (outgoing_to C.outgoing to).issued) (at-else from other) ∙ sym (append-nil (issued (contents_after starts W) from to))))

    linked-more : Linked W → Grounded (At W) s e.request.operation → Linked W'
    linked-more h grounds = link-step _ _ _ _ _ _ _ _ _ _ h (acks grounds) (takes grounds) issues

  -- step by step
  linked-all : (done rest whole : Whole) → ((front more : Whole) (s : ℕ) (e : Entry) → whole ≡ front ++ (s, e) ∷ more → Grounded (At front) s e.request.operation) → (tail : Whole) → whole ≡ done ++ (rest ++ tail) → Linked done → Linked (done ++ rest)
  linked-all done [] whole all tail is h = subst Linked (sym (append-nil done)) h
  linked-all done ((s, e) ∷ rest) whole all tail is h =
      let next : Linked (done ++ (s, e) ∷ []) = linked-more done s e h (all done (rest ++ tail) s e is) in
      subst Linked (append_assoc done ((s, e) ∷ []) rest) (linked-all (done ++ (s, e) ∷ []) rest whole all tail (is ∙ sym (append_assoc done ((s, e) ∷ []) (rest ++ tail))) next)

  linked-none : IsInOrder starts from to → Linked []
  linked-none h = record { few = h.0; there = h.1; count = omega arith; since = (drop (accepted starts from to) (issued starts from to), refl); kept = ([], sym (append-nil (issued starts from to))) }

pub goes-on : TransfersGoOn
goes-on starts W whole from to ordered front rest is =
    let l = linked-all starts from to [] front W whole rest is (linked-none starts from to ordered) in
    record { in_order = (l.few, l.there); kept = l.kept; since = l.since; counted = l.count }
