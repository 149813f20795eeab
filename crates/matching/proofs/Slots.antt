-- What is done with the passes of all queues, slot by slot.
use Rattle.std.proofs.Common.{◌≡◌, ◌⊎◌, inl, inr, ⊎_elim, ℕ, zero, suc, ◌+◌, ◌<◌, ◌≤◌, List, [], ◌∷◌, map, length, refl, sym, ap, ◌∙◌, subst, ◌≢◌, le_refl, lt_of_not-le, arith, Some, get_or-set_same, get_or-set_other}
use mathlib.Core.Logic.{dite}
use native.Mathlib.Decide.{dec_le}
use Rattle.std.specs.Prelude.{slice_get, slice_set}
use lib.ListN.{length-map}
use Rattle.std.proofs.lemmas.Option.{slice_get_within}
use Rattle.matching.specs.declared.view.View.{View}
use Rattle.matching.specs.declared.queue.HintQueue.{HintQueue}
use Rattle.matching.specs.declared.queue.HintPass.{HintPass}
use Rattle.matching.specs.declared.queues.Queues.{Queues}
use Rattle.matching.specs.declared.queues.QueuesPass.{QueuesPass}
use Rattle.matching.specs.Meetings.{Agree}
use Rattle.matching.specs.PassSteps.{nobody}
use Rattle.matching.specs.Queues as one
use Rattle.matching.specs.Named.{at, IsPassOf}
use Rattle.matching.proofs.Laying.{set_get, length-put, same_there}
use Rattle.matching.proofs.Places.{at-map, map-set}

-- the pass has a new pass of the queue in a slot
pub own_set : (x : Queues) (p p' : QueuesPass) (s : ℕ) (q : HintQueue) (r : HintPass) → p'.passes.items ≡ slice_set p.passes.items s r → slice_get x.queues.items s ≡ Some q → one.IsPassOf r q → IsPassOf p x → IsPassOf p' x
own_set x p p' s q r is here own h = record {
  even = h.even;
  width = ap length is ∙ (length-put p.passes.items s r ∙ h.width);
  rooms = h.rooms;
  own = λ j a b ea eb. ⊎_elim
      (λ (t : (j ≡ s) × (r ≡ b)). subst (λ (z : HintPass × HintQueue). one.IsPassOf z.0 z.1) (λ i. (t.1 i, same_there x.queues.items s q a here (ap (slice_get x.queues.items) (sym t.0) ∙ ea) i)) own)
      (λ t. h.own j a b ea t.1)
      (set_get p.passes.items s j r b (ap (λ (l : List HintPass). slice_get l j) (sym is) ∙ eb));
}

pub at-here : (vs : List View) (s : ℕ) (u : View) → s < length vs → at (slice_set vs s u) s ≡ u
at-here vs s u l = get_or-set_same vs s u nobody l

pub at-else : (vs : List View) (s j : ℕ) (u : View) → j ≢ s → at (slice_set vs s u) j ≡ at vs j
at-else vs s j u ne = get_or-set_other vs s j u nobody ne

-- the first n queues' passes met
pub record PartlyMet (n : ℕ) (a b c d : List View) : Type 0 where
  pub first : length c ≡ length a
  pub second : length d ≡ length b
  pub done : (s : ℕ) → s < n → Agree (at a s) (at b s) (at c s) (at d s)
  pub left : (s : ℕ) → n ≤ s → (at c s ≡ at a s) × (at d s ≡ at b s)

pub partly_more : (n : ℕ) (a b c d : List View) (u v : View) → n < length c → n < length d → Agree (at c n) (at d n) u v → PartlyMet n a b c d → PartlyMet (n + 1) a b (slice_set c n u) (slice_set d n v)
partly_more n a b c d u v lc ld agree h = record {
  first = length-put c n u ∙ h.first;
  second = length-put d n v ∙ h.second;
  done = λ s l. ⊎_elim (λ (e : s ≡ n). here s e) (λ (k : s < n). there s k) (split s l);
  left = λ s l. let ne : s ≢ n = (λ e. absurd (omega (arith, l, e))) in let old = h.left s (omega (arith, l)) in (at-else c n s u ne ∙ old.0, at-else d n s v ne ∙ old.1);
}
  where
    split : (s : ℕ) → s < n + 1 → (s ≡ n) ⊎ (s < n)
    split s l = dite (dec_le n s) (λ le. inl (omega arith)) (λ not. inr (lt_of_not-le not))

    here : (s : ℕ) → s ≡ n → Agree (at a s) (at b s) (at (slice_set c n u) s) (at (slice_set d n v) s)
    here s e = subst (λ (z : ℕ). Agree (at a z) (at b z) (at (slice_set c n u) z) (at (slice_set d n v) z)) (sym e)
        (subst (λ (z : (View × View) × (View × View)). Agree z.0.0 z.0.1 z.1.0 z.1.1) (λ i. (((h.left n (le_refl n)).0 i, (h.left n (le_refl n)).1 i), (sym (at-here c n u lc) i, sym (at-here d n v ld) i))) agree)

    there : (s : ℕ) → s < n → Agree (at a s) (at b s) (at (slice_set c n u) s) (at (slice_set d n v) s)
    there s l = let ne : s ≢ n = (λ e. absurd (omega (arith, l, e))) in
        subst (λ (z : View × View). Agree (at a s) (at b s) z.0 z.1) (λ i. (sym (at-else c n s u ne) i, sym (at-else d n s v ne) i)) (h.done s l)

-- the next queue's passes met
pub met_slot : (n : ℕ) (a b : List View) (ps qs : List HintPass) (p q p' q' : HintPass) → slice_get ps n ≡ Some p → slice_get qs n ≡ Some q → Agree (one.known_by p) (one.known_by q) (one.known_by p') (one.known_by q')
    → PartlyMet n a b (map one.known_by ps) (map one.known_by qs) → PartlyMet (n + 1) a b (map one.known_by (slice_set ps n p')) (map one.known_by (slice_set qs n q'))
met_slot n a b ps qs p q p' q' is_p is_q agree h =
    subst (λ (z : List View × List View). PartlyMet (n + 1) a b z.0 z.1) (λ i. (sym (map-set ps n p') i, sym (map-set qs n q') i))
    (partly_more n a b (map one.known_by ps) (map one.known_by qs) (one.known_by p') (one.known_by q') (inside ps p is_p) (inside qs q is_q)
    (subst (λ (z : View × View). Agree z.0 z.1 (one.known_by p') (one.known_by q')) (λ i. (sym (at-map ps n p is_p) i, sym (at-map qs n q is_q) i)) agree) h)
  where
    inside : (xs : List HintPass) (x : HintPass) → slice_get xs n ≡ Some x → n < length (map one.known_by xs)
    inside xs x e = let l = slice_get_within xs n x e in let k = length-map xs one.known_by in omega arith

-- a pass that knows what it knew
pub kept : (ps : List HintPass) (s : ℕ) (p p' : HintPass) → slice_get ps s ≡ Some p → one.known_by p' ≡ one.known_by p → map one.known_by (slice_set ps s p') ≡ map one.known_by ps
kept ps s p p' is same = map-set ps s p' ∙ (ap (slice_set (map one.known_by ps) s) (same ∙ sym (at-map ps s p is)) ∙ set-same (map one.known_by ps) s)
  where
    set-same : (vs : List View) (s : ℕ) → slice_set vs s (at vs s) ≡ vs
    set-same [] s = refl
    set-same (v ∷ vs) zero = refl
    set-same (v ∷ vs) (suc s) = ap (λ t. v ∷ t) (set-same vs s)

-- what holds of the first n and of the next
pub next_too : (P : ℕ → Type 0) (n : ℕ) → ((s : ℕ) → s < n → P s) → P n → (s : ℕ) → s < n + 1 → P s
next_too P n all last s l = dite (dec_le n s) (λ le. subst P (let e : n ≡ s = omega (arith, l, le) in e) last) (λ not. all s (lt_of_not-le not))
