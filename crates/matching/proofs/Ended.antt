-- What is known once all passes were handed in.
use Rattle.std.proofs.Common.{◌≡◌, ◌⊎◌, inl, inr, ⊎_elim, ℕ, zero, suc, ◌+◌, ◌<◌, ◌≤◌, List, [], ◌∷◌, map, length, refl, sym, ap, ◌∙◌, subst, arith, Some, append-nil}
use mathlib.Core.Option.{some}
use lib.ListN.{get_elem?, length-map}
use Rattle.std.specs.Prelude.{slice_get, slice_set}
use Rattle.std.proofs.lemmas.Option.{slice_get_within}
use Rattle.atomic_table.proofs.Lists.{at_longer, at_last}
use Rattle.service_model_types.specs.declared.request.Hint.{Hint}
use Rattle.matching.specs.declared.view.Part.{Part}
use Rattle.matching.specs.declared.view.View.{View}
use Rattle.matching.specs.declared.queue.HintPass.{HintPass}
use Rattle.matching.specs.declared.queues.Queues.{Queues}
use Rattle.matching.specs.declared.queues.QueuesPass.{QueuesPass}
use Rattle.matching.specs.Entries.{by_first}
use Rattle.matching.specs.AtClose.{part_of, HasDone, IsEnd}
use Rattle.matching.specs.Rule.{IsLast}
use Rattle.matching.specs.ToldHints.{taken_in}
use Rattle.matching.specs.Queues as one
use Rattle.matching.specs.Named.{at, known_by, held_of, held_at, given_of, parts_at, IsPassOf}
use Rattle.matching.proofs.Entries.{hints-first}
use Rattle.matching.proofs.Laying.{length-put, there}
use Rattle.matching.proofs.Places.{at-map, held-map, map-set}
use Rattle.matching.proofs.Slots.{at-here, at-else, next_too}

-- the pass w is v, as far as its part goes, or has taken it in
abbrev pub HasTaken : View → View → Type 0
HasTaken w v = (part_of w ≡ part_of v) ⊎ ((i : ℕ) × (get_elem? w.handed i ≡ some (part_of v)))

has_more : (w w' u v : View) → w' ≡ taken_in w u → HasTaken w v → HasTaken w' v
has_more w w' u v is h = subst (λ (z : View). HasTaken z v) (sym is)
    (⊎_elim (λ (t : part_of w ≡ part_of v). inl t) (λ t. inr (t.0, at_longer w.handed (part_of u ∷ []) t.0 (part_of v) t.1)) h)

has_new : (w w' u : View) → w' ≡ taken_in w u → HasTaken w' u
has_new w w' u is = subst (λ (z : View). HasTaken z u) (sym is) (inr (length w.handed, at_last w.handed (part_of u) (length w.handed) refl))

-- of each of the first n queues the pass has taken in another
abbrev pub AllTaken : ℕ → List View → List View → Type 0
AllTaken n last p = (s : ℕ) → s < n → HasTaken (at last s) (at p s)

pub taken_self : (n : ℕ) (vs : List View) → AllTaken n vs vs
taken_self n vs s l = inl refl

pub taken_more : (n : ℕ) (last last' u v : List View) → ((s : ℕ) → s < n → at last' s ≡ taken_in (at last s) (at u s)) → AllTaken n last v → AllTaken n last' v
taken_more n last last' u v is h s l = has_more (at last s) (at last' s) (at u s) (at v s) (is s l) (h s l)

pub taken_new : (n : ℕ) (last last' u : List View) → ((s : ℕ) → s < n → at last' s ≡ taken_in (at last s) (at u s)) → AllTaken n last' u
taken_new n last last' u is s l = has_new (at last s) (at last' s) (at u s) (is s l)

-- the first n queues' passes were handed in
pub record PartlyTaken (n : ℕ) (a w b : List View) : Type 0 where
  pub count : length b ≡ length a
  pub done : (s : ℕ) → s < n → at b s ≡ taken_in (at a s) (at w s)
  pub left : (s : ℕ) → n ≤ s → at b s ≡ at a s

pub taken_slot : (n : ℕ) (a : List View) (os ps : List HintPass) (r p p' : HintPass) → slice_get os n ≡ Some r → slice_get ps n ≡ Some p → one.known_by p' ≡ taken_in (one.known_by p) (one.known_by r)
    → PartlyTaken n a (map one.known_by os) (map one.known_by ps) → PartlyTaken (n + 1) a (map one.known_by os) (map one.known_by (slice_set ps n p'))
taken_slot n a os ps r p p' is_r is_p is h =
    let vs : List View = map one.known_by ps in
    let inside : n < length vs = (let l = slice_get_within ps n p is_p in let k = length-map ps one.known_by in omega arith) in
    subst (λ (z : List View). PartlyTaken (n + 1) a (map one.known_by os) z) (sym (map-set ps n p')) record {
      count = length-put vs n (one.known_by p') ∙ h.count;
      done = next_too (λ s. at (slice_set vs n (one.known_by p')) s ≡ taken_in (at a s) (at (map one.known_by os) s)) n
          (λ s l. at-else vs n s (one.known_by p') (λ e. absurd (omega (arith, l, e))) ∙ h.done s l)
          (at-here vs n (one.known_by p') inside ∙ (is ∙ (λ i. taken_in ((sym (at-map ps n p is_p) ∙ h.left n (let e : n ≤ n = omega arith in e)) i) (sym (at-map os n r is_r) i))));
      left = λ s l. at-else vs n s (one.known_by p') (λ e. absurd (omega (arith, l, e))) ∙ h.left s (omega (arith, l));
    }

-- a queue that was never given a pass
pub unused : (held : List Hint) (given : ℕ) → IsEnd held given []
unused held given = record {
  put = by_first held;
  taken = [];
  more = [];
  opened = sym (append-nil (by_first held));
  waiting = held;
  split = hints-first held;
  given_more = tt;
  given_taken = tt;
  each = λ k t e. absurd (cc e);
}

get-map : {A B : Type 0} (f : A → B) (xs : List A) (k : ℕ) (t : B) → slice_get (map f xs) k ≡ Some t → (x : A) × (slice_get xs k ≡ Some x) × (f x ≡ t)
get-map f [] k t e = absurd (cc e)
get-map f (x ∷ xs) zero t e = (x, refl, cc e)
get-map f (x ∷ xs) (suc k) t e = get-map f xs k t e

-- what a pass knows of a queue's opening
opened_at : (x : Queues) (p : QueuesPass) (s : ℕ) → s < length x.queues.items → IsPassOf p x → ((at (known_by p) s).given ≡ given_of x) × ((at (known_by p) s).opened ≡ held_at (held_of x) s)
opened_at x p s l own =
    let q = there x.queues.items s l in let r = there p.passes.items s (subst (λ (n : ℕ). s < n) (sym own.width) l) in
    let is = own.own s q.0 r.0 q.1 r.1 in let v = at-map p.passes.items s r.0 r.1 in
    (ap (λ (u : View). u.given) v ∙ (is.3 ∙ (own.rooms s q.0 q.1).2), ap (λ (u : View). u.opened) v ∙ (is.4 ∙ sym (held-map x.queues.items s q.0 q.1)))

-- what a queue came to
pub ended : (x : Queues) (passes : List QueuesPass) (last : QueuesPass) (s : ℕ) (waiting : List Hint) → s < length x.queues.items → IsPassOf last x → IsLast (at (known_by last) s) waiting
    → ((k : ℕ) (p : QueuesPass) → slice_get passes k ≡ Some p → HasTaken (at (known_by last) s) (at (known_by p) s)) → IsEnd (held_at (held_of x) s) (given_of x) (parts_at passes s)
ended x passes last s waiting l own h all =
    let v : View = at (known_by last) s in let is = opened_at x last s l own in
    let done : (k : ℕ) (t : Part) → slice_get (parts_at passes s) k ≡ Some t → HasDone t h.put h.taken = λ k t e.
    let p = get-map (λ (y : QueuesPass). part_of (at (known_by y) s)) passes k t e in
    subst (λ (z : Part). HasDone z h.put h.taken) p.2
    (⊎_elim (λ (same : part_of v ≡ part_of (at (known_by p.0) s)). subst (λ (z : Part). HasDone z h.put h.taken) same h.done)
    (λ i. h.handed i.0 (part_of (at (known_by p.0) s)) i.1) (all k p.0 p.1)) in
    subst (λ (z : List Hint × ℕ). IsEnd z.0 z.1 (parts_at passes s)) (λ i. (is.1 i, is.0 i)) record {
      put = h.put;
      taken = h.taken;
      more = h.more;
      opened = h.opened;
      waiting = waiting;
      split = h.split;
      given_more = h.given_more;
      given_taken = h.given_taken;
      each = done;
    }
