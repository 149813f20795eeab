-- steps in the order of their tickets: one step more, and the steps of a history
use Rattle.std.proofs.Common.{◌≡◌, ◌≢◌, ℕ, ◌+◌, ◌<◌, ◌≤◌, zero, suc, List, [], ◌∷◌, ◌++◌, Bool, true, false, Some, refl, sym, ap, ◌∙◌, subst, arith, length, append_assoc, append-nil}
use Rattle.std.specs.Prelude.{slice_get, nat_lt, if◌then◌else◌}
use Rattle.std.proofs.lemmas.Bool.{lt-ltb, le-ltb}
use mathlib.Core.Logic.{dite}
use native.Mathlib.Decide.{ℕ_discrete}
use Rattle.step_record.specs.declared.entry.Entry.{Entry}
use Rattle.gate.specs.Records.{Run, InSlots, on, tickets_from}
use Rattle.gate.specs.Merges.{beside}
use Rattle.gate.proofs.Runs.{on_here, on_else, tickets_here, tickets_else, length-tickets, ticket_below}
use Rattle.history.specs.Merged.{numbered}
use Rattle.history.specs.Merging.{AreBelow}
use Rattle.history.proofs.NumberLemmas.{numbered-push}
use Rattle.script.specs.Sorted.{of_slot, put, put_all, sorted}

module _ {A : Type 0} where
  -- ---- the greatest ticket comes last

  put-behind : (y x : ℕ × (ℕ × A)) (xs : List (ℕ × (ℕ × A))) → y.0 < x.0 → put y (xs ++ x ∷ []) ≡ put y xs ++ x ∷ []
  put-behind y x [] l = ap (λ (b : Bool). if b then y ∷ x ∷ [] else x ∷ y ∷ []) (lt-ltb y.0 x.0 l)
  put-behind y x (z ∷ zs) l = go (nat_lt y.0 z.0) (put-behind y x zs l)
    where
      go : (b : Bool) → put y (zs ++ x ∷ []) ≡ put y zs ++ x ∷ [] → (if b then y ∷ z ∷ (zs ++ x ∷ []) else z ∷ put y (zs ++ x ∷ [])) ≡ (if b then y ∷ z ∷ zs else z ∷ put y zs) ++ x ∷ []
      go true h = refl
      go false h = ap (λ (t : List (ℕ × (ℕ × A))). z ∷ t) h

  put-last : (x : ℕ × (ℕ × A)) (xs : List (ℕ × (ℕ × A))) → AreBelow x.0 xs → put x xs ≡ xs ++ x ∷ []
  put-last x [] low = refl
  put-last x (y ∷ ys) low =
      let first = low.0 in
      ap (λ (b : Bool). if b then x ∷ y ∷ ys else y ∷ put x ys) (le-ltb x.0 y.0 (omega (arith, first)))
      ∙ ap (λ (t : List (ℕ × (ℕ × A))). y ∷ t) (put-last x ys low.1)

  all-behind : (x : ℕ × (ℕ × A)) (P xs : List (ℕ × (ℕ × A))) → AreBelow x.0 P → put_all P (xs ++ x ∷ []) ≡ put_all P xs ++ x ∷ []
  all-behind x [] xs low = refl
  all-behind x (p ∷ P) xs low = ap (put p) (all-behind x P xs low.1) ∙ put-behind p x (put_all P xs) low.0

  all-push : (x : ℕ × (ℕ × A)) (P ys : List (ℕ × (ℕ × A))) → put_all (P ++ x ∷ []) ys ≡ put_all P (put x ys)
  all-push x [] ys = refl
  all-push x (p ∷ P) ys = ap (put p) (all-push x P ys)

  slot-push : (k : ℕ) (ps : List (ℕ × A)) (p : ℕ × A) → of_slot k (ps ++ p ∷ []) ≡ of_slot k ps ++ (p.0, (k, p.1)) ∷ []
  slot-push k [] p = refl
  slot-push k (q ∷ ps) p = ap (λ (t : List (ℕ × (ℕ × A))). (q.0, (k, q.1)) ∷ t) (slot-push k ps p)

  -- ---- which tickets there are

  below-put : (t : ℕ) (y : ℕ × (ℕ × A)) (xs : List (ℕ × (ℕ × A))) → y.0 < t → AreBelow t xs → AreBelow t (put y xs)
  below-put t y [] l low = (l, tt)
  below-put t y (z ∷ zs) l low = go (nat_lt y.0 z.0) (below-put t y zs l low.1)
    where
      go : (b : Bool) → AreBelow t (put y zs) → AreBelow t (if b then y ∷ z ∷ zs else z ∷ put y zs)
      go true h = (l, low)
      go false h = (low.0, h)

  below-all : (t : ℕ) (P xs : List (ℕ × (ℕ × A))) → AreBelow t P → AreBelow t xs → AreBelow t (put_all P xs)
  below-all t [] xs high low = low
  below-all t (p ∷ P) xs high low = below-put t p (put_all P xs) high.0 (below-all t P xs high.1 low)

  below-sorted : (t : ℕ) (f : ℕ → List (ℕ × A)) (n m : ℕ) → ((k : ℕ) → k < n + m → AreBelow t (of_slot k (f k))) → AreBelow t (sorted f n m)
  below-sorted t f n zero low = tt
  below-sorted t f n (suc m) low = below-all t (of_slot n (f n)) (sorted f (n + 1) m) (low n (omega arith)) (below-sorted t f (n + 1) m (λ k l. low k (omega (arith, l))))

  pub below-beside : (t k : ℕ) (ts : List ℕ) (es : List A) → ((i u : ℕ) → slice_get ts i ≡ Some u → u < t) → AreBelow t (of_slot k (beside ts es))
  below-beside t k [] es low = tt
  below-beside t k (u ∷ ts) [] low = tt
  below-beside t k (u ∷ ts) (e ∷ es) low = (low 0 u refl, below-beside t k ts es (λ i v is. low (suc i) v is))

  -- a ticket and an entry more
  pub beside-push : (ts : List ℕ) (es : List A) (t : ℕ) (e : A) → length ts ≡ length es → beside (ts ++ t ∷ []) (es ++ e ∷ []) ≡ beside ts es ++ (t, e) ∷ []
  beside-push [] [] t e same = refl
  beside-push [] (f ∷ es) t e same = absurd (omega (arith, same))
  beside-push (u ∷ ts) [] t e same = absurd (omega (arith, same))
  beside-push (u ∷ ts) (f ∷ es) t e same = ap (λ (l : List (ℕ × A)). (u, f) ∷ l) (beside-push ts es t e (omega (arith, same)))

  -- ---- slots

  pub sorted-same : (f g : ℕ → List (ℕ × A)) (n m : ℕ) → ((k : ℕ) → n ≤ k → k < n + m → g k ≡ f k) → sorted g n m ≡ sorted f n m
  sorted-same f g n zero same = refl
  sorted-same f g n (suc m) same =
      ap (λ (ps : List (ℕ × A)). put_all (of_slot n ps) (sorted g (n + 1) m)) (same n (omega arith) (omega arith))
      ∙ ap (put_all (of_slot n (f n))) (sorted-same f g (n + 1) m (λ k low l. same k (omega (arith, low)) (omega (arith, l))))

  pub sorted-none : (f : ℕ → List (ℕ × A)) (n m : ℕ) → ((k : ℕ) → f k ≡ []) → sorted f n m ≡ []
  sorted-none f n zero none = refl
  sorted-none f n (suc m) none = ap (λ (ps : List (ℕ × A)). put_all (of_slot n ps) (sorted f (n + 1) m)) (none n) ∙ sorted-none f (n + 1) m none

  module _ (f g : ℕ → List (ℕ × A)) (p : ℕ × A) where
    push-first : (n m : ℕ) → g n ≡ f n ++ p ∷ [] → ((k : ℕ) → k ≢ n → g k ≡ f k) → ((k : ℕ) → k < n + suc m → AreBelow p.0 (of_slot k (f k)))
        → sorted g n (suc m) ≡ sorted f n (suc m) ++ (p.0, (n, p.1)) ∷ []
    push-first n m here others low =
        let x : ℕ × (ℕ × A) = (p.0, (n, p.1)) in
        let F = of_slot n (f n) in
        let rest = sorted f (n + 1) m in
        ap (λ (ps : List (ℕ × A)). put_all (of_slot n ps) (sorted g (n + 1) m)) here
        ∙ ap (put_all (of_slot n (f n ++ p ∷ []))) (sorted-same f g (n + 1) m (λ k after l. others k (λ e. omega (arith, e, after))))
        ∙ ap (λ (xs : List (ℕ × (ℕ × A))). put_all xs rest) (slot-push n (f n) p)
        ∙ all-push x F rest
        ∙ ap (put_all F) (put-last x rest (below-sorted p.0 f (n + 1) m (λ k l. low k (omega (arith, l)))))
        ∙ all-behind x F rest (low n (omega arith))

    -- the greatest ticket, of a slot that is there
    pub sorted-push : (s n m : ℕ) → n ≤ s → s < n + m → g s ≡ f s ++ p ∷ [] → ((k : ℕ) → k ≢ s → g k ≡ f k) → ((k : ℕ) → k < n + m → AreBelow p.0 (of_slot k (f k)))
        → sorted g n m ≡ sorted f n m ++ (p.0, (s, p.1)) ∷ []
    sorted-push s n zero from to here others low = absurd (omega (arith, from, to))
    sorted-push s n (suc m) from to here others low = dite (ℕ_discrete n s)
        (λ e.
        let P : ℕ → Type 0 = λ j. g j ≡ f j ++ p ∷ [] → ((k : ℕ) → k ≢ j → g k ≡ f k) → sorted g n (suc m) ≡ sorted f n (suc m) ++ (p.0, (j, p.1)) ∷ [] in
        subst P e (λ h o. push-first n m h o low) here others)
        (λ ne.
        let rest = sorted f (n + 1) m in
        ap (λ (ps : List (ℕ × A)). put_all (of_slot n ps) (sorted g (n + 1) m)) (others n ne)
        ∙ ap (put_all (of_slot n (f n))) (sorted-push s (n + 1) m (omega (arith, from, ne)) (omega (arith, to)) here others (λ k l. low k (omega (arith, l))))
        ∙ all-behind (p.0, (s, p.1)) (of_slot n (f n)) rest (low n (omega arith)))

-- ---- the steps of a history

module _ {Q : Type 0} (N : ℕ) where
  -- the entries of a slot, with their tickets
  abbrev pub parts : Run Q → ℕ → List (ℕ × Entry Q)
  parts xs k = beside (tickets_from 1 k xs) (on k xs)

  abbrev IsSorted : Run Q → Type 0
  IsSorted xs = sorted (parts xs) 0 N ≡ numbered 1 xs

  one-more : (xs : Run Q) (x : ℕ × Entry Q) → x.0 < N → IsSorted xs → IsSorted (xs ++ x ∷ [])
  one-more xs x there is =
      let t : ℕ = 1 + length xs in
      let more = xs ++ x ∷ [] in
      let here : parts more x.0 ≡ parts xs x.0 ++ (t, x.1) ∷ [] =
      ap (λ (ts : List ℕ). beside ts (on x.0 more)) (tickets_here 1 x.0 x.1 xs)
      ∙ ap (beside (tickets_from 1 x.0 xs ++ t ∷ [])) (on_here x.0 x.1 xs)
      ∙ beside-push (tickets_from 1 x.0 xs) (on x.0 xs) t x.1 (length-tickets 1 x.0 xs) in
      let others : (k : ℕ) → k ≢ x.0 → parts more k ≡ parts xs k = λ k ne.
      ap (λ (ts : List ℕ). beside ts (on k more)) (tickets_else 1 k x.0 x.1 xs ne)
      ∙ ap (beside (tickets_from 1 k xs)) (on_else k x.0 x.1 xs ne) in
      sorted-push (parts xs) (parts more) (t, x.1) x.0 0 N (omega arith) (omega (arith, there)) here others (λ k l. below-beside t k (tickets_from 1 k xs) (on k xs) (λ i u e. ticket_below 1 k xs i u e))
      ∙ ap (λ (l : List (ℕ × (ℕ × Entry Q))). l ++ (t, x) ∷ []) is
      ∙ sym (numbered-push 1 xs x)

  from-front : (front rest : Run Q) → InSlots N rest → IsSorted front → IsSorted (front ++ rest)
  from-front front [] h is = subst IsSorted (sym (append-nil front)) is
  from-front front (x ∷ rest) h is = subst IsSorted (append_assoc front (x ∷ []) rest) (from-front (front ++ x ∷ []) rest h.1 (one-more front x h.0 is))

  -- in the order of their tickets they are the history
  pub sorted-run : (run : Run Q) → InSlots N run → sorted (parts run) 0 N ≡ numbered 1 run
  sorted-run run h = from-front [] run h (sorted-none (parts []) 0 N (λ k. refl))
