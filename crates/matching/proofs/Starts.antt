-- A ring whose first slots are full meets the ring's rule.
use Rattle.std.proofs.Common.{◌≡◌, ⊎_elim, ℕ, zero, suc, ◌+◌, ◌%◌, ◌<◌, ◌≤◌, Bool, true, false, cond, List, [], ◌∷◌, map, length, get_or, sym, refl, ap, ◌∙◌, subst, mod-eq_of_lt, lt_of_not-le, lt-ltb, le-ltb, arith}
use mathlib.Core.Logic.{dite}
use mathlib.Core.Option.{none, some}
use mathlib.Core.Option as maybe
use native.Mathlib.Decide.{dec_le}
use lib.ListN.{get_elem?, length-map}
use Rattle.std.specs.Prelude.{Option, Some, None, slice_get, nat_lt, if◌then◌else◌}
use Rattle.atomic_table.specs.Table.{opening}
use Rattle.atomic_table.proofs.Lists.{at_map, at_snoc}
use Rattle.crossbeam_queue.specs.declared.array_queue.Doing.{Doing}
use Rattle.crossbeam_queue.specs.Stamps.{one_lap, stamp}
use Rattle.crossbeam_queue.specs.Ring.{Phase, free, full, CellOk, Knows, Ring, idle}
use Rattle.crossbeam_queue.proofs.Stamps.{stamp_first, stamp_lap}

elem_of : {A : Type 0} (xs : List A) (i : ℕ) (y : A) → slice_get xs i ≡ Some y → get_elem? xs i ≡ some y
elem_of [] i y e = absurd (cc e)
elem_of (x ∷ xs) zero y e = ap some (cc e)
elem_of (x ∷ xs) (suc i) y e = elem_of xs i y e

there : {A : Type 0} (xs : List A) (i : ℕ) → i < length xs → (x : A) × (slice_get xs i ≡ Some x)
there [] i l = absurd (omega arith)
there (x ∷ xs) zero l = (x, refl)
there (x ∷ xs) (suc i) l = there xs i (omega arith)

-- the slots at the start: those before a place are full
abbrev phase_at : Bool → Phase
phase_at true = full
phase_at false = free

module _ {T V : Type 0} (holds : List T → List V → Type 0) (n : ℕ) (pos : 0 < n) (roomy : n < one_lap n) (ws : List ℕ) (xs : List (Option T)) (items : List T) (fits : length items ≤ n) (long : length xs ≡ n)
    (stamps : (i : ℕ) → i < n → get_or ws (i + 48) 0 ≡ (if nat_lt i (length items) then i + 1 else i)) (each : (i : ℕ) → i < n → slice_get xs i ≡ Some (slice_get items i)) where
  abbrev k : ℕ
  k = length items

  home : (i : ℕ) → i < n → get_elem? (map some xs) i ≡ some (some (slice_get items i))
  home i near = at_map some xs i (slice_get items i) (elem_of xs i (slice_get items i) (each i near))

  cell : (i : ℕ) → i < n → CellOk n k 0 items ws (map some xs) i (i, phase_at (nat_lt i k))
  cell i near = dite (dec_le k i)
      (λ le. let e : nat_lt i k ≡ false = le-ltb i k le in
      subst (λ (t : Bool). CellOk n k 0 items ws (map some xs) i (i, phase_at t)) (sym e) record {
        shows = stamps i near ∙ (ap (λ (t : Bool). cond t (i + 1) i) e ∙ sym (stamp_first n pos roomy i near));
        lies = mod-eq_of_lt near;
        freed = omega arith;
        waits = omega arith;
        phase = (le, home i near ∙ ap (λ (o : Option T). some (some o)) (absent items i le));
      })
      (λ not. let l : i < k = lt_of_not-le not in let e : nat_lt i k ≡ true = lt-ltb i k l in let x = there items i l in
      subst (λ (t : Bool). CellOk n k 0 items ws (map some xs) i (i, phase_at t)) (sym e) record {
        shows = stamps i near ∙ (ap (λ (t : Bool). cond t (i + 1) i) e ∙ ap (λ (z : ℕ). z + 1) (sym (stamp_first n pos roomy i near)));
        lies = mod-eq_of_lt near;
        freed = omega arith;
        waits = omega arith;
        phase = (omega arith, l, (x.0, elem_of items i x.0 x.1, home i near ∙ ap (λ (o : Option T). some (some o)) x.1));
      })
    where
      absent : (l : List T) (i : ℕ) → length l ≤ i → slice_get l i ≡ None
      absent [] i le = refl
      absent (y ∷ l) zero le = absurd (omega arith)
      absent (y ∷ l) (suc i) le = absent l i (omega arith)

  tail : get_or ws 16 0 ≡ (if nat_lt (length items) n then length items else one_lap n) → get_or ws 16 0 ≡ stamp n k
  tail is = dite (dec_le n k)
      (λ le. let same : k ≡ n = omega arith in
      is ∙ (ap (λ (t : Bool). cond t k (one_lap n)) (le-ltb k n le) ∙ (first ∙ ap (stamp n) (sym same))))
      (λ not. let l : k < n = lt_of_not-le not in is ∙ (ap (λ (t : Bool). cond t k (one_lap n)) (lt-ltb k n l) ∙ sym (stamp_first n pos roomy k l)))
    where
      first : one_lap n ≡ stamp n n
      first = let a = stamp_lap n pos roomy 0 in let z = stamp_first n pos roomy 0 pos in let e : 0 + n ≡ n = omega arith in sym (sym (ap (stamp n) e) ∙ (a ∙ (let g : stamp n 0 + one_lap n ≡ one_lap n = omega (arith, z) in g)))

  pub starts : (v : V) → length ws ≡ n + 48 → get_or ws 16 0 ≡ (if nat_lt (length items) n then length items else one_lap n) → get_or ws 32 0 ≡ 0
      → holds items (v ∷ []) → Ring holds (opening ws xs (idle v))
  starts v wide tail_is head_is first =
      let is : length (map some xs) ≡ n = length-map xs some ∙ long in record {
        pushed = k;
        popped = 0;
        log = items;
        cells = λ i. (i, phase_at (nat_lt i k));
        some_slot = subst (λ (m : ℕ). 0 < m) (sym is) pos;
        roomy = subst (λ (m : ℕ). m < one_lap m) (sym is) roomy;
        wide = wide ∙ ap (λ (m : ℕ). m + 48) (sym is);
        pushed_is = tail tail_is ∙ ap (λ (m : ℕ). stamp m k) (sym is);
        popped_is = head_is ∙ (sym (stamp_first n pos roomy 0 pos) ∙ ap (λ (m : ℕ). stamp m 0) (sym is));
        long = refl;
        behind = omega arith;
        within = subst (λ (m : ℕ). k ≤ 0 + m) (sym is) (omega arith);
        each_cell = subst (λ (m : ℕ). (i : ℕ) → i < m → CellOk m k 0 items ws (map some xs) i (i, phase_at (nat_lt i k))) (sym is) cell;
        each_seat = λ j d e. ⊎_elim (λ (x : get_elem? [] j ≡ some d). absurd (maybe.some-ne-none d (sym x)))
            (λ (x : idle v ≡ d). subst (λ (y : Doing T V). Knows (length (map some xs)) k 0 items j y.at y.item (y.at % length (map some xs), phase_at (nat_lt (y.at % length (map some xs)) k)) y.stage) x tt) (at_snoc [] (idle v) d j e);
        kept = first;
      }
