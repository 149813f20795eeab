-- what a map of deadlines has, as one comes and one goes
use Rattle.std.proofs.Common.{◌≡◌, ◌≢◌, ℕ, zero, suc, ◌+◌, ◌<◌, ◌≤◌, ◌⊎◌, inl, inr, true, false, cond, List, length, slice_index_or, sym, ap, arith, ◌∙◌, subst}
use Rattle.std.specs.FinMap.{FinMap, get, insert, remove, len, get-empty, get-insert, get-remove, len-insert, len-empty, contains_key, same_map, nat_cmp-IsAntisymmetric}
use Rattle.std.specs.Ordering.{nat_cmp, eq_by_cmp}
use Rattle.std.specs.Prelude.{Option, Some, None, is_some}
use Rattle.std.proofs.lemmas.Bool.{cases_eq}
use Rattle.std.proofs.lemmas.Bool.Decides.{nat_tests}
use Rattle.std.proofs.lemmas.Cmp.{nat_cmp_total}
use Rattle.std.proofs.lemmas.Grind.{common_steps}
use Rattle.timeouts.specs.Slots.{IsNotAfter, IsLeastAt}
use Rattle.timeouts.specs.declared.due.Due.{Due}
use Rattle.timeouts.specs.declared.heap.Place.{Place}
use Rattle.timeouts.specs.declared.heap.Heap.{Heap}
use Rattle.timeouts.specs.Heaps.{place_in, due_in, number_in, IsNamed, Holds, IsKept, IsMember, members_at}
use Rattle.timeouts.proofs.HeapLemmas.{top-first}

tie-same : (n : ℕ) → eq_by_cmp nat_cmp n n ≡ true
tie-same n = grind (arith, nat_tests, common_steps)

tie-other : (m n : ℕ) → m ≢ n → eq_by_cmp nat_cmp m n ≡ false
tie-other m n other = grind (arith, nat_tests, common_steps)

pub get-there : (m : FinMap nat_cmp Due) (k : ℕ) (v : Due) → get (insert m k v) k ≡ Some v
get-there m k v = get-insert nat_cmp_total m k v k ∙ ap (λ b. cond b (Some v) (get m k)) (tie-same k)

pub get-elsewhere : (m : FinMap nat_cmp Due) (k : ℕ) (v : Due) (q : ℕ) → q ≢ k → get (insert m k v) q ≡ get m q
get-elsewhere m k v q other = get-insert nat_cmp_total m k v q ∙ ap (λ b. cond b (Some v) (get m q)) (tie-other q k other)

pub get-gone : (m : FinMap nat_cmp Due) (k : ℕ) → get (remove m k) k ≡ None
get-gone m k = get-remove nat_cmp_total m k k ∙ ap (λ b. cond b None (get m k)) (tie-same k)

pub get-left : (m : FinMap nat_cmp Due) (k q : ℕ) → q ≢ k → get (remove m k) q ≡ get m q
get-left m k q other = get-remove nat_cmp_total m k q ∙ ap (λ b. cond b None (get m q)) (tie-other q k other)

-- two places have two numbers
pub apart : (ps : List Place) (ns : List ℕ) (i j : ℕ) → IsNamed ps ns → i < length ps → j < length ps → i ≢ j → number_in ps i ≢ number_in ps j
apart ps ns i j named one other two same = two (sym (named.there i one) ∙ ap (λ n. slice_index_or ns n 0) same ∙ named.there j other)

-- what stands at the first places is as it was
pub holds-same : (m : FinMap nat_cmp Due) (ps qs : List Place) (n : ℕ) → ((k : ℕ) → k < n → place_in qs k ≡ place_in ps k) → Holds m ps n → Holds m qs n
holds-same m ps qs n same h = record {
  some = λ k within. subst (λ (x : Place). get m x.number ≡ Some x.due) (sym (same k within)) (h.some k within);
  none = λ q free. h.none q (λ k within e. free k within (ap (λ (x : Place). x.number) (same k within) ∙ e));
}

-- the number after the members is free
pub next-free : (m : FinMap nat_cmp Due) (ps : List Place) (ns : List ℕ) (n : ℕ) → IsNamed ps ns → n < length ps → Holds m ps n → get m (number_in ps n) ≡ None
next-free m ps ns n named within h = h.none (number_in ps n) (λ k before. apart ps ns k n named (omega arith) within (λ e. omega arith))

-- one more member
pub holds-more : (m : FinMap nat_cmp Due) (ps : List Place) (ns : List ℕ) (n : ℕ) → IsNamed ps ns → n < length ps → Holds m ps n → Holds (insert m (number_in ps n) (due_in ps n)) ps (n + 1)
holds-more m ps ns n named within h = record {
  some = λ k inside. some k inside (cases_eq k n);
  none = λ q free. get-elsewhere m (number_in ps n) (due_in ps n) q (λ e. free n (omega arith) (sym e)) ∙ h.none q (λ k before. free k (omega arith));
}
  where
    some : (k : ℕ) → k < n + 1 → (k ≡ n) ⊎ (k ≢ n) → get (insert m (number_in ps n) (due_in ps n)) (number_in ps k) ≡ Some (due_in ps k)
    some k inside (inl is) = subst (λ x. get (insert m (number_in ps n) (due_in ps n)) (number_in ps x) ≡ Some (due_in ps x)) (sym is) (get-there m (number_in ps n) (due_in ps n))
    some k inside (inr other) =
        let before : k < n = omega arith in
        get-elsewhere m (number_in ps n) (due_in ps n) (number_in ps k) (apart ps ns k n named (omega arith) within other) ∙ h.some k before

-- the last member goes
pub holds-less : (m : FinMap nat_cmp Due) (ps : List Place) (ns : List ℕ) (n : ℕ) → IsNamed ps ns → n < length ps → Holds m ps (n + 1) → Holds (remove m (number_in ps n)) ps n
holds-less m ps ns n named within h = record {
  some = λ k before. get-left m (number_in ps n) (number_in ps k) (apart ps ns k n named (omega arith) within (λ e. omega arith)) ∙ h.some k (omega arith);
  none = λ q free. none q free (cases_eq q (number_in ps n));
}
  where
    none : (q : ℕ) → ((k : ℕ) → k < n → number_in ps k ≢ q) → (q ≡ number_in ps n) ⊎ (q ≢ number_in ps n) → get (remove m (number_in ps n)) q ≡ None
    none q free (inl is) = subst (λ x. get (remove m (number_in ps n)) x ≡ None) (sym is) (get-gone m (number_in ps n))
    none q free (inr other) = get-left m (number_in ps n) q other ∙ h.none q (λ k inside. free-of k inside (cases_eq k n))
      where
        free-of : (k : ℕ) → k < n + 1 → (k ≡ n) ⊎ (k ≢ n) → number_in ps k ≢ q
        free-of k inside (inl is) = λ e. other (sym e ∙ ap (number_in ps) is)
        free-of k inside (inr before) = free k (omega arith)

-- the members of the first places are there, and nothing else
pub holds-at : (ps : List Place) (ns : List ℕ) (n : ℕ) → IsNamed ps ns → n ≤ length ps → Holds (members_at ps n) ps n
holds-at ps ns zero named within = record { some = λ k none. absurd (omega arith); none = λ q _. get-empty nat_cmp q }
holds-at ps ns (suc n) named within =
    let one : n + 1 ≡ suc n = omega arith in
    subst (Holds (members_at ps (suc n)) ps) one (holds-more (members_at ps n) ps ns n named (omega arith) (holds-at ps ns n named (omega arith)))

-- a number stands at one of the first places, or at none
find-step : (ps : List Place) (q n : ℕ) → ((k : ℕ) × (k < n) × (number_in ps k ≡ q)) ⊎ ((k : ℕ) → k < n → number_in ps k ≢ q) → (number_in ps n ≡ q) ⊎ (number_in ps n ≢ q)
    → ((k : ℕ) × (k < suc n) × (number_in ps k ≡ q)) ⊎ ((k : ℕ) → k < suc n → number_in ps k ≢ q)
find-step ps q n (inl (k, before, is)) _ = inl (k, omega arith, is)
find-step ps q n (inr none) (inl is) = inl (n, omega arith, is)
find-step ps q n (inr none) (inr other) = inr (λ k before. by k before (cases_eq k n))
  where
    by : (k : ℕ) → k < suc n → (k ≡ n) ⊎ (k ≢ n) → number_in ps k ≢ q
    by k before (inl is) = λ e. other (sym (ap (number_in ps) is) ∙ e)
    by k before (inr more) = none k (omega arith)

pub find-place : (ps : List Place) (q n : ℕ) → ((k : ℕ) × (k < n) × (number_in ps k ≡ q)) ⊎ ((k : ℕ) → k < n → number_in ps k ≢ q)
find-place ps q zero = inr (λ k none. absurd (omega arith))
find-place ps q (suc n) = find-step ps q n (find-place ps q n) (cases_eq (number_in ps n) q)

-- two maps that the same places hold are one
pub one-map : (m m' : FinMap nat_cmp Due) (ps : List Place) (n : ℕ) → Holds m ps n → Holds m' ps n → m ≡ m'
one-map m m' ps n h h' = same_map nat_cmp_total nat_cmp-IsAntisymmetric m m' (λ q. by q (find-place ps q n))
  where
    by : (q : ℕ) → ((k : ℕ) × (k < n) × (number_in ps k ≡ q)) ⊎ ((k : ℕ) → k < n → number_in ps k ≢ q) → get m q ≡ get m' q
    by q (inl (k, before, is)) = subst (λ x. get m x ≡ get m' x) is (h.some k before ∙ sym (h'.some k before))
    by q (inr none) = h.none q none ∙ sym (h'.none q none)

-- a number of the map is a member's
pub member-there : (m : FinMap nat_cmp Due) (h : Heap) (q : ℕ) (d : Due) → IsKept h → Holds m h.places.items h.count → get m q ≡ Some d → IsMember h q
member-there m h q d kept holds is = by (find-place h.places.items q h.count)
  where
    by : ((k : ℕ) × (k < h.count) × (number_in h.places.items k ≡ q)) ⊎ ((k : ℕ) → k < h.count → number_in h.places.items k ≢ q) → IsMember h q
    by (inl (k, before, at)) =
        let within : k < length h.places.items = (let places = kept.places in omega arith) in
        record {
          known = subst (λ x. x < length h.numbers.items) at (kept.named.known k within);
          member = subst (λ x. slice_index_or h.numbers.items x 0 < h.count) at (subst (λ x. x < h.count) (sym (kept.named.there k within)) before);
        }
    by (inr none) = absurd (let no : get m q ≡ None = holds.none q none in let clash : Some d ≡ None = sym is ∙ no in cc)

-- how many the first places hold
pub count-at : (ps : List Place) (ns : List ℕ) (n : ℕ) → IsNamed ps ns → n ≤ length ps → len (members_at ps n) ≡ n
count-at ps ns zero named within = len-empty nat_cmp Due
count-at ps ns (suc n) named within =
    let free : get (members_at ps n) (number_in ps n) ≡ None = next-free (members_at ps n) ps ns n named (omega arith) (holds-at ps ns n named (omega arith)) in
    let before : len (members_at ps n) ≡ n = count-at ps ns n named (omega arith) in
    len-insert nat_cmp_total (members_at ps n) (number_in ps n) (due_in ps n) ∙ not-there (members_at ps n) (number_in ps n) free ∙ ap (λ x. x + 1) before ∙ omega arith
  where
    not-there : (m : FinMap nat_cmp Due) (k : ℕ) → get m k ≡ None → cond (contains_key m k) (len m) (len m + 1) ≡ len m + 1
    not-there m k free = ap (λ (o : Option Due). cond (is_some o) (len m) (len m + 1)) free

-- the deadline at the top is the least of all
pub top-least : (m : FinMap nat_cmp Due) (h : Heap) → IsKept h → Holds m h.places.items h.count → 0 < h.count → IsLeastAt (get m) (due_in h.places.items 0)
top-least m h kept holds some = record {
  there = (number_in h.places.items 0, holds.some 0 some);
  least = λ k e at. by k e at (find-place h.places.items k h.count);
}
  where
    by : (q : ℕ) (e : Due) → get m q ≡ Some e → ((k : ℕ) × (k < h.count) × (number_in h.places.items k ≡ q)) ⊎ ((k : ℕ) → k < h.count → number_in h.places.items k ≢ q) → IsNotAfter (due_in h.places.items 0) e
    by q e at (inl (k, before, is)) =
        let one : Some e ≡ Some (due_in h.places.items k) = sym at ∙ ap (get m) (sym is) ∙ holds.some k before in
        let same : e ≡ due_in h.places.items k = cc in
        subst (λ x. IsNotAfter (due_in h.places.items 0) x) (sym same) (top-first (due_in h.places.items) h.count kept.ordered k k (omega arith) before)
    by q e at (inr none) = absurd (let no : get m q ≡ None = holds.none q none in let clash : Some e ≡ None = sym at ∙ no in cc)

pub none-least : (m : FinMap nat_cmp Due) (ps : List Place) (n : ℕ) → Holds m ps n → n ≡ 0 → (k : ℕ) → get m k ≡ None
none-least m ps n holds is k = holds.none k (λ j before. absurd (omega arith))

-- one enters after the members
pub entered : (m : FinMap nat_cmp Due) (ps qs rs : List Place) (ns ms : List ℕ) (n number : ℕ) (d : Due) → IsNamed qs ns → n < length qs → ((k : ℕ) → k < n → place_in qs k ≡ place_in ps k)
    → IsNamed rs ms → n < length rs → number ≡ number_in qs n → place_in rs n ≡ record { due = d; number = number } → ((k : ℕ) → k ≢ n → place_in rs k ≡ place_in qs k) → Holds m ps n
    → (get m number ≡ None) × Holds (insert m number d) rs (n + 1)
entered m ps qs rs ns ms n number d named free before named' free' is here others h =
    let ready : Holds m qs n = holds-same m ps qs n before h in
    let still : Holds m rs n = holds-same m qs rs n (λ k less. others k (λ e. omega arith)) ready in
    let more : Holds (insert m (number_in rs n) (due_in rs n)) rs (n + 1) = holds-more m rs ms n named' free' still in (
      subst (λ x. get m x ≡ None) (sym is) (next-free m qs ns n named free ready),
      subst (λ (x : Place). Holds (insert m x.number x.due) rs (n + 1)) here more,
    )

-- a heap holds its members
pub kept-holds : (m : FinMap nat_cmp Due) (h : Heap) → IsKept h → members_at h.places.items h.count ≡ m → Holds m h.places.items h.count
kept-holds m h kept is = subst (λ x. Holds x h.places.items h.count) is (holds-at h.places.items h.numbers.items h.count kept.named kept.places)

-- and what it holds is its members
pub kept-is : (m : FinMap nat_cmp Due) (h : Heap) → IsKept h → Holds m h.places.items h.count → members_at h.places.items h.count ≡ m
kept-is m h kept holds = one-map (members_at h.places.items h.count) m h.places.items h.count (holds-at h.places.items h.numbers.items h.count kept.named kept.places) holds

pub kept-count : (m : FinMap nat_cmp Due) (h : Heap) → IsKept h → members_at h.places.items h.count ≡ m → len m ≡ h.count
kept-count m h kept is = subst (λ x. len x ≡ h.count) is (count-at h.places.items h.numbers.items h.count kept.named kept.places)
