-- deadlines by numbers, as one comes and one goes
use Rattle.std.proofs.Common.{◌≡◌, ◌≢◌, ℕ, zero, suc, ◌+◌, ◌<◌, ◌⊎◌, inl, inr, List, [], ◌∷◌, ◌++◌, length, slice_index_or, slice_set, map, replicate, append-nil, subst, refl, sym, ap, arith, ◌∙◌}
use Rattle.std.specs.FinMap.{FinMap, get, insert, remove, empty, get-empty, same_map, nat_cmp-IsAntisymmetric}
use Rattle.std.specs.Ordering.{nat_cmp}
use Rattle.std.specs.Prelude.{Option, Some, None, IfSome, IfNone, Result, Ok, Err, OnOk}
use Rattle.std.proofs.Math.ListN.{get_or-map}
use Rattle.std.proofs.lemmas.Bool.{cases_eq}
use Rattle.std.proofs.lemmas.Cmp.{nat_cmp_total}
use Rattle.std.proofs.lemmas.List.{append_assoc, ext_get_or, get_or-set_same, get_or-set_other, length-set, length-map, map-set}
use Rattle.timeouts.specs.Slots.{IsNotAfter, IsLeastAt}
use Rattle.timeouts.specs.Places.{ids_of, known_by, noted, IsByPlace}
use Rattle.timeouts.specs.declared.due.Due.{Due}
use Rattle.timeouts.specs.declared.deadlines.DueId.{DueId}
use Rattle.timeouts.proofs.MemberLemmas.{get-there, get-elsewhere, get-gone, get-left}

at : List (Option DueId) → ℕ → Option DueId
at ids k = slice_index_or ids k None

-- what is at a number
pub known-at : (m : FinMap nat_cmp Due) (ids : List (Option DueId)) (k : ℕ) → slice_index_or (map (known_by m) ids) k None ≡ known_by m (slice_index_or ids k None)
known-at m ids k = get_or-map (known_by m) ids k None

-- at a number where none is there is no id
pub no-id : (m : FinMap nat_cmp Due) (ids : List (Option DueId)) (k : ℕ) → IsByPlace m ids → slice_index_or (map (known_by m) ids) k None ≡ None → slice_index_or ids k None ≡ None
no-id m ids k kept none = by (slice_index_or ids k None) refl
  where
    by : (o : Option DueId) → slice_index_or ids k None ≡ o → o ≡ None
    by None is = refl
    by (Some id) is =
        let d = kept.there k id is in
        let clash : Some d.0 ≡ None = sym d.1 ∙ ap (known_by m) (sym is) ∙ sym (known-at m ids k) ∙ none in
        cc

some-none : (id : DueId) → Some id ≡ None → ⊥
some-none id e = cc

same-id : (a b : DueId) → Some a ≡ Some b → a ≡ b
same-id a b e = cc

id-of : (a : DueId) (q : ℕ) → a.number ≡ q → a ≡ record { number = q }
id-of a q e = ap (λ (n : ℕ). let r : DueId = record { number = n } in r) e

module _ (m : FinMap nat_cmp Due) (ids : List (Option DueId)) (k : ℕ) (kept : IsByPlace m ids) (within : k < length ids) where
  same-at : (o : Option DueId) → slice_index_or (slice_set ids k o) k None ≡ o
  same-at o = get_or-set_same ids k o None within

  other-at : (o : Option DueId) (j : ℕ) → j ≢ k → slice_index_or (slice_set ids k o) j None ≡ slice_index_or ids j None
  other-at o j other = get_or-set_other ids k j o None other

  -- what is at the number is removed
  module _ (id : DueId) (is : slice_index_or ids k None ≡ Some id) where
    away-other : (j : ℕ) (jd : DueId) → slice_index_or (slice_set ids k None) j None ≡ Some jd → (j ≢ k) × (slice_index_or ids j None ≡ Some jd)
    away-other j jd at = by (cases_eq j k)
      where
        by : (j ≡ k) ⊎ (j ≢ k) → (j ≢ k) × (slice_index_or ids j None ≡ Some jd)
        by (inl same) = absurd (some-none jd (sym at ∙ ap (λ x. slice_index_or (slice_set ids k None) x None) same ∙ same-at None))
        by (inr other) = (other, sym (other-at None j other) ∙ at)

    away-apart : (j : ℕ) (jd : DueId) → j ≢ k → slice_index_or ids j None ≡ Some jd → jd.number ≢ id.number
    away-apart j jd other at same = other (kept.apart j k id (at ∙ ap (λ (x : DueId). Some x) (id-of jd id.number same)) is)

    away-only : (q : ℕ) (d : Due) → get (remove m id.number) q ≡ Some d → (j : ℕ) × (slice_index_or (slice_set ids k None) j None ≡ Some (record { number = q }))
    away-only q d there = by (cases_eq q id.number)
      where
        by : (q ≡ id.number) ⊎ (q ≢ id.number) → (j : ℕ) × (slice_index_or (slice_set ids k None) j None ≡ Some (record { number = q }))
        by (inl same) = absurd (let clash : Some d ≡ None = sym there ∙ ap (get (remove m id.number)) same ∙ get-gone m id.number in cc)
        by (inr other) =
            let found = kept.only q d (sym (get-left m id.number q other) ∙ there) in
            let apart : found.0 ≢ k = (λ same. other (ap (λ (x : DueId). x.number) (same-id (record { number = q }) id (sym found.1 ∙ ap (λ x. slice_index_or ids x None) same ∙ is)))) in
            (found.0, other-at None found.0 apart ∙ found.1)

    pub taken-away : IsByPlace (remove m id.number) (slice_set ids k None)
    taken-away = record {
      there = λ j jd at.
          let o = away-other j jd at in
          let d = kept.there j jd o.1 in
          (d.0, get-left m id.number jd.number (away-apart j jd o.0 o.1) ∙ d.1);
      apart = λ i j jd a b. kept.apart i j jd (away-other i jd a).1 (away-other j jd b).1;
      only = away-only;
    }

    away-at : (j : ℕ) → (j ≡ k) ⊎ (j ≢ k) → known_by (remove m id.number) (slice_index_or (slice_set ids k None) j None) ≡ slice_index_or (slice_set (map (known_by m) ids) k None) j None
    away-at j (inl same) =
        ap (known_by (remove m id.number)) (ap (λ x. slice_index_or (slice_set ids k None) x None) same ∙ same-at None)
        ∙ sym (ap (λ x. slice_index_or (slice_set (map (known_by m) ids) k None) x None) same ∙ get_or-set_same (map (known_by m) ids) k None None (rw (length-map ids (known_by m)) within))
    away-at j (inr other) =
        ap (known_by (remove m id.number)) (other-at None j other) ∙ still (slice_index_or ids j None) refl
        ∙ sym (get_or-set_other (map (known_by m) ids) k j None None other ∙ known-at m ids j)
      where
        still : (o : Option DueId) → slice_index_or ids j None ≡ o → known_by (remove m id.number) (slice_index_or ids j None) ≡ known_by m (slice_index_or ids j None)
        still None at = ap (known_by (remove m id.number)) at ∙ sym (ap (known_by m) at)
        still (Some jd) at = ap (known_by (remove m id.number)) at ∙ get-left m id.number jd.number (away-apart j jd other at) ∙ sym (ap (known_by m) at)

    pub slots-away : map (known_by (remove m id.number)) (slice_set ids k None) ≡ slice_set (map (known_by m) ids) k None
    slots-away = ext_get_or None _ _ lengths (λ j _. known-at (remove m id.number) (slice_set ids k None) j ∙ away-at j (cases_eq j k))
      where
        lengths : length (map (known_by (remove m id.number)) (slice_set ids k None)) ≡ length (slice_set (map (known_by m) ids) k None)
        lengths = length-map (slice_set ids k None) (known_by (remove m id.number)) ∙ length-set ids k None ∙ sym (length-map ids (known_by m)) ∙ sym (length-set (map (known_by m) ids) k None)

  -- one is put at a number at which none is
  module _ (none : slice_index_or ids k None ≡ None) (id : DueId) (d : Due) (free-id : get m id.number ≡ None) where
    new-apart : (j : ℕ) (jd : DueId) → slice_index_or ids j None ≡ Some jd → jd.number ≢ id.number
    new-apart j jd at same =
        let e = kept.there j jd at in
        let clash : Some e.0 ≡ None = sym e.1 ∙ ap (get m) same ∙ free-id in
        cc

    new-there : (j : ℕ) (jd : DueId) → slice_index_or (slice_set ids k (Some id)) j None ≡ Some jd → (e : Due) × (get (insert m id.number d) jd.number ≡ Some e)
    new-there j jd at = by (cases_eq j k)
      where
        by : (j ≡ k) ⊎ (j ≢ k) → (e : Due) × (get (insert m id.number d) jd.number ≡ Some e)
        by (inl same) =
            let one : jd ≡ id = same-id jd id (sym at ∙ ap (λ x. slice_index_or (slice_set ids k (Some id)) x None) same ∙ same-at (Some id)) in
            (d, ap (λ (x : DueId). get (insert m id.number d) x.number) one ∙ get-there m id.number d)
        by (inr other) =
            let before = sym (other-at (Some id) j other) ∙ at in
            let e = kept.there j jd before in
            (e.0, get-elsewhere m id.number d jd.number (new-apart j jd before) ∙ e.1)

    new-one : (i j : ℕ) (jd : DueId) → slice_index_or (slice_set ids k (Some id)) i None ≡ Some jd → slice_index_or (slice_set ids k (Some id)) j None ≡ Some jd → i ≡ j
    new-one i j jd a b = by (cases_eq i k) (cases_eq j k)
      where
        here : (x : ℕ) → x ≡ k → slice_index_or (slice_set ids k (Some id)) x None ≡ Some jd → jd ≡ id
        here x same at = same-id jd id (sym at ∙ ap (λ y. slice_index_or (slice_set ids k (Some id)) y None) same ∙ same-at (Some id))

        by : (i ≡ k) ⊎ (i ≢ k) → (j ≡ k) ⊎ (j ≢ k) → i ≡ j
        by (inl one) (inl two) = one ∙ sym two
        by (inl one) (inr two) = absurd (new-apart j jd (sym (other-at (Some id) j two) ∙ b) (ap (λ (x : DueId). x.number) (here i one a)))
        by (inr one) (inl two) = absurd (new-apart i jd (sym (other-at (Some id) i one) ∙ a) (ap (λ (x : DueId). x.number) (here j two b)))
        by (inr one) (inr two) = kept.apart i j jd (sym (other-at (Some id) i one) ∙ a) (sym (other-at (Some id) j two) ∙ b)

    new-only : (q : ℕ) (e : Due) → get (insert m id.number d) q ≡ Some e → (j : ℕ) × (slice_index_or (slice_set ids k (Some id)) j None ≡ Some (record { number = q }))
    new-only q e there = by (cases_eq q id.number)
      where
        by : (q ≡ id.number) ⊎ (q ≢ id.number) → (j : ℕ) × (slice_index_or (slice_set ids k (Some id)) j None ≡ Some (record { number = q }))
        by (inl same) = (k, same-at (Some id) ∙ ap (λ (x : DueId). Some x) (id-of id q (sym same)))
        by (inr other) =
            let found = kept.only q e (sym (get-elsewhere m id.number d q other) ∙ there) in
            let apart : found.0 ≢ k = (λ same. some-none (record { number = q }) (sym found.1 ∙ ap (λ x. slice_index_or ids x None) same ∙ none)) in
            (found.0, other-at (Some id) found.0 apart ∙ found.1)

    pub put-there : IsByPlace (insert m id.number d) (slice_set ids k (Some id))
    put-there = record {
      there = new-there;
      apart = new-one;
      only = new-only;
    }

    new-at : (j : ℕ) → (j ≡ k) ⊎ (j ≢ k) → known_by (insert m id.number d) (slice_index_or (slice_set ids k (Some id)) j None) ≡ slice_index_or (slice_set (map (known_by m) ids) k (Some d)) j None
    new-at j (inl same) =
        ap (known_by (insert m id.number d)) (ap (λ x. slice_index_or (slice_set ids k (Some id)) x None) same ∙ same-at (Some id)) ∙ get-there m id.number d
        ∙ sym (ap (λ x. slice_index_or (slice_set (map (known_by m) ids) k (Some d)) x None) same ∙ get_or-set_same (map (known_by m) ids) k (Some d) None (rw (length-map ids (known_by m)) within))
    new-at j (inr other) =
        ap (known_by (insert m id.number d)) (other-at (Some id) j other) ∙ still (slice_index_or ids j None) refl
        ∙ sym (get_or-set_other (map (known_by m) ids) k j (Some d) None other ∙ known-at m ids j)
      where
        still : (o : Option DueId) → slice_index_or ids j None ≡ o → known_by (insert m id.number d) (slice_index_or ids j None) ≡ known_by m (slice_index_or ids j None)
        still None at = ap (known_by (insert m id.number d)) at ∙ sym (ap (known_by m) at)
        still (Some jd) at = ap (known_by (insert m id.number d)) at ∙ get-elsewhere m id.number d jd.number (new-apart j jd at) ∙ sym (ap (known_by m) at)

    pub slots-put : map (known_by (insert m id.number d)) (slice_set ids k (Some id)) ≡ slice_set (map (known_by m) ids) k (Some d)
    slots-put = ext_get_or None _ _ lengths (λ j _. known-at (insert m id.number d) (slice_set ids k (Some id)) j ∙ new-at j (cases_eq j k))
      where
        lengths : length (map (known_by (insert m id.number d)) (slice_set ids k (Some id))) ≡ length (slice_set (map (known_by m) ids) k (Some d))
        lengths = length-map (slice_set ids k (Some id)) (known_by (insert m id.number d)) ∙ length-set ids k (Some id) ∙ sym (length-map ids (known_by m)) ∙ sym (length-set (map (known_by m) ids) k (Some d))

-- one more number
pub pushed : (m : FinMap nat_cmp Due) (ids : List (Option DueId)) → IsByPlace m ids → IsByPlace m (ids ++ None ∷ [])
pushed m ids kept = record {
  there = λ k id at. kept.there k id (old k id at);
  apart = λ j k id a b. kept.apart j k id (old j id a) (old k id b);
  only = λ q d at. let found = kept.only q d at in (found.0, new found.0 (record { number = q }) found.1);
}
  where
    same : (ids : List (Option DueId)) (k : ℕ) → slice_index_or (ids ++ None ∷ []) k None ≡ slice_index_or ids k None
    same [] zero = refl
    same [] (suc k) = refl
    same (x ∷ ids) zero = refl
    same (x ∷ ids) (suc k) = same ids k

    old : (k : ℕ) (id : DueId) → slice_index_or (ids ++ None ∷ []) k None ≡ Some id → slice_index_or ids k None ≡ Some id
    old k id at = sym (same ids k) ∙ at

    new : (k : ℕ) (id : DueId) → slice_index_or ids k None ≡ Some id → slice_index_or (ids ++ None ∷ []) k None ≡ Some id
    new k id at = same ids k ∙ at

-- so many more numbers
pub extended : (m : FinMap nat_cmp Due) (n : ℕ) (ids : List (Option DueId)) → IsByPlace m ids → IsByPlace m (ids ++ replicate n None)
extended m zero ids kept = subst (λ l. IsByPlace m l) (sym (append-nil ids)) kept
extended m (suc n) ids kept = subst (λ l. IsByPlace m l) (append_assoc ids (None ∷ []) (replicate n None)) (extended m n (ids ++ None ∷ []) (pushed m ids kept))

-- the first of the members is the first of those at numbers
pub least-at : (m : FinMap nat_cmp Due) (ids : List (Option DueId)) (d : Due) → IsByPlace m ids → IsLeastAt (get m) d → IsLeastAt (λ k. slice_index_or (map (known_by m) ids) k None) d
least-at m ids d kept h = record {
  there = there;
  least = λ k e at. by k e (slice_index_or ids k None) refl (sym (known-at m ids k) ∙ at);
}
  where
    there : (k : ℕ) × (slice_index_or (map (known_by m) ids) k None ≡ Some d)
    there =
        let found = kept.only h.there.0 d h.there.1 in
        (found.0, known-at m ids found.0 ∙ ap (known_by m) found.1 ∙ h.there.1)

    by : (k : ℕ) (e : Due) (o : Option DueId) → slice_index_or ids k None ≡ o → known_by m (slice_index_or ids k None) ≡ Some e → IsNotAfter d e
    by k e None is at = absurd (let clash : Some e ≡ None = sym at ∙ ap (known_by m) is in cc)
    by k e (Some id) is at = h.least id.number e (sym (ap (known_by m) is) ∙ at)

-- what no member is, none at a number is
pub none-at : (m : FinMap nat_cmp Due) (ids : List (Option DueId)) (P : Due → Type 0) → ((q : ℕ) (d : Due) → get m q ≡ Some d → P d) → (k : ℕ) (d : Due) → slice_index_or (map (known_by m) ids) k None ≡ Some d → P d
none-at m ids P all k d at = by (slice_index_or ids k None) refl (sym (known-at m ids k) ∙ at)
  where
    by : (o : Option DueId) → slice_index_or ids k None ≡ o → known_by m (slice_index_or ids k None) ≡ Some d → P d
    by None is here = absurd (let clash : Some d ≡ None = sym here ∙ ap (known_by m) is in cc)
    by (Some id) is here = all id.number d (sym (ap (known_by m) is) ∙ here)

pub all-none : (m : FinMap nat_cmp Due) (ids : List (Option DueId)) → ((q : ℕ) → get m q ≡ None) → (k : ℕ) → slice_index_or (map (known_by m) ids) k None ≡ None
all-none m ids none k = known-at m ids k ∙ by (slice_index_or ids k None)
  where
    by : (o : Option DueId) → known_by m o ≡ None
    by None = refl
    by (Some id) = none id.number

-- no number
pub empty-by-place : (m : FinMap nat_cmp Due) (ids : List (Option DueId)) → m ≡ empty → ids ≡ [] → IsByPlace m ids
empty-by-place m ids none nil = record {
  there = λ k id at. absurd (some-none id (sym at ∙ nothing k));
  apart = λ j k id a b. absurd (some-none id (sym a ∙ nothing j));
  only = λ q d at. absurd (let clash : Some d ≡ None = sym at ∙ ap (λ (x : FinMap nat_cmp Due). get x q) none ∙ get-empty nat_cmp q in cc);
}
  where
    nothing : (k : ℕ) → slice_index_or ids k None ≡ None
    nothing k = ap (λ (x : List (Option DueId)). slice_index_or x k None) nil ∙ past k
      where
        past : (k : ℕ) → slice_index_or {A = Option DueId} [] k None ≡ None
        past zero = refl
        past (suc k) = refl

pub if-some : (r : Option Due) (P Q : Due → Type 0) → ((d : Due) → P d → Q d) → IfSome r P → IfSome r Q
if-some None P Q f p = tt
if-some (Some d) P Q f p = f d p

pub if-none : (r : Option Due) (P Q : Type 0) → (P → Q) → IfNone r P → IfNone r Q
if-none None P Q f p = f p
if-none (Some d) P Q f p = tt

-- an id that was read, by its note
pub read-id : (notes : List ℕ) (k note : ℕ) (o : Option DueId) → note ≡ slice_index_or notes k 0 → o ≡ noted note → slice_index_or (ids_of notes) k None ≡ o
read-id notes k note o is read = get_or-map noted notes k 0 ∙ ap noted (sym is) ∙ sym read

-- the ids where another one is noted
pub ids-set : (notes : List ℕ) (k note : ℕ) (o : Option DueId) → noted note ≡ o → ids_of (slice_set notes k note) ≡ slice_set (ids_of notes) k o
ids-set notes k note o is = map-set noted notes k note ∙ ap (slice_set (ids_of notes) k) is

-- an id as it is noted
pub noted-next : (id : DueId) (note : ℕ) → note ≡ id.number + 1 → noted note ≡ Some id
noted-next id note is = let next : note ≡ suc id.number = omega (arith, is) in ap noted next

-- one was added and removed again
pub added-removed : (m : FinMap nat_cmp Due) (k : ℕ) (d : Due) → get m k ≡ None → remove (insert m k d) k ≡ m
added-removed m k d free = same_map nat_cmp_total nat_cmp-IsAntisymmetric _ _ (λ q. by q (cases_eq q k))
  where
    by : (q : ℕ) → (q ≡ k) ⊎ (q ≢ k) → get (remove (insert m k d) k) q ≡ get m q
    by q (inl same) = ap (get (remove (insert m k d) k)) same ∙ get-gone (insert m k d) k ∙ sym (ap (get m) same ∙ free)
    by q (inr other) = get-left (insert m k d) k q other ∙ get-elsewhere m k d q other

-- at a number where none is none is put
pub cleared : (m : FinMap nat_cmp Due) (ids : List (Option DueId)) (k : ℕ) → slice_index_or ids k None ≡ None → map (known_by m) ids ≡ slice_set (map (known_by m) ids) k None
cleared m ids k none = sym (set-same (map (known_by m) ids) k (known-at m ids k ∙ ap (known_by m) none))
  where
    set-same : (xs : List (Option Due)) (k : ℕ) → slice_index_or xs k None ≡ None → slice_set xs k None ≡ xs
    set-same [] k is = refl
    set-same (x ∷ xs) zero is = ap (λ y. y ∷ xs) (sym is)
    set-same (x ∷ xs) (suc k) is = ap (λ ys. x ∷ ys) (set-same xs k is)

-- there are as many ids as numbers
pub as-many : (m : FinMap nat_cmp Due) (ids : List (Option DueId)) (slots : List (Option Due)) (k : ℕ) → map (known_by m) ids ≡ slots → k < length slots → k < length ids
as-many m ids slots k is within = let same : length slots ≡ length ids = sym (ap length is) ∙ length-map ids (known_by m) in omega arith

-- what is put last at a number is there
pub set-twice : (xs : List (Option Due)) (k : ℕ) (x y : Option Due) → slice_set (slice_set xs k x) k y ≡ slice_set xs k y
set-twice [] k x y = refl
set-twice (z ∷ xs) zero x y = refl
set-twice (z ∷ xs) (suc k) x y = ap (λ ys. z ∷ ys) (set-twice xs k x y)

pub put-on : (xs ys : List (Option Due)) (k : ℕ) (y : Option Due) → ys ≡ slice_set xs k None → slice_set ys k y ≡ slice_set xs k y
put-on xs ys k y is = ap (λ l. slice_set l k y) is ∙ set-twice xs k None y

-- what holds where a call went well
pub on-ok : {E : Type 0} (r : Result (Unit {0}) E) (P Q : Type 0) → (P → Q) → OnOk r P → OnOk r Q
on-ok (Ok tt) P Q f p = f p
on-ok (Err e) P Q f p = tt
