-- the first deadlines of what is in use, as rows and the heap change
use Rattle.std.proofs.Common.{◌≡◌, ◌≢◌, ℕ, zero, suc, ◌<◌, ◌≤◌, ◌⊎◌, inl, inr, Bool, true, false, cond, List, [], ◌∷◌, ◌++◌, map, filter, length, slice_index_or, slice_set, slice_get, refl, sym, ap, arith, ◌∙◌, subst}
use Rattle.std.specs.Prelude.{Option, None, Some, is_some, option_map, option_to_list, IfSome, IfNone}
use Rattle.std.specs.List.{cons_option}
use Rattle.std.specs.FinMap.{FinMap, get, insert, remove, empty, get-empty}
use Rattle.std.specs.Ordering.{nat_cmp}
use Rattle.std.proofs.lemmas.Bool.{cases_eq, cases_lt}
use Rattle.wf_event.specs.declared.event.Event.{Event}
use Rattle.service_model.specs.TimerTurns.{RunDue, least}
use Rattle.timeouts.specs.declared.due.Due.{Due}
use Rattle.timeouts.specs.declared.deadlines.DueId.{DueId}
use Rattle.timeouts.specs.Places.{known_by}
use Rattle.timeouts.specs.Slots.{run_due, IsOneOf, IsLeastAt}
use Rattle.timeouts.proofs.MemberLemmas.{get-there, get-elsewhere, get-gone, get-left}
use Rattle.timeouts.proofs.LeastLemmas.{least-kept, one-right}
use Rattle.mutable_state.specs.declared.open.Open.{Open}
use Rattle.mutable_state.specs.declared.rows.Row.{Row}
use Rattle.mutable_state.specs.Dues.{first_in}
use Rattle.mutable_state.specs.Opens.{is_unmarked}
use Rattle.mutable_state.specs.Rows.{keys, living, AreRising, passes}
use Rattle.mutable_state.specs.Filed.{FiledBy, IsFiled, AreFiled, first_at, firsts_of, all_firsts, HasId, without_id, IsAdded, IsOfEvent}
use Rattle.mutable_state.proofs.KeyLemmas.{rising-at}
use Rattle.mutable_state.proofs.RowLemmas.{key-at, count-keys, here-is}

-- what stands in a list that was changed

get-set : {X : Type 0} (xs : List X) (p : ℕ) (d : X) (j : ℕ) (x : X) → slice_get (slice_set xs p d) j ≡ Some x → ((j ≡ p) × (x ≡ d)) ⊎ ((j ≢ p) × (slice_get xs j ≡ Some x))
get-set [] p d j x is = absurd (let clash : None ≡ Some x = is in cc)
get-set (y ∷ xs) zero d zero x is = inl (refl, (let same : d ≡ x = cc in sym same))
get-set (y ∷ xs) zero d (suc j) x is = inr ((λ e. omega arith), is)
get-set (y ∷ xs) (suc p) d zero x is = inr ((λ e. omega arith), is)
get-set (y ∷ xs) (suc p) d (suc j) x is = elim (get-set xs p d j x is) [
  | inl h ↦ inl (ap suc h.0, h.1)
  | inr h ↦ inr ((λ e. h.0 (let k : j ≡ p = omega arith in k)), h.1)
]

set-other : {X : Type 0} (xs : List X) (p : ℕ) (d : X) (j : ℕ) (x : X) → j ≢ p → slice_get xs j ≡ Some x → slice_get (slice_set xs p d) j ≡ Some x
set-other [] p d j x other is = is
set-other (y ∷ xs) zero d zero x other is = absurd (other refl)
set-other (y ∷ xs) zero d (suc j) x other is = is
set-other (y ∷ xs) (suc p) d zero x other is = is
set-other (y ∷ xs) (suc p) d (suc j) x other is = set-other xs p d j x (λ e. other (ap suc e)) is

set-same : {X : Type 0} (xs : List X) (p : ℕ) (d x : X) → slice_get xs p ≡ Some x → slice_get (slice_set xs p d) p ≡ Some d
set-same [] p d x is = absurd (let clash : None ≡ Some x = is in cc)
set-same (y ∷ xs) zero d x is = refl
set-same (y ∷ xs) (suc p) d x is = set-same xs p d x is

filter-get : {X : Type 0} (q : X → Bool) (xs : List X) (j : ℕ) (x : X) → slice_get (filter q xs) j ≡ Some x → (i : ℕ) × (slice_get xs i ≡ Some x)
filter-get q [] j x is = absurd (let clash : None ≡ Some x = is in cc)
filter-get q (y ∷ xs) j x is = by (q y) j is (λ k h. filter-get q xs k x h)
  where
    by : (b : Bool) (j : ℕ) → slice_get (cond b (y ∷ filter q xs) (filter q xs)) j ≡ Some x → ((k : ℕ) → slice_get (filter q xs) k ≡ Some x → (i : ℕ) × (slice_get xs i ≡ Some x)) → (i : ℕ) × (slice_get (y ∷ xs) i ≡ Some x)
    by true zero at again = (0, at)
    by true (suc j) at again = let rest = again j at in (suc rest.0, rest.1)
    by false j at again = let rest = again j at in (suc rest.0, rest.1)

get-filter : {X : Type 0} (q : X → Bool) (xs : List X) (i : ℕ) (x : X) → slice_get xs i ≡ Some x → q x ≡ true → (j : ℕ) × (slice_get (filter q xs) j ≡ Some x)
get-filter q [] i x is h = absurd (let clash : None ≡ Some x = is in cc)
get-filter q (y ∷ xs) zero x is h =
    let same : y ≡ x = cc in
    (0, ap (λ b. slice_get (cond b (y ∷ filter q xs) (filter q xs)) 0) (ap q same ∙ h) ∙ ap (λ z. Some z) same)
get-filter q (y ∷ xs) (suc i) x is h = by (q y) (get-filter q xs i x is h)
  where
    by : (b : Bool) → (j : ℕ) × (slice_get (filter q xs) j ≡ Some x) → (j : ℕ) × (slice_get (cond b (y ∷ filter q xs) (filter q xs)) j ≡ Some x)
    by true rest = (suc rest.0, rest.1)
    by false rest = rest

snoc-get : {X : Type 0} (xs : List X) (r : X) (j : ℕ) (x : X) → slice_get (xs ++ r ∷ []) j ≡ Some x → (slice_get xs j ≡ Some x) ⊎ (x ≡ r)
snoc-get [] r zero x is = inr (let same : r ≡ x = cc in sym same)
snoc-get [] r (suc j) x is = absurd (let clash : None ≡ Some x = is in cc)
snoc-get (y ∷ xs) r zero x is = inl is
snoc-get (y ∷ xs) r (suc j) x is = snoc-get xs r j x is

get-snoc : {X : Type 0} (xs : List X) (r : X) (j : ℕ) (x : X) → slice_get xs j ≡ Some x → slice_get (xs ++ r ∷ []) j ≡ Some x
get-snoc [] r j x is = absurd (let clash : None ≡ Some x = is in cc)
get-snoc (y ∷ xs) r zero x is = is
get-snoc (y ∷ xs) r (suc j) x is = get-snoc xs r j x is

get-last : {X : Type 0} (xs : List X) (r : X) → slice_get (xs ++ r ∷ []) (length xs) ≡ Some r
get-last [] r = refl
get-last (y ∷ xs) r = get-last xs r

-- each first deadline that is kept is the one that it should be, row by row

abbrev pub RowDueBy : FinMap nat_cmp Due → List Event → Option DueId → Option Open → Type 0
RowDueBy m es due None = Unit {0}
RowDueBy m es due (Some o) = option_map run_due (known_by m due) ≡ first_in es o

abbrev pub RowDue : FinMap nat_cmp Due → List Event → Row → Type 0
RowDue m es r = RowDueBy m es r.due r.kept

abbrev pub AreDue : FinMap nat_cmp Due → List Event → List Row → Type 0
AreDue m es rs = firsts_of m rs ≡ map (first_in es) (living rs)

module _ (m : FinMap nat_cmp Due) (es : List Event) where
  split : (due : Option DueId) (o : Option Open) (fs : List (Option RunDue)) (os : List Open) → cons_option (option_map (λ (_ : Open). option_map run_due (known_by m due)) o) fs ≡ map (first_in es) (cons_option o os) → RowDueBy m es due o × (fs ≡ map (first_in es) os)
  split due None fs os h = (tt, h)
  split due (Some o) fs os h = (cc, cc)

  join : (due : Option DueId) (o : Option Open) (fs : List (Option RunDue)) (os : List Open) → RowDueBy m es due o → fs ≡ map (first_in es) os → cons_option (option_map (λ (_ : Open). option_map run_due (known_by m due)) o) fs ≡ map (first_in es) (cons_option o os)
  join due None fs os here rest = rest
  join due (Some o) fs os here rest = ap (λ f. f ∷ fs) here ∙ ap (λ l. first_in es o ∷ l) rest

  pub to-rows : (rs : List Row) → AreDue m es rs → (j : ℕ) (r : Row) → slice_get rs j ≡ Some r → RowDue m es r
  to-rows [] h j r at = absurd (let clash : None ≡ Some r = at in cc)
  to-rows (x ∷ rs) h zero r at = let same : x ≡ r = cc in subst (RowDue m es) same (split x.due x.kept (firsts_of m rs) (living rs) h).0
  to-rows (x ∷ rs) h (suc j) r at = to-rows rs (split x.due x.kept (firsts_of m rs) (living rs) h).1 j r at

  pub from-rows : (rs : List Row) → ((j : ℕ) (r : Row) → slice_get rs j ≡ Some r → RowDue m es r) → AreDue m es rs
  from-rows [] all = refl
  from-rows (x ∷ rs) all = join x.due x.kept (firsts_of m rs) (living rs) (all 0 x refl) (from-rows rs (λ j r at. all (suc j) r at))

known-due : (m m' : FinMap nat_cmp Due) (es : List Event) (due : Option DueId) (o : Option Open) → known_by m' due ≡ known_by m due → RowDueBy m es due o → RowDueBy m' es due o
known-due m m' es due None same h = tt
known-due m m' es due (Some o) same h = ap (option_map run_due) same ∙ h

-- a row's deadline goes, and another one or none comes

filed-id : (m : FinMap nat_cmp Due) (event : ℕ) (kept : Option Open) (due : Option DueId) → FiledBy m event kept due → HasId m due
filed-id m event kept None h = tt
filed-id m event kept (Some id) h = (h.1.0, h.1.1)

pub has-id : (m : FinMap nat_cmp Due) (rs : List Row) (p : ℕ) (x : Row) → AreFiled m rs → slice_get rs p ≡ Some x → HasId m x.due
has-id m rs p x filed there = filed-id m x.event x.kept x.due (filed.filed p x there)

same-number : (a b : DueId) → Some a ≡ Some b → a.number ≡ b.number
same-number a b e = let same : a ≡ b = cc in ap (λ (i : DueId). i.number) same

some-none : (a : DueId) → Some a ≡ None → ⊥
some-none a e = cc

-- rows at two places have two events
two-events : (rs : List Row) (i j : ℕ) (x y : Row) → AreRising (keys rs) → i ≢ j → slice_get rs i ≡ Some x → slice_get rs j ≡ Some y → x.event ≢ y.event
two-events rs i j x y rising apart here there same = by (cases_lt i j)
  where
    at-i : slice_index_or (keys rs) i 0 ≡ x.event
    at-i = (key-at rs i x here).1

    at-j : slice_index_or (keys rs) j 0 ≡ y.event
    at-j = (key-at rs j y there).1

    by : (i < j) ⊎ (j ≤ i) → ⊥
    by (inl less) =
        let rise = rising-at (keys rs) i j rising less (subst (λ n. j < n) (sym (count-keys rs)) (key-at rs j y there).0) in
        let a = at-i in
        let b = at-j in
        omega arith
    by (inr more) =
        let rise = rising-at (keys rs) j i rising (let k : j < i = omega arith in k) (subst (λ n. i < n) (sym (count-keys rs)) (key-at rs i x here).0) in
        let a = at-i in
        let b = at-j in
        omega arith

record Unfiled (m m1 : FinMap nat_cmp Due) (rs : List Row) (p : ℕ) : Type 0 where
  known : (j : ℕ) (r : Row) → j ≢ p → slice_get rs j ≡ Some r → known_by m1 r.due ≡ known_by m r.due
  others : (j : ℕ) (r : Row) → j ≢ p → slice_get rs j ≡ Some r → IsFiled m1 r
  only : (q : ℕ) (e : Due) → get m1 q ≡ Some e → (j : ℕ) × (r : Row) × (j ≢ p) × (slice_get rs j ≡ Some r) × (r.due ≡ Some (record { number = q }))

module _ (m : FinMap nat_cmp Due) (rs : List Row) (p : ℕ) (x : Row) (rising : AreRising (keys rs)) (there : slice_get rs p ≡ Some x) (filed : AreFiled m rs) where
  is-x : (r : Row) → slice_get rs p ≡ Some r → r ≡ x
  is-x r at = let one : Some r ≡ Some x = sym at ∙ there in cc

  -- where the row has none
  none-away : x.due ≡ None → Unfiled m m rs p
  none-away none = record {
    known = λ j r other at. refl;
    others = λ j r other at. filed.filed j r at;
    only = λ q e at.
        let found = filed.only q e at in
        (found.0, found.1, (λ same. some-none (record { number = q }) (sym found.3 ∙ ap (λ (r : Row). r.due) (is-x found.1 (ap (slice_get rs) (sym same) ∙ found.2)) ∙ none)), found.2, found.3);
  }

  -- and where it has one
  module _ (id : DueId) (is : x.due ≡ Some id) where
    row-filed : FiledBy m x.event x.kept (Some id)
    row-filed = subst (FiledBy m x.event x.kept) is (filed.filed p x there)

    other-number : (j : ℕ) (r : Row) (jd : DueId) → j ≢ p → slice_get rs j ≡ Some r → FiledBy m r.event r.kept (Some jd) → jd.number ≢ id.number
    other-number j r jd other at h same =
        let d = h.1 in
        let e = row-filed.1 in
        let one : Some d.0 ≡ Some e.0 = sym d.1 ∙ ap (get m) same ∙ e.1 in
        let equal : d.0 ≡ e.0 = cc in
        two-events rs j p r x rising other at there (sym d.2 ∙ ap (λ (y : Due). y.event) equal ∙ e.2)

    one-away : Unfiled m (remove m id.number) rs p
    one-away = record {
      known = λ j r other at. known j r other at r.due refl;
      others = λ j r other at. kept j r other at r.due refl;
      only = λ q e at. only q e at (cases_eq q id.number);
    }
      where
        known : (j : ℕ) (r : Row) → j ≢ p → slice_get rs j ≡ Some r → (o : Option DueId) → r.due ≡ o → known_by (remove m id.number) r.due ≡ known_by m r.due
        known j r other at None e = ap (known_by (remove m id.number)) e ∙ sym (ap (known_by m) e)
        known j r other at (Some jd) e =
            ap (known_by (remove m id.number)) e
            ∙ get-left m id.number jd.number (other-number j r jd other at (subst (FiledBy m r.event r.kept) e (filed.filed j r at)))
            ∙ sym (ap (known_by m) e)

        kept : (j : ℕ) (r : Row) → j ≢ p → slice_get rs j ≡ Some r → (o : Option DueId) → r.due ≡ o → FiledBy (remove m id.number) r.event r.kept r.due
        kept j r other at None e = subst (FiledBy (remove m id.number) r.event r.kept) (sym e) tt
        kept j r other at (Some jd) e =
            let h : FiledBy m r.event r.kept (Some jd) = subst (FiledBy m r.event r.kept) e (filed.filed j r at) in
            subst (FiledBy (remove m id.number) r.event r.kept) (sym e)
            (h.0, (h.1.0, get-left m id.number jd.number (other-number j r jd other at h) ∙ h.1.1, h.1.2))

        only : (q : ℕ) (e : Due) → get (remove m id.number) q ≡ Some e → (q ≡ id.number) ⊎ (q ≢ id.number) → (j : ℕ) × (r : Row) × (j ≢ p) × (slice_get rs j ≡ Some r) × (r.due ≡ Some (record { number = q }))
        only q e at (inl same) = absurd (let clash : Some e ≡ None = sym at ∙ ap (get (remove m id.number)) same ∙ get-gone m id.number in cc)
        only q e at (inr other) =
            let found = filed.only q e (sym (get-left m id.number q other) ∙ at) in
            (found.0, found.1, (λ same. other (same-number (record { number = q }) id (sym found.3 ∙ ap (λ (r : Row). r.due) (is-x found.1 (ap (slice_get rs) (sym same) ∙ found.2)) ∙ is))), found.2, found.3)

  away : (o : Option DueId) → x.due ≡ o → Unfiled m (without_id x.due m) rs p
  away None is = subst (λ o. Unfiled m (without_id o m) rs p) (sym is) (none-away is)
  away (Some id) is = subst (λ o. Unfiled m (without_id o m) rs p) (sym is) (one-away id is)

-- what became of the heap where the row at a place is another one
pub record Refiled (m m' : FinMap nat_cmp Due) (rs : List Row) (p : ℕ) (d : Row) (due : Option Due) : Type 0 where
  pub filed : AreFiled m' (slice_set rs p d)
  pub known : (j : ℕ) (r : Row) → j ≢ p → slice_get rs j ≡ Some r → known_by m' r.due ≡ known_by m r.due
  pub here : known_by m' d.due ≡ due

module _ (m m1 : FinMap nat_cmp Due) (rs : List Row) (p : ℕ) (x d : Row) (there : slice_get rs p ≡ Some x) (gone : Unfiled m m1 rs p) where
  none-filed : d.due ≡ None → Refiled m m1 rs p d None
  none-filed none = record {
    filed = record {
      filed = λ j r at. by j r (get-set rs p d j r at);
      only = λ q e at. let found = gone.only q e at in (found.0, found.1, set-other rs p d found.0 found.1 found.2 found.3, found.4);
    };
    known = gone.known;
    here = ap (known_by m1) none;
  }
    where
      by : (j : ℕ) (r : Row) → ((j ≡ p) × (r ≡ d)) ⊎ ((j ≢ p) × (slice_get rs j ≡ Some r)) → IsFiled m1 r
      by j r (inl h) = subst (IsFiled m1) (sym h.1) (subst (FiledBy m1 d.event d.kept) (sym none) tt)
      by j r (inr h) = gone.others j r h.0 h.1

  one-filed : (id : DueId) (e : Due) → d.due ≡ Some id → get m1 id.number ≡ None → e.event ≡ d.event → passes is_unmarked d.kept ≡ true → Refiled m (insert m1 id.number e) rs p d (Some e)
  one-filed id e is free its alive = record {
    filed = record {
      filed = λ j r at. by j r (get-set rs p d j r at);
      only = λ q f at. only q f at (cases_eq q id.number);
    };
    known = λ j r other at. known r (gone.others j r other at) r.due refl ∙ gone.known j r other at;
    here = ap (known_by (insert m1 id.number e)) is ∙ get-there m1 id.number e;
  }
    where
      apart : (jd : DueId) (f : Due) → get m1 jd.number ≡ Some f → jd.number ≢ id.number
      apart jd f at same = let clash : Some f ≡ None = sym at ∙ ap (get m1) same ∙ free in cc

      known : (r : Row) → FiledBy m1 r.event r.kept r.due → (o : Option DueId) → r.due ≡ o → known_by (insert m1 id.number e) r.due ≡ known_by m1 r.due
      known r h None at = ap (known_by (insert m1 id.number e)) at ∙ sym (ap (known_by m1) at)
      known r h (Some jd) at =
          let k : FiledBy m1 r.event r.kept (Some jd) = subst (FiledBy m1 r.event r.kept) at h in
          ap (known_by (insert m1 id.number e)) at ∙ get-elsewhere m1 id.number e jd.number (apart jd k.1.0 k.1.1) ∙ sym (ap (known_by m1) at)

      more : (r : Row) → FiledBy m1 r.event r.kept r.due → (o : Option DueId) → r.due ≡ o → IsFiled (insert m1 id.number e) r
      more r h None at = subst (FiledBy (insert m1 id.number e) r.event r.kept) (sym at) tt
      more r h (Some jd) at =
          let k : FiledBy m1 r.event r.kept (Some jd) = subst (FiledBy m1 r.event r.kept) at h in
          subst (FiledBy (insert m1 id.number e) r.event r.kept) (sym at) (k.0, (k.1.0, get-elsewhere m1 id.number e jd.number (apart jd k.1.0 k.1.1) ∙ k.1.1, k.1.2))

      by : (j : ℕ) (r : Row) → ((j ≡ p) × (r ≡ d)) ⊎ ((j ≢ p) × (slice_get rs j ≡ Some r)) → IsFiled (insert m1 id.number e) r
      by j r (inl h) = subst (IsFiled (insert m1 id.number e)) (sym h.1) (subst (FiledBy (insert m1 id.number e) d.event d.kept) (sym is) (alive, (e, get-there m1 id.number e, its)))
      by j r (inr h) = more r (gone.others j r h.0 h.1) r.due refl

      only : (q : ℕ) (f : Due) → get (insert m1 id.number e) q ≡ Some f → (q ≡ id.number) ⊎ (q ≢ id.number) → (j : ℕ) × (r : Row) × (slice_get (slice_set rs p d) j ≡ Some r) × (r.due ≡ Some (record { number = q }))
      only q f at (inl same) = (p, d, set-same rs p d x there, is ∙ ap (λ (n : ℕ). let i : DueId = record { number = n } in Some i) (sym same))
      only q f at (inr other) =
          let found = gone.only q f (sym (get-elsewhere m1 id.number e q other) ∙ at) in
          (found.0, found.1, set-other rs p d found.0 found.1 found.2 found.3, found.4)

  filed-by : (m' : FinMap nat_cmp Due) (due : Option Due) (id : Option DueId) → IsAdded m1 m' due id → d.due ≡ id → IsOfEvent d.event due → (is_some due ≡ true → passes is_unmarked d.kept ≡ true) → Refiled m m' rs p d due
  filed-by m' None None added is its alive = subst (λ (k : FinMap nat_cmp Due). Refiled m k rs p d None) (sym added) (none-filed is)
  filed-by m' None (Some id) added is its alive = absurd added
  filed-by m' (Some e) None added is its alive = absurd added
  filed-by m' (Some e) (Some id) added is its alive = subst (λ (k : FinMap nat_cmp Due). Refiled m k rs p d (Some e)) (sym added.1) (one-filed id e is added.0 its (alive refl))

-- a row's deadline went, and another one or none came
pub refiled : (m m1 m' : FinMap nat_cmp Due) (rs : List Row) (p : ℕ) (x d : Row) (due : Option Due) (id : Option DueId) → AreRising (keys rs) → slice_get rs p ≡ Some x → AreFiled m rs →
    m1 ≡ without_id x.due m → IsAdded m1 m' due id → d.due ≡ id → IsOfEvent d.event due → (is_some due ≡ true → passes is_unmarked d.kept ≡ true) → Refiled m m' rs p d due
refiled m m1 m' rs p x d due id rising there filed gone added is its alive =
    filed-by m m1 rs p x d there (subst (λ (k : FinMap nat_cmp Due). Unfiled m k rs p) (sym gone) (away m rs p x rising there filed x.due refl)) m' due id added is its alive

-- each is still the one that it should be
pub due-set : (m m' : FinMap nat_cmp Due) (es : List Event) (rs : List Row) (p : ℕ) (d : Row) (due : Option Due) → Refiled m m' rs p d due → RowDueBy m' es d.due d.kept → AreDue m es rs → AreDue m' es (slice_set rs p d)
due-set m m' es rs p d due f here h = from-rows m' es (slice_set rs p d) (λ j r at. by j r (get-set rs p d j r at))
  where
    by : (j : ℕ) (r : Row) → ((j ≡ p) × (r ≡ d)) ⊎ ((j ≢ p) × (slice_get rs j ≡ Some r)) → RowDue m' es r
    by j r (inl k) = subst (RowDue m' es) (sym k.1) here
    by j r (inr k) = known-due m m' es r.due r.kept (f.known j r k.0 k.1) (to-rows m es rs h j r k.1)

-- a row changes, and its deadline stays
pub same-filed : (m : FinMap nat_cmp Due) (rs : List Row) (p : ℕ) (x d : Row) → slice_get rs p ≡ Some x → d.due ≡ x.due → d.event ≡ x.event → passes is_unmarked d.kept ≡ passes is_unmarked x.kept → AreFiled m rs → Refiled m m rs p d (known_by m x.due)
same-filed m rs p x d there due event alive filed = record {
  filed = record {
    filed = λ j r at. by j r (get-set rs p d j r at);
    only = λ q e at. let found = filed.only q e at in only q found.0 found.1 found.2 found.3 (cases_eq found.0 p);
  };
  known = λ j r other at. refl;
  here = ap (known_by m) due;
}
  where
    moved : (o : Option DueId) → x.due ≡ o → FiledBy m x.event x.kept o → FiledBy m d.event d.kept o
    moved None is h = tt
    moved (Some id) is h = (alive ∙ h.0, (h.1.0, h.1.1, h.1.2 ∙ sym event))

    by : (j : ℕ) (r : Row) → ((j ≡ p) × (r ≡ d)) ⊎ ((j ≢ p) × (slice_get rs j ≡ Some r)) → IsFiled m r
    by j r (inl h) = subst (IsFiled m) (sym h.1) (subst (FiledBy m d.event d.kept) (sym due) (moved x.due refl (filed.filed p x there)))
    by j r (inr h) = filed.filed j r h.1

    only : (q j : ℕ) (r : Row) → slice_get rs j ≡ Some r → r.due ≡ Some (record { number = q }) → (j ≡ p) ⊎ (j ≢ p) → (k : ℕ) × (s : Row) × (slice_get (slice_set rs p d) k ≡ Some s) × (s.due ≡ Some (record { number = q }))
    only q j r at is (inl same) =
        let one : Some r ≡ Some x = sym at ∙ ap (slice_get rs) same ∙ there in
        let e : x ≡ r = cc in
        (p, d, set-same rs p d x there, due ∙ ap (λ (y : Row). y.due) e ∙ is)
    only q j r at is (inr other) = (j, r, set-other rs p d j r other at, is)

-- rows go that have no deadline
pub filter-filed : (m : FinMap nat_cmp Due) (q : Row → Bool) (rs : List Row) → ((r : Row) → passes is_unmarked r.kept ≡ true → q r ≡ true) → AreFiled m rs → AreFiled m (filter q rs)
filter-filed m q rs stays filed = record {
  filed = λ j r at. let found = filter-get q rs j r at in filed.filed found.0 r found.1;
  only = λ k e at.
      let found = filed.only k e at in
      let h : FiledBy m found.1.event found.1.kept (Some (record { number = k })) = subst (FiledBy m found.1.event found.1.kept) found.3 (filed.filed found.0 found.1 found.2) in
      let there = get-filter q rs found.0 found.1 found.2 (stays found.1 h.0) in
      (there.0, found.1, there.1, found.3);
}

pub due-filter : (m : FinMap nat_cmp Due) (es : List Event) (q : Row → Bool) (rs : List Row) → AreDue m es rs → AreDue m es (filter q rs)
due-filter m es q rs h = from-rows m es (filter q rs) (λ j r at. let found = filter-get q rs j r at in to-rows m es rs h found.0 r found.1)

-- one more row
module _ (m m' : FinMap nat_cmp Due) (rs : List Row) (r : Row) (due : Option Due) (filed : AreFiled m rs) (its : IsOfEvent r.event due) (alive : passes is_unmarked r.kept ≡ true) where
  none-more : r.due ≡ None → AreFiled m (rs ++ r ∷ [])
  none-more none = record {
    filed = λ j x at. by j x (snoc-get rs r j x at);
    only = λ q e at. let found = filed.only q e at in (found.0, found.1, get-snoc rs r found.0 found.1 found.2, found.3);
  }
    where
      by : (j : ℕ) (x : Row) → (slice_get rs j ≡ Some x) ⊎ (x ≡ r) → IsFiled m x
      by j x (inl at) = filed.filed j x at
      by j x (inr same) = subst (IsFiled m) (sym same) (subst (FiledBy m r.event r.kept) (sym none) tt)

  module _ (id : DueId) (e : Due) (is : r.due ≡ Some id) (free : get m id.number ≡ None) (of : e.event ≡ r.event) where
    apart-more : (jd : DueId) (f : Due) → get m jd.number ≡ Some f → jd.number ≢ id.number
    apart-more jd f at same = let clash : Some f ≡ None = sym at ∙ ap (get m) same ∙ free in cc

    still : (x : Row) → FiledBy m x.event x.kept x.due → (o : Option DueId) → x.due ≡ o → IsFiled (insert m id.number e) x × (known_by (insert m id.number e) x.due ≡ known_by m x.due)
    still x h None at = (subst (FiledBy (insert m id.number e) x.event x.kept) (sym at) tt, ap (known_by (insert m id.number e)) at ∙ sym (ap (known_by m) at))
    still x h (Some jd) at =
        let k : FiledBy m x.event x.kept (Some jd) = subst (FiledBy m x.event x.kept) at h in
        let other = get-elsewhere m id.number e jd.number (apart-more jd k.1.0 k.1.1) in (
          subst (FiledBy (insert m id.number e) x.event x.kept) (sym at) (k.0, (k.1.0, other ∙ k.1.1, k.1.2)),
          ap (known_by (insert m id.number e)) at ∙ other ∙ sym (ap (known_by m) at),
        )

    one-more : AreFiled (insert m id.number e) (rs ++ r ∷ [])
    one-more = record {
      filed = λ j x at. by j x (snoc-get rs r j x at);
      only = λ q f at. only q f at (cases_eq q id.number);
    }
      where
        by : (j : ℕ) (x : Row) → (slice_get rs j ≡ Some x) ⊎ (x ≡ r) → IsFiled (insert m id.number e) x
        by j x (inl at) = (still x (filed.filed j x at) x.due refl).0
        by j x (inr same) = subst (IsFiled (insert m id.number e)) (sym same) (subst (FiledBy (insert m id.number e) r.event r.kept) (sym is) (alive, (e, get-there m id.number e, of)))

        only : (q : ℕ) (f : Due) → get (insert m id.number e) q ≡ Some f → (q ≡ id.number) ⊎ (q ≢ id.number) → (j : ℕ) × (x : Row) × (slice_get (rs ++ r ∷ []) j ≡ Some x) × (x.due ≡ Some (record { number = q }))
        only q f at (inl same) = (length rs, r, get-last rs r, is ∙ ap (λ (n : ℕ). let i : DueId = record { number = n } in Some i) (sym same))
        only q f at (inr other) = let found = filed.only q f (sym (get-elsewhere m id.number e q other) ∙ at) in (found.0, found.1, get-snoc rs r found.0 found.1 found.2, found.3)

pub record More (m m' : FinMap nat_cmp Due) (rs : List Row) (r : Row) (due : Option Due) : Type 0 where
  pub filed : AreFiled m' (rs ++ r ∷ [])
  pub known : (j : ℕ) (x : Row) → slice_get rs j ≡ Some x → known_by m' x.due ≡ known_by m x.due
  pub here : known_by m' r.due ≡ due

pub more-filed : (m m' : FinMap nat_cmp Due) (rs : List Row) (r : Row) (due : Option Due) (id : Option DueId) → AreFiled m rs → IsOfEvent r.event due → passes is_unmarked r.kept ≡ true → IsAdded m m' due id → r.due ≡ id → More m m' rs r due
more-filed m m' rs r None None filed its alive added is = subst (λ (k : FinMap nat_cmp Due). More m k rs r None) (sym added) (record {
  filed = none-more m m' rs r None filed its alive is;
  known = λ j x at. refl;
  here = ap (known_by m) is;
})
more-filed m m' rs r None (Some id) filed its alive added is = absurd added
more-filed m m' rs r (Some e) None filed its alive added is = absurd added
more-filed m m' rs r (Some e) (Some id) filed its alive added is = subst (λ (k : FinMap nat_cmp Due). More m k rs r (Some e)) (sym added.1) (record {
  filed = one-more m m' rs r (Some e) filed its alive id e is added.0 its;
  known = λ j x at. (still m m' rs r (Some e) filed its alive id e is added.0 its x (filed.filed j x at) x.due refl).1;
  here = ap (known_by (insert m id.number e)) is ∙ get-there m id.number e;
})

pub due-snoc : (m m' : FinMap nat_cmp Due) (es : List Event) (rs : List Row) (r : Row) (due : Option Due) → More m m' rs r due → RowDueBy m' es r.due r.kept → AreDue m es rs → AreDue m' es (rs ++ r ∷ [])
due-snoc m m' es rs r due f here h = from-rows m' es (rs ++ r ∷ []) (λ j x at. by j x (snoc-get rs r j x at))
  where
    by : (j : ℕ) (x : Row) → (slice_get rs j ≡ Some x) ⊎ (x ≡ r) → RowDue m' es x
    by j x (inl at) = known-due m m' es x.due x.kept (f.known j x at) (to-rows m es rs h j x at)
    by j x (inr same) = subst (RowDue m' es) (sym same) here

-- nothing
pub empty-filed : (m : FinMap nat_cmp Due) (rs : List Row) → m ≡ empty → rs ≡ [] → AreFiled m rs
empty-filed m rs none nil = record {
  filed = λ j r at. absurd (let clash : None ≡ Some r = sym (ap (λ l. slice_get l j) nil) ∙ at in cc);
  only = λ q d at. absurd (let clash : Some d ≡ None = sym at ∙ ap (λ (x : FinMap nat_cmp Due). get x q) none ∙ get-empty nat_cmp q in cc);
}

-- the first of the heap is the first of all
firsts-there : (m : FinMap nat_cmp Due) (rs : List Row) (y : RunDue) → IsOneOf y (all_firsts (firsts_of m rs)) → (k : ℕ) × (d : Due) × (get m k ≡ Some d) × (run_due d ≡ y)
firsts-there m [] y one = absurd one
firsts-there m (r ∷ rs) y one = by r.kept r.due one (λ rest. firsts-there m rs y rest)
  where
    by_get : (id : DueId) (g : Option Due) → get m id.number ≡ g → IsOneOf y (option_to_list (option_map run_due g) ++ all_firsts (firsts_of m rs)) →
        (IsOneOf y (all_firsts (firsts_of m rs)) → (k : ℕ) × (d : Due) × (get m k ≡ Some d) × (run_due d ≡ y)) → (k : ℕ) × (d : Due) × (get m k ≡ Some d) × (run_due d ≡ y)
    by_get id None is one again = again one
    by_get id (Some d) is (inl same) again = (id.number, d, is, sym same)
    by_get id (Some d) is (inr rest) again = again rest

    by : (kept : Option Open) (o : Option DueId) → IsOneOf y (all_firsts (cons_option (option_map (λ (_ : Open). option_map run_due (known_by m o)) kept) (firsts_of m rs))) →
        (IsOneOf y (all_firsts (firsts_of m rs)) → (k : ℕ) × (d : Due) × (get m k ≡ Some d) × (run_due d ≡ y)) → (k : ℕ) × (d : Due) × (get m k ≡ Some d) × (run_due d ≡ y)
    by None o one again = again one
    by (Some x) None one again = again one
    by (Some x) (Some id) one again = by_get id (get m id.number) refl one again

firsts-only : (m : FinMap nat_cmp Due) (rs : List Row) (j : ℕ) (r : Row) (d : Due) (o : Open) → slice_get rs j ≡ Some r → r.kept ≡ Some o → known_by m r.due ≡ Some d → IsOneOf (run_due d) (all_firsts (firsts_of m rs))
firsts-only m [] j r d o at kept is = absurd (let clash : None ≡ Some r = at in cc)
firsts-only m (x ∷ rs) zero r d o at kept is =
    let same : x ≡ r = cc in
    let first : first_at m x ≡ Some (Some (run_due d)) = ap (first_at m) same ∙ ap (option_map (λ (_ : Open). option_map run_due (known_by m r.due))) kept ∙ ap (λ k. Some (option_map run_due k)) is in
    subst (λ f. IsOneOf (run_due d) (all_firsts (cons_option f (firsts_of m rs)))) (sym first) (inl refl)
firsts-only m (x ∷ rs) (suc j) r d o at kept is = by (first_at m x) (firsts-only m rs j r d o at kept is)
  where
    by : (f : Option (Option RunDue)) → IsOneOf (run_due d) (all_firsts (firsts_of m rs)) → IsOneOf (run_due d) (all_firsts (cons_option f (firsts_of m rs)))
    by None rest = rest
    by (Some g) rest = one-right (run_due d) (option_to_list g) (all_firsts (firsts_of m rs)) rest

pub first-of-all : (m : FinMap nat_cmp Due) (rs : List Row) (r : Option Due) → AreFiled m rs → IfSome r (IsLeastAt (get m)) → IfNone r ((k : ℕ) → get m k ≡ None) → option_map run_due r ≡ least (all_firsts (firsts_of m rs))
first-of-all m rs r filed first none = least-kept (get m) (all_firsts (firsts_of m rs)) r (record {
  there = λ y one. firsts-there m rs y one;
  only = λ k d at.
      let found = filed.only k d at in
      let h : FiledBy m found.1.event found.1.kept (Some (record { number = k })) = subst (FiledBy m found.1.event found.1.kept) found.3 (filed.filed found.0 found.1 found.2) in
      let o = here-is is_unmarked found.1.kept h.0 in
      firsts-only m rs found.0 found.1 d o.0 found.2 o.1 (ap (known_by m) found.3 ∙ at);
}) first none
