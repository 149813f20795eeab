-- what is in use by its rows, as rows change, die and come
use Rattle.std.proofs.Common.{◌≡◌, ◌≢◌, ℕ, zero, suc, ◌<◌, ◌≤◌, ◌⊎◌, inl, inr, Bool, true, false, cond, not, ◌&&◌, ◌||◌, ◌==◌, List, [], ◌∷◌, ◌++◌, map, filter, length, slice_index_or, slice_set, slice_get, refl, sym, ap, arith, ◌∙◌, subst}
use Rattle.std.specs.Prelude.{Option, None, Some, is_some, filter_map, find, option_and_then, option_map}
use Rattle.std.specs.List.{AllByRecursion, cons_option}
use Rattle.std.proofs.lemmas.Bool.{cases_eq, cases_lt}
use Rattle.std.proofs.lemmas.Bool.Decides.{nat_tests}
use Rattle.wf_event.specs.declared.role.Opener.{Opener}
use Rattle.wf_event.specs.Role.{class_number}
use Rattle.service_model_types.specs.declared.journal.NoteFact.{NoteFact}
use Rattle.mutable_state.specs.declared.open.Open.{Open}
use Rattle.mutable_state.specs.declared.rows.Row.{Row}
use Rattle.mutable_state.specs.Noted.{noted}
use Rattle.mutable_state.specs.Opens.{is_one, mark, marked, ask, asked_in, unmarked, without, noted_in, activity_of, MayAddTo, MayNote}
use Rattle.mutable_state.specs.Rows.{keys, living, AreRising, IsPlaceOf, NamedBy, IsNamed, passes, is_at, IsRowAt, HasRow, marked_in, asked_one, noted_one, MayAddIn, AreKept, read_in}
use Rattle.mutable_state.proofs.KeyLemmas.{rising-at, rising-snoc, all-weaker, all-end}

-- lists of rows, and what is read of each

pub get-read : {X : Type 0} (rs : List X) (m : ℕ) (d : X) → m < length rs → slice_get rs m ≡ Some (slice_index_or rs m d)
get-read [] m d within = absurd (omega arith)
get-read (r ∷ rs) zero d within = refl
get-read (r ∷ rs) (suc m) d within = get-read rs m d (omega arith)

pub count-keys : (rs : List Row) → length (keys rs) ≡ length rs
count-keys [] = refl
count-keys (r ∷ rs) = ap suc (count-keys rs)

pub key-at : (rs : List Row) (p : ℕ) (r : Row) → slice_get rs p ≡ Some r → (p < length rs) × (slice_index_or (keys rs) p 0 ≡ r.event)
key-at [] p r is = absurd (let clash : None ≡ Some r = is in cc)
key-at (x ∷ rs) zero r is = (omega arith, (let same : x ≡ r = cc in ap (λ (y : Row). y.event) same))
key-at (x ∷ rs) (suc p) r is = let rest = key-at rs p r is in let less = rest.0 in (omega arith, rest.1)

pub all-get : {X : Type 0} (P : X → Type 0) (xs : List X) (p : ℕ) (x : X) → AllByRecursion P xs → slice_get xs p ≡ Some x → P x
all-get P [] p x h is = absurd (let clash : None ≡ Some x = is in cc)
all-get P (y ∷ xs) zero x h is = let same : y ≡ x = cc in subst P same h.0
all-get P (y ∷ xs) (suc p) x h is = all-get P xs p x h.1 is

pub all-set : {X : Type 0} (P : X → Type 0) (xs : List X) (p : ℕ) (x : X) → AllByRecursion P xs → P x → AllByRecursion P (slice_set xs p x)
all-set P [] p x h new = tt
all-set P (y ∷ xs) zero x h new = (new, h.1)
all-set P (y ∷ xs) (suc p) x h new = (h.0, all-set P xs p x h.1 new)

pub all-snoc : {X : Type 0} (P : X → Type 0) (xs : List X) (x : X) → AllByRecursion P xs → P x → AllByRecursion P (xs ++ x ∷ [])
all-snoc P [] x h new = (new, tt)
all-snoc P (y ∷ xs) x h new = (h.0, all-snoc P xs x h.1 new)

pub all-filtered : {X : Type 0} (P : X → Type 0) (q : X → Bool) (xs : List X) → AllByRecursion P xs → AllByRecursion P (filter q xs)
all-filtered P q [] h = tt
all-filtered P q (x ∷ xs) h = by (q x) (all-filtered P q xs h.1)
  where
    by : (b : Bool) → AllByRecursion P (filter q xs) → AllByRecursion P (cond b (x ∷ filter q xs) (filter q xs))
    by true rest = (h.0, rest)
    by false rest = rest

-- one of a list is another one: what is read of the list is what it was, with that one changed or away
pub changed : {X Y : Type 0} (f f' : X → Option Y) (g : Y → Option Y) (xs : List X) (p : ℕ) (x' : X) →
    ((j : ℕ) (x : X) → j ≢ p → slice_get xs j ≡ Some x → f' x ≡ option_and_then g (f x)) → ((x : X) → slice_get xs p ≡ Some x → f' x' ≡ option_and_then g (f x)) →
    filter_map f' (slice_set xs p x') ≡ filter_map g (filter_map f xs)
changed f f' g [] p x' others here = refl
changed {X = X} {Y = Y} f f' g (y ∷ xs) zero x' others here =
    ap (λ o. cons_option o (filter_map f' xs)) (here y refl) ∙ ap (cons_option (option_and_then g (f y))) (same xs (λ j x is. others (suc j) x (λ e. omega arith) is)) ∙ split (f y)
  where
    split : (o : Option Y) → cons_option (option_and_then g o) (filter_map g (filter_map f xs)) ≡ filter_map g (cons_option o (filter_map f xs))
    split None = refl
    split (Some y) = refl

    same : (zs : List X) → ((j : ℕ) (x : X) → slice_get zs j ≡ Some x → f' x ≡ option_and_then g (f x)) → filter_map f' zs ≡ filter_map g (filter_map f zs)
    same [] all = refl
    same (z ∷ zs) all = ap (λ o. cons_option o (filter_map f' zs)) (all 0 z refl) ∙ ap (cons_option (option_and_then g (f z))) (same zs (λ j x is. all (suc j) x is)) ∙ one (f z)
      where
        one : (o : Option Y) → cons_option (option_and_then g o) (filter_map g (filter_map f zs)) ≡ filter_map g (cons_option o (filter_map f zs))
        one None = refl
        one (Some y) = refl
changed {Y = Y} f f' g (y ∷ xs) (suc p) x' others here =
    ap (λ o. cons_option o (filter_map f' (slice_set xs p x'))) (others 0 y (λ e. omega arith) refl)
    ∙ ap (cons_option (option_and_then g (f y))) (changed f f' g xs p x' (λ j x other is. others (suc j) x (λ e. other (let same : j ≡ p = omega arith in same)) is) (λ x is. here x is))
    ∙ split (f y)
  where
    split : (o : Option Y) → cons_option (option_and_then g o) (filter_map g (filter_map f xs)) ≡ filter_map g (cons_option o (filter_map f xs))
    split None = refl
    split (Some y) = refl

pub unchanged : {X Y : Type 0} (f : X → Option Y) (g : Y → Option Y) (xs : List X) → ((j : ℕ) (x : X) → slice_get xs j ≡ Some x → f x ≡ option_and_then g (f x)) → filter_map f xs ≡ filter_map g (filter_map f xs)
unchanged f g [] all = refl
unchanged {Y = Y} f g (z ∷ zs) all = ap (λ o. cons_option o (filter_map f zs)) (all 0 z refl) ∙ ap (cons_option (option_and_then g (f z))) (unchanged f g zs (λ j x is. all (suc j) x is)) ∙ one (f z)
  where
    one : (o : Option Y) → cons_option (option_and_then g o) (filter_map g (filter_map f zs)) ≡ filter_map g (cons_option o (filter_map f zs))
    one None = refl
    one (Some y) = refl

-- a filter and a map as one
pub filter-as : {X : Type 0} (p : X → Bool) (xs : List X) → filter p xs ≡ filter_map (λ x. cond (p x) (Some x) None) xs
filter-as p [] = refl
filter-as p (x ∷ xs) = by (p x) ∙ ap (cons_option (cond (p x) (Some x) None)) (filter-as p xs)
  where
    by : (b : Bool) → cond b (x ∷ filter p xs) (filter p xs) ≡ cons_option (cond b (Some x) None) (filter p xs)
    by true = refl
    by false = refl

pub map-as : {X : Type 0} (f : X → X) (xs : List X) → map f xs ≡ filter_map (λ x. Some (f x)) xs
map-as f [] = refl
map-as f (x ∷ xs) = ap (λ l. f x ∷ l) (map-as f xs)

-- what is found
pub find-at : {X Y : Type 0} (f : X → Option Y) (p : Y → Bool) (q : X → Bool) (xs : List X) (at : ℕ) (x : X) (y : Y) → ((z : X) (w : Y) → f z ≡ Some w → q z ≡ p w) →
    slice_get xs at ≡ Some x → f x ≡ Some y → q x ≡ true → ((j : ℕ) (z : X) → j ≢ at → slice_get xs j ≡ Some z → q z ≡ false) → find p (filter_map f xs) ≡ Some y
find-at f p q [] at x y same there is here others = absurd (let clash : None ≡ Some x = there in cc)
find-at f p q (z ∷ xs) zero x y same there is here others =
    let one : z ≡ x = cc in
    ap (λ o. find p (cons_option o (filter_map f xs))) (ap f one ∙ is) ∙ ap (λ b. cond b (Some y) (find p (filter_map f xs))) (sym (same x y is) ∙ here)
find-at {Y = Y} f p q (z ∷ xs) (suc at) x y same there is here others =
    by (f z) refl ∙ find-at f p q xs at x y same there is here (λ j w other h. others (suc j) w (λ e. other (let k : j ≡ at = omega arith in k)) h)
  where
    by : (o : Option Y) → f z ≡ o → find p (cons_option (f z) (filter_map f xs)) ≡ find p (filter_map f xs)
    by None h = ap (λ o. find p (cons_option o (filter_map f xs))) h
    by (Some w) h =
        ap (λ o. find p (cons_option o (filter_map f xs))) h
        ∙ ap (λ b. cond b (Some w) (find p (filter_map f xs))) (sym (same z w h) ∙ others 0 z (λ e. omega arith) refl)

pub find-none : {X Y : Type 0} (f : X → Option Y) (p : Y → Bool) (q : X → Bool) (xs : List X) → ((z : X) (w : Y) → f z ≡ Some w → q z ≡ p w) → ((j : ℕ) (z : X) → slice_get xs j ≡ Some z → q z ≡ false) → find p (filter_map f xs) ≡ None
find-none f p q [] same none = refl
find-none {Y = Y} f p q (z ∷ xs) same none = by (f z) refl ∙ find-none f p q xs same (λ j w h. none (suc j) w h)
  where
    by : (o : Option Y) → f z ≡ o → find p (cons_option (f z) (filter_map f xs)) ≡ find p (filter_map f xs)
    by None h = ap (λ o. find p (cons_option o (filter_map f xs))) h
    by (Some w) h =
        ap (λ o. find p (cons_option o (filter_map f xs))) h
        ∙ ap (λ b. cond b (Some w) (find p (filter_map f xs))) (sym (same z w h) ∙ none 0 z refl)

-- what is read of rows is read of what is in use
pub read-living : {Y : Type 0} (g : Open → Option Y) (rs : List Row) → filter_map (read_in g) rs ≡ filter_map g (living rs)
read-living g [] = refl
read-living {Y = Y} g (r ∷ rs) = ap (cons_option (read_in g r)) (read-living g rs) ∙ one r.kept
  where
    one : (o : Option Open) → cons_option (option_and_then g o) (filter_map g (living rs)) ≡ filter_map g (cons_option o (living rs))
    one None = refl
    one (Some y) = refl

pub count-living : (p : Open → Bool) (rs : List Row) → length (filter (λ (r : Row). passes p r.kept) rs) ≡ length (filter p (living rs))
count-living p [] = refl
count-living p (r ∷ rs) = by r.kept (count-living p rs)
  where
    by : (o : Option Open) → length (filter (λ (r : Row). passes p r.kept) rs) ≡ length (filter p (living rs)) →
        length (cond (passes p o) (r ∷ filter (λ (r : Row). passes p r.kept) rs) (filter (λ (r : Row). passes p r.kept) rs)) ≡ length (filter p (cons_option o (living rs)))
    by None again = again
    by (Some o) again = by_test (p o)
      where
        by_test : (b : Bool) → length (cond b (r ∷ filter (λ (r : Row). passes p r.kept) rs) (filter (λ (r : Row). passes p r.kept) rs)) ≡ length (cond b (o ∷ filter p (living rs)) (filter p (living rs)))
        by_test true = ap suc again
        by_test false = again

-- rows that go
pub living-kept : (p : Open → Bool) (rs : List Row) → living (filter (λ (r : Row). passes p r.kept) rs) ≡ filter p (living rs)
living-kept p [] = refl
living-kept p (r ∷ rs) = by r.kept refl (living-kept p rs)
  where
    by : (o : Option Open) → r.kept ≡ o → living (filter (λ (r : Row). passes p r.kept) rs) ≡ filter p (living rs) →
        living (cond (passes p r.kept) (r ∷ filter (λ (r : Row). passes p r.kept) rs) (filter (λ (r : Row). passes p r.kept) rs)) ≡ filter p (cons_option r.kept (living rs))
    by None is again =
        ap (λ o. living (cond (passes p o) (r ∷ filter (λ (r : Row). passes p r.kept) rs) (filter (λ (r : Row). passes p r.kept) rs))) is ∙ again ∙ sym (ap (λ o. filter p (cons_option o (living rs))) is)
    by (Some o) is again =
        ap (λ b. living (cond b (r ∷ filter (λ (r : Row). passes p r.kept) rs) (filter (λ (r : Row). passes p r.kept) rs))) (ap (passes p) is) ∙ by_test (p o) ∙ sym (ap (λ x. filter p (cons_option x (living rs))) is)
      where
        by_test : (b : Bool) → living (cond b (r ∷ filter (λ (r : Row). passes p r.kept) rs) (filter (λ (r : Row). passes p r.kept) rs)) ≡ cond b (o ∷ filter p (living rs)) (filter p (living rs))
        by_test true = ap (λ x. cons_option x (living (filter (λ (r : Row). passes p r.kept) rs))) is ∙ ap (λ l. o ∷ l) again
        by_test false = again

abbrev pub is_alive : Row → Bool
is_alive r = is_some r.kept

pub living-alive : (rs : List Row) → living (filter is_alive rs) ≡ living rs
living-alive [] = refl
living-alive (r ∷ rs) = by r.kept refl (living-alive rs)
  where
    by : (o : Option Open) → r.kept ≡ o → living (filter is_alive rs) ≡ living rs → living (cond (is_some r.kept) (r ∷ filter is_alive rs) (filter is_alive rs)) ≡ cons_option r.kept (living rs)
    by None is again = ap (λ o. living (cond (is_some o) (r ∷ filter is_alive rs) (filter is_alive rs))) is ∙ again ∙ sym (ap (λ o. cons_option o (living rs)) is)
    by (Some o) is again = ap (λ x. living (cond (is_some x) (r ∷ filter is_alive rs) (filter is_alive rs))) is ∙ ap (cons_option r.kept) again

pub keys-filtered : (P : ℕ → Type 0) (q : Row → Bool) (rs : List Row) → AllByRecursion P (keys rs) → AllByRecursion P (keys (filter q rs))
keys-filtered P q [] h = tt
keys-filtered P q (r ∷ rs) h = by (q r) (keys-filtered P q rs h.1)
  where
    by : (b : Bool) → AllByRecursion P (keys (filter q rs)) → AllByRecursion P (keys (cond b (r ∷ filter q rs) (filter q rs)))
    by true rest = (h.0, rest)
    by false rest = rest

pub rising-filtered : (q : Row → Bool) (rs : List Row) → AreRising (keys rs) → AreRising (keys (filter q rs))
rising-filtered q [] h = tt
rising-filtered q (r ∷ rs) h = by (q r) (rising-filtered q rs h.1)
  where
    by : (b : Bool) → AreRising (keys (filter q rs)) → AreRising (keys (cond b (r ∷ filter q rs) (filter q rs)))
    by true rest = (keys-filtered (λ j. r.event < j) q rs h.0, rest)
    by false rest = rest

-- where this one is

class-other : (b : Bool) (m n : ℕ) → m ≢ n → (b && (m == n)) ≡ false
class-other true m n other = grind (arith, nat_tests)
class-other false m n other = refl

pub other-event : (k : Opener) (r : Row) → IsNamed r → r.event ≢ k.event → is_at k r ≡ false
other-event k r named other = by r.kept refl
  where
    by : (o : Option Open) → r.kept ≡ o → passes (is_one k) r.kept ≡ false
    by None is = ap (passes (is_one k)) is
    by (Some o) is =
        let same : o.opener.event ≡ r.event = subst (NamedBy r.event) is named in
        ap (passes (is_one k)) is ∙ class-other (class_number o.opener.class == class_number k.class) o.opener.event k.event (λ e. other (sym same ∙ e))

pub row-none : (k : Opener) (rs : List Row) → AllByRecursion IsNamed rs → IsPlaceOf k.event (keys rs) None → HasRow k rs None
row-none k rs named none j r there =
    let at = key-at rs j r there in
    let inside : j < length (keys rs) = subst (λ n. j < n) (sym (count-keys rs)) at.0 in
    other-event k r (all-get IsNamed rs j r named there) (λ e. none j inside (at.1 ∙ e))

module _ (k : Opener) (rs : List Row) (rising : AreRising (keys rs)) (named : AllByRecursion IsNamed rs) (p : ℕ) (row : Row) (there : slice_get rs p ≡ Some row) (key : row.event ≡ k.event) where
  pub others-not : (j : ℕ) (r : Row) → j ≢ p → slice_get rs j ≡ Some r → is_at k r ≡ false
  others-not j r other is =
      let at = key-at rs j r is in
      let here = key-at rs p row there in
      other-event k r (all-get IsNamed rs j r named is) (λ e. two (sym at.1) (key-at rs p row there).1 (e ∙ sym key) (sides j p other) at.0 here.0)
    where
      sides : (m n : ℕ) → m ≢ n → (m < n) ⊎ (n < m)
      sides m n apart = by (cases_lt m n)
        where
          by : (m < n) ⊎ (n ≤ m) → (m < n) ⊎ (n < m)
          by (inl less) = inl less
          by (inr more) = inr (omega arith)

      two : r.event ≡ slice_index_or (keys rs) j 0 → slice_index_or (keys rs) p 0 ≡ row.event → r.event ≡ row.event → (j < p) ⊎ (p < j) → j < length rs → p < length rs → ⊥
      two a b same (inl less) wj wp =
          let rise = rising-at (keys rs) j p rising less (subst (λ n. p < n) (sym (count-keys rs)) wp) in
          omega arith
      two a b same (inr less) wj wp =
          let rise = rising-at (keys rs) p j rising less (subst (λ n. j < n) (sym (count-keys rs)) wj) in
          omega arith

  pub row-some : is_at k row ≡ true → IsRowAt k rs p
  row-some is = record {
    row = row;
    there = there;
    within = (key-at rs p row there).0;
    is = is;
    others = others-not;
  }

  pub row-not : is_at k row ≡ false → HasRow k rs None
  row-not is j r at = by (cases_eq j p)
    where
      by : (j ≡ p) ⊎ (j ≢ p) → is_at k r ≡ false
      by (inl same) =
          let one : Some r ≡ Some row = sym at ∙ ap (slice_get rs) same ∙ there in
          let e : r ≡ row = cc in
          ap (is_at k) e ∙ is
      by (inr other) = others-not j r other at

-- what is here
pub here-is : (p : Open → Bool) (o : Option Open) → passes p o ≡ true → (x : Open) × (o ≡ Some x) × (p x ≡ true)
here-is p None h = absurd (cc)
here-is p (Some x) h = (x, refl, h)

not-here : (k : Opener) (g : Open → Option Open) → ((x : Open) → is_one k x ≡ false → g x ≡ Some x) → (r : Row) → is_at k r ≡ false → r.kept ≡ option_and_then g r.kept
not-here k g stays r other = by r.kept refl
  where
    by : (o : Option Open) → r.kept ≡ o → r.kept ≡ option_and_then g r.kept
    by None is = is ∙ sym (ap (option_and_then g) is)
    by (Some x) is = is ∙ sym (stays x (sym (ap (passes (is_one k)) is) ∙ other)) ∙ sym (ap (option_and_then g) is)

-- what is in use where the row of this one changed, or it is nowhere
pub change-at : (k : Opener) (g : Open → Option Open) (rs : List Row) (p : ℕ) (d : Row) → ((x : Open) → is_one k x ≡ false → g x ≡ Some x) → (h : IsRowAt k rs p) → d.kept ≡ option_and_then g h.row.kept → living (slice_set rs p d) ≡ filter_map g (living rs)
change-at k g rs p d stays h is = changed (λ (r : Row). r.kept) (λ (r : Row). r.kept) g rs p d
    (λ j r other at. not-here k g stays r (h.others j r other at))
    (λ r at. is ∙ ap (λ (x : Row). option_and_then g x.kept) (one h.row r (sym h.there ∙ at)))
  where
    one : (x y : Row) → Some x ≡ Some y → x ≡ y
    one x y e = cc

pub change-none : (k : Opener) (g : Open → Option Open) (rs : List Row) → ((x : Open) → is_one k x ≡ false → g x ≡ Some x) → HasRow k rs None → living rs ≡ filter_map g (living rs)
change-none k g rs stays none = unchanged (λ (r : Row). r.kept) g rs (λ j r at. not-here k g stays r (none j r at))

-- it is removed
away : Opener → Open → Option Open
away k o = cond (not (is_one k o)) (Some o) None

away-stays : (k : Opener) (x : Open) → is_one k x ≡ false → away k x ≡ Some x
unfolding away
away-stays k x other = ap (λ b. cond (not b) (Some x) None) other

pub taken : (k : Opener) (rs : List Row) (p : ℕ) (d : Row) → IsRowAt k rs p → d.kept ≡ None → living (slice_set rs p d) ≡ without (Some k) (living rs)
unfolding away
taken k rs p d h dead =
    let x = here-is (is_one k) h.row.kept h.is in
    change-at k (away k) rs p d (away-stays k) h (dead ∙ sym (ap (option_and_then (away k)) x.1 ∙ ap (λ b. cond (not b) (Some x.0) None) x.2))
    ∙ sym (filter-as (λ o. not (is_one k o)) (living rs))

pub taken-none : (k : Opener) (rs : List Row) → HasRow k rs None → living rs ≡ without (Some k) (living rs)
unfolding away
taken-none k rs none = change-none k (away k) rs (away-stays k) none ∙ sym (filter-as (λ o. not (is_one k o)) (living rs))

-- one of them changes
by-map : (k : Opener) (f : Open → Open) → ((x : Open) → is_one k x ≡ false → f x ≡ x) → (rs : List Row) (p : ℕ) (d : Row) (h : IsRowAt k rs p) → ((x : Open) → is_one k x ≡ true → h.row.kept ≡ Some x → d.kept ≡ Some (f x)) → living (slice_set rs p d) ≡ map f (living rs)
by-map k f stays rs p d h is =
    let x = here-is (is_one k) h.row.kept h.is in
    change-at k (λ o. Some (f o)) rs p d (λ y other. ap (λ (z : Open). Some z) (stays y other)) h (is x.0 x.2 x.1 ∙ sym (ap (option_and_then (λ o. Some (f o))) x.1))
    ∙ sym (map-as f (living rs))

by-map-none : (k : Opener) (f : Open → Open) → ((x : Open) → is_one k x ≡ false → f x ≡ x) → (rs : List Row) → HasRow k rs None → living rs ≡ map f (living rs)
by-map-none k f stays rs none = change-none k (λ o. Some (f o)) rs (λ y other. ap (λ (z : Open). Some z) (stays y other)) none ∙ sym (map-as f (living rs))

or-false : (b : Bool) → (b || false) ≡ b
or-false true = refl
or-false false = refl

or-true : (b : Bool) → (b || true) ≡ true
or-true true = refl
or-true false = refl

mark-stays : (k : Opener) (x : Open) → is_one k x ≡ false → mark k x ≡ x
mark-stays k x other = ap (λ b. let y : Open = record x { is_settled = b } in y) (ap (λ b. x.is_settled || b) other ∙ or-false x.is_settled)

pub marked-at : (k : Opener) (rs : List Row) (p : ℕ) (d : Row) (h : IsRowAt k rs p) → d.kept ≡ option_map marked_in h.row.kept → living (slice_set rs p d) ≡ marked (Some k) (living rs)
marked-at k rs p d h is = by-map k (mark k) (mark-stays k) rs p d h
    (λ x one at. is ∙ ap (option_map marked_in) at ∙ ap (λ b. let y : Open = record x { is_settled = b } in Some y) (sym (ap (λ b. x.is_settled || b) one ∙ or-true x.is_settled)))

pub marked-none : (k : Opener) (rs : List Row) → HasRow k rs None → living rs ≡ marked (Some k) (living rs)
marked-none k rs none = by-map-none k (mark k) (mark-stays k) rs none

ask-stays : (id : ℕ) (x : Open) → is_one (activity_of id) x ≡ false → ask id x ≡ x
ask-stays id x other = ap (λ b. let y : Open = record x { notes = record x.notes { cancel_requested = b } } in y) (ap (λ b. x.notes.cancel_requested || b) other ∙ or-false x.notes.cancel_requested)

pub asked-at : (id : ℕ) (rs : List Row) (p : ℕ) (d : Row) (h : IsRowAt (activity_of id) rs p) → d.kept ≡ option_map asked_one h.row.kept → living (slice_set rs p d) ≡ asked_in (Some id) (living rs)
asked-at id rs p d h is = by-map (activity_of id) (ask id) (ask-stays id) rs p d h
    (λ x one at. is ∙ ap (option_map asked_one) at
    ∙ ap (λ b. let y : Open = record x { notes = record x.notes { cancel_requested = b } } in Some y) (sym (ap (λ b. x.notes.cancel_requested || b) one ∙ or-true x.notes.cancel_requested)))

pub asked-none : (id : ℕ) (rs : List Row) → HasRow (activity_of id) rs None → living rs ≡ asked_in (Some id) (living rs)
asked-none id rs none = by-map-none (activity_of id) (ask id) (ask-stays id) rs none

-- a note on the first that is the activity, where it is at one place
pub noted-place : (at : ℕ) (n : NoteFact) (rs : List Row) (p : ℕ) (d : Row) (h : IsRowAt (activity_of n.activity) rs p) → d.kept ≡ option_map (noted_one at n.note) h.row.kept → living (slice_set rs p d) ≡ noted_in at n (living rs)
noted-place at n rs p d h is = by rs p h.row h.there h.is is h.others
  where
    row : (r : Row) → is_at (activity_of n.activity) r ≡ true → (l : List Open) → cons_option (option_map (noted_one at n.note) r.kept) l ≡ noted_in at n (cons_option r.kept l)
    row r one l =
        let x = here-is (is_one (activity_of n.activity)) r.kept one in
        ap (λ o. cons_option (option_map (noted_one at n.note) o) l) x.1
        ∙ sym (ap (λ o. noted_in at n (cons_option o l)) x.1 ∙ ap (λ b. cond b (noted_one at n.note x.0 ∷ l) (x.0 ∷ noted_in at n l)) x.2)

    skip : (r : Row) → is_at (activity_of n.activity) r ≡ false → (l l' : List Open) → l ≡ noted_in at n l' → cons_option r.kept l ≡ noted_in at n (cons_option r.kept l')
    skip r other l l' again = by_open r.kept refl
      where
        by_open : (o : Option Open) → r.kept ≡ o → cons_option r.kept l ≡ noted_in at n (cons_option r.kept l')
        by_open None e = ap (λ o. cons_option o l) e ∙ again ∙ sym (ap (λ o. noted_in at n (cons_option o l')) e)
        by_open (Some x) e =
            ap (λ o. cons_option o l) e ∙ ap (λ t. x ∷ t) again
            ∙ sym (ap (λ o. noted_in at n (cons_option o l')) e ∙ ap (λ b. cond b (noted_one at n.note x ∷ l') (x ∷ noted_in at n l')) (sym (ap (passes (is_one (activity_of n.activity))) e) ∙ other))

    by : (rs : List Row) (p : ℕ) (r : Row) → slice_get rs p ≡ Some r → is_at (activity_of n.activity) r ≡ true → d.kept ≡ option_map (noted_one at n.note) r.kept →
        ((j : ℕ) (x : Row) → j ≢ p → slice_get rs j ≡ Some x → is_at (activity_of n.activity) x ≡ false) → living (slice_set rs p d) ≡ noted_in at n (living rs)
    by [] p r there one new others = absurd (let clash : None ≡ Some r = there in cc)
    by (x ∷ rs) zero r there one new others =
        let same : x ≡ r = cc in
        ap (λ o. cons_option o (living rs)) new ∙ row r one (living rs) ∙ ap (λ (y : Row). noted_in at n (cons_option y.kept (living rs))) (sym same)
    by (x ∷ rs) (suc p) r there one new others =
        skip x (others 0 x (λ e. omega arith) refl) _ (living rs) (by rs p r there one new (λ j y other at. others (suc j) y (λ e. other (let q : j ≡ p = omega arith in q)) at))

pub noted-nowhere : (at : ℕ) (n : NoteFact) (rs : List Row) → HasRow (activity_of n.activity) rs None → living rs ≡ noted_in at n (living rs)
noted-nowhere at n [] none = refl
noted-nowhere at n (r ∷ rs) none = by r.kept refl (noted-nowhere at n rs (λ j x is. none (suc j) x is))
  where
    by : (o : Option Open) → r.kept ≡ o → living rs ≡ noted_in at n (living rs) → cons_option r.kept (living rs) ≡ noted_in at n (cons_option r.kept (living rs))
    by None e again = ap (λ o. cons_option o (living rs)) e ∙ again ∙ sym (ap (λ o. noted_in at n (cons_option o (living rs))) e)
    by (Some x) e again =
        ap (λ o. cons_option o (living rs)) e ∙ ap (λ t. x ∷ t) again
        ∙ sym (ap (λ o. noted_in at n (cons_option o (living rs))) e ∙ ap (λ b. cond b (noted_one at n.note x ∷ living rs) (x ∷ noted_in at n (living rs))) (sym (ap (passes (is_one (activity_of n.activity))) e) ∙ none 0 r refl))

-- what is found among what is in use
pub found-row : (k : Opener) (rs : List Row) (p : ℕ) (h : IsRowAt k rs p) → find (is_one k) (living rs) ≡ h.row.kept
found-row k rs p h =
    let x = here-is (is_one k) h.row.kept h.is in
    find-at (λ (r : Row). r.kept) (is_one k) (is_at k) rs p h.row x.0 (λ z w e. ap (passes (is_one k)) e) h.there x.1 h.is h.others ∙ sym x.1

pub found-none : (k : Opener) (rs : List Row) → HasRow k rs None → find (is_one k) (living rs) ≡ None
found-none k rs none = find-none (λ (r : Row). r.kept) (is_one k) (is_at k) rs (λ z w e. ap (passes (is_one k)) e) none

-- keys stay as a row changes
pub same-keys : (rs : List Row) (p : ℕ) (r d : Row) → slice_get rs p ≡ Some r → d.event ≡ r.event → keys (slice_set rs p d) ≡ keys rs
same-keys [] p r d is same = refl
same-keys (x ∷ rs) zero r d is same = let e : x ≡ r = cc in ap (λ k. k ∷ keys rs) (same ∙ sym (ap (λ (y : Row). y.event) e))
same-keys (x ∷ rs) (suc p) r d is same = ap (λ ks. x.event ∷ ks) (same-keys rs p r d is same)

pub kept-set : (rs : List Row) (last : ℕ) (b b' : Bool) (p : ℕ) (r d : Row) → AreKept rs last b → slice_get rs p ≡ Some r → d.event ≡ r.event → IsNamed d →
    (b' ≡ false → AllByRecursion (λ (o : Open). o.is_settled ≡ false) (living (slice_set rs p d))) → AreKept (slice_set rs p d) last b'
kept-set rs last b b' p r d kept there same named marks =
    let ks = same-keys rs p r d there same in
    record {
      rising = subst AreRising (sym ks) kept.rising;
      low = subst (AllByRecursion (λ j. j ≤ last)) (sym ks) kept.low;
      named = all-set IsNamed rs p d kept.named named;
      marks = marks;
    }

pub kept-filtered : (q : Row → Bool) (rs : List Row) (last : ℕ) (b b' : Bool) → AreKept rs last b → (b' ≡ false → AllByRecursion (λ (o : Open). o.is_settled ≡ false) (living (filter q rs))) → AreKept (filter q rs) last b'
kept-filtered q rs last b b' kept marks = record {
  rising = rising-filtered q rs kept.rising;
  low = keys-filtered (λ j. j ≤ last) q rs kept.low;
  named = all-filtered IsNamed q rs kept.named;
  marks = marks;
}

keys-snoc : (rs : List Row) (r : Row) → keys (rs ++ r ∷ []) ≡ keys rs ++ r.event ∷ []
keys-snoc [] r = refl
keys-snoc (x ∷ rs) r = ap (λ ks. x.event ∷ ks) (keys-snoc rs r)

pub living-snoc : (rs : List Row) (r : Row) → living (rs ++ r ∷ []) ≡ living rs ++ cons_option r.kept []
living-snoc [] r = refl
living-snoc (x ∷ rs) r = by x.kept (living-snoc rs r)
  where
    by : (o : Option Open) → living (rs ++ r ∷ []) ≡ living rs ++ cons_option r.kept [] → cons_option o (living (rs ++ r ∷ [])) ≡ cons_option o (living rs) ++ cons_option r.kept []
    by None rest = rest
    by (Some v) rest = ap (λ es. v ∷ es) rest

pub kept-snoc : (rs : List Row) (last : ℕ) (b : Bool) (r : Row) (o : Open) → AreKept rs last b → last < r.event → r.kept ≡ Some o → o.opener.event ≡ r.event → o.is_settled ≡ false → AreKept (rs ++ r ∷ []) r.event b
kept-snoc rs last b r o kept behind is named fresh = record {
  rising = subst AreRising (sym (keys-snoc rs r)) (rising-snoc (keys rs) r.event kept.rising (all-weaker (λ j. j ≤ last) (λ j. j < r.event) (λ j h. omega arith) (keys rs) kept.low));
  low = subst (AllByRecursion (λ j. j ≤ r.event)) (sym (keys-snoc rs r)) (all-end (λ j. j ≤ r.event) (keys rs) r.event (all-weaker (λ j. j ≤ last) (λ j. j ≤ r.event) (λ j h. omega arith) (keys rs) kept.low) (omega arith));
  named = all-snoc IsNamed rs r kept.named (subst (NamedBy r.event) (sym is) named);
  marks = λ none. subst (AllByRecursion (λ (o : Open). o.is_settled ≡ false)) (sym (living-snoc rs r ∙ ap (λ x. living rs ++ cons_option x []) is)) (all-snoc (λ (o : Open). o.is_settled ≡ false) (living rs) o (kept.marks none) fresh);
}

-- marks as what is in use changes
pub unmarked-none : (os : List Open) → AllByRecursion (λ (o : Open). o.is_settled ≡ false) os → unmarked os ≡ os
unmarked-none [] h = refl
unmarked-none (o ∷ os) h = ap (λ b. cond (not b) (o ∷ unmarked os) (unmarked os)) h.0 ∙ ap (λ l. o ∷ l) (unmarked-none os h.1)

pub unmarked-all : (os : List Open) → AllByRecursion (λ (o : Open). o.is_settled ≡ false) (unmarked os)
unmarked-all [] = tt
unmarked-all (o ∷ os) = by o.is_settled refl (unmarked-all os)
  where
    by : (b : Bool) → o.is_settled ≡ b → AllByRecursion (λ (o : Open). o.is_settled ≡ false) (unmarked os) → AllByRecursion (λ (o : Open). o.is_settled ≡ false) (cond (not b) (o ∷ unmarked os) (unmarked os))
    by true is rest = rest
    by false is rest = (is, rest)

pub marks-asked : (id : ℕ) (os : List Open) → AllByRecursion (λ (o : Open). o.is_settled ≡ false) os → AllByRecursion (λ (o : Open). o.is_settled ≡ false) (asked_in (Some id) os)
marks-asked id [] h = tt
marks-asked id (o ∷ os) h = (h.0, marks-asked id os h.1)

pub marks-noted : (at : ℕ) (n : NoteFact) (os : List Open) → AllByRecursion (λ (o : Open). o.is_settled ≡ false) os → AllByRecursion (λ (o : Open). o.is_settled ≡ false) (noted_in at n os)
marks-noted at n [] h = tt
marks-noted at n (o ∷ os) h = by (is_one (activity_of n.activity) o) (marks-noted at n os h.1)
  where
    by : (b : Bool) → AllByRecursion (λ (o : Open). o.is_settled ≡ false) (noted_in at n os) → AllByRecursion (λ (o : Open). o.is_settled ≡ false) (cond b (record o { notes = noted at n.note o.notes } ∷ os) (o ∷ noted_in at n os))
    by true rest = (h.0, h.1)
    by false rest = (h.0, rest)

pub key-read : (rs : List Row) (m : ℕ) (d : Row) → m < length rs → slice_index_or (keys rs) m 0 ≡ (slice_index_or rs m d).event
key-read [] m d within = absurd (omega arith)
key-read (r ∷ rs) zero d within = refl
key-read (r ∷ rs) (suc m) d within = key-read rs m d (omega arith)

-- a row that was read
pub read-row : (rs : List Row) (p : ℕ) (r x : Row) → slice_get rs p ≡ Some r → x ≡ slice_index_or rs p x → x ≡ r
read-row rs p r x there is =
    let within = (key-at rs p r there).0 in
    let one : Some x ≡ Some r = ap (λ (y : Row). Some y) is ∙ sym (get-read rs p x within) ∙ there in
    cc

-- what is in a row is named by its event whatever changes of it but its opener
pub named-map : (f : Open → Open) → ((x : Open) → (f x).opener.event ≡ x.opener.event) → (id : ℕ) (o : Option Open) → NamedBy id o → NamedBy id (option_map f o)
named-map f same id None h = tt
named-map f same id (Some x) h = same x ∙ h

module _ (k : Opener) (rs : List Row) (last : ℕ) (b : Bool) (p : ℕ) (x d : Row) (kept : AreKept rs last b) (h : IsRowAt k rs p) (read : x ≡ slice_index_or rs p x) where
  pub x-there : slice_get rs p ≡ Some x
  x-there = get-read rs p x h.within ∙ ap (λ (y : Row). Some y) (sym read)

  x-is : x ≡ h.row
  x-is = read-row rs p h.row x h.there read

  x-named : NamedBy x.event x.kept
  x-named = all-get IsNamed rs p x kept.named x-there

  -- it is removed
  pub away-row : d.event ≡ x.event → d.kept ≡ None → AreKept (slice_set rs p d) last b × (living (slice_set rs p d) ≡ without (Some k) (living rs))
  away-row event is =
      let living-is = taken k rs p d h is in
      let named : IsNamed d = subst (NamedBy d.event) (sym is) tt in (
        kept-set rs last b b p x d kept x-there event named
            (λ none. subst (AllByRecursion (λ (o : Open). o.is_settled ≡ false)) (sym living-is) (all-filtered (λ (o : Open). o.is_settled ≡ false) (λ o. not (is_one k o)) (living rs) (kept.marks none))),
        living-is,
      )

  -- what is in it changes, and its opener doesn't
  named-by : (f : Open → Open) → ((y : Open) → (f y).opener.event ≡ y.opener.event) → d.event ≡ x.event → d.kept ≡ option_map f x.kept → IsNamed d
  named-by f same event is = subst (NamedBy d.event) (sym is) (subst (λ id. NamedBy id (option_map f x.kept)) (sym event) (named-map f same x.event x.kept x-named))

  row-by : (f : Open → Open) → d.kept ≡ option_map f x.kept → d.kept ≡ option_map f h.row.kept
  row-by f is = is ∙ ap (λ (r : Row). option_map f r.kept) x-is

  -- it is marked
  pub mark-row : d.event ≡ x.event → d.kept ≡ option_map marked_in x.kept → AreKept (slice_set rs p d) last true × (living (slice_set rs p d) ≡ marked (Some k) (living rs))
  mark-row event is = (
    kept-set rs last b true p x d kept x-there event (named-by marked_in (λ y. refl) event is) (λ none. absurd (cc)),
    marked-at k rs p d h (row-by marked_in is),
  )

pub ask-row : (id : ℕ) (k : Opener) (rs : List Row) (last : ℕ) (b : Bool) (p : ℕ) (x d : Row) → AreKept rs last b → k ≡ activity_of id → IsRowAt k rs p → x ≡ slice_index_or rs p x → d.event ≡ x.event → d.kept ≡ option_map asked_one x.kept →
    AreKept (slice_set rs p d) last b × (living (slice_set rs p d) ≡ asked_in (Some id) (living rs))
ask-row id k rs last b p x d kept one h read event is =
    let at = subst (λ o. IsRowAt o rs p) one h in
    let there = x-there k rs last b p x d kept h read in
    let living-is = asked-at id rs p d at (row-by (activity_of id) rs last b p x d kept at read asked_one is) in (
      kept-set rs last b b p x d kept there event (named-by k rs last b p x d kept h read asked_one (λ y. refl) event is)
          (λ none. subst (AllByRecursion (λ (o : Open). o.is_settled ≡ false)) (sym living-is) (marks-asked id (living rs) (kept.marks none))),
      living-is,
    )

pub note-row : (at : ℕ) (n : NoteFact) (rs : List Row) (last : ℕ) (b : Bool) (p : ℕ) (x d : Row) → AreKept rs last b → IsRowAt (activity_of n.activity) rs p → x ≡ slice_index_or rs p x → d.event ≡ x.event → d.kept ≡ option_map (noted_one at n.note) x.kept →
    AreKept (slice_set rs p d) last b × (living (slice_set rs p d) ≡ noted_in at n (living rs))
note-row at n rs last b p x d kept h read event is =
    let k = activity_of n.activity in
    let there = x-there k rs last b p x d kept h read in
    let living-is = noted-place at n rs p d h (row-by k rs last b p x d kept h read (noted_one at n.note) is) in (
      kept-set rs last b b p x d kept there event (named-by k rs last b p x d kept h read (noted_one at n.note) (λ y. refl) event is)
          (λ none. subst (AllByRecursion (λ (o : Open). o.is_settled ≡ false)) (sym living-is) (marks-noted at n (living rs) (kept.marks none))),
      living-is,
    )

-- a note that may be made on what is found may be made on what is in its row
may-in : (n : NoteFact) (o : Option Open) → MayAddTo n o → MayAddIn n.note o
may-in n None h = h
may-in n (Some x) h = h

pub may-row : (n : NoteFact) (rs : List Row) (p : ℕ) (x : Row) → IsRowAt (activity_of n.activity) rs p → x ≡ slice_index_or rs p x → MayNote n (living rs) → MayAddIn n.note x.kept
may-row n rs p x h read may =
    let is = read-row rs p h.row x h.there read in
    let here = subst (MayAddTo n) (found-row (activity_of n.activity) rs p h) may in
    subst (λ (r : Row). MayAddIn n.note r.kept) (sym is) (may-in n h.row.kept here)
