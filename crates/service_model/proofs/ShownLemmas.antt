-- the events that a history shows are among those that were made
use Rattle.std.proofs.Common.{ℕ, ◌+◌, Bool, true, false, cond, List, [], ◌∷◌, ◌++◌, Option, Some, None}
use Rattle.std.specs.Prelude.{filter, filter_map, map, nat_lt, option_map}
use Rattle.std.specs.List.{AllByRecursion, cons_option}
use Rattle.wf_event.specs.declared.attributes.Attributes.{Attributes}
use Rattle.wf_event.specs.declared.event.Event.{Event}
use Rattle.service_model.specs.Journal.{Journal, Made, events_made}
use Rattle.service_model.specs.Shown.{Keyed, key_of, keyed, numbered, ordered, put_all, put_in_order, shown, visible}
use Rattle.service_model.specs.Windows.{Placed, placed}

pub all-kept : {A : Type 0} (P : A → Type 0) (test : A → Bool) (xs : List A) → AllByRecursion P xs → AllByRecursion P (filter test xs)
all-kept P test [] h = tt
all-kept P test (x ∷ xs) h = by_test (test x) (all-kept P test xs h.1)
  where
    by_test : (b : Bool) → AllByRecursion P (filter test xs) → AllByRecursion P (cond b (x ∷ filter test xs) (filter test xs))
    by_test true rest = (h.0, rest)
    by_test false rest = rest

abbrev pub IfHas : {A : Type 0} → (A → Type 0) → Option A → Type 0
IfHas P None = Unit {0}
IfHas P (Some x) = P x

pub all-found : {A B : Type 0} (P : A → Type 0) (Q : B → Type 0) (f : A → Option B) (xs : List A) → ((x : A) → P x → IfHas Q (f x)) → AllByRecursion P xs → AllByRecursion Q (filter_map f xs)
all-found P Q f [] each h = tt
all-found P Q f (x ∷ xs) each h = one (f x) (each x h.0) (all-found P Q f xs each h.1)
  where
    one : (o : Option _) → IfHas Q o → AllByRecursion Q (filter_map f xs) → AllByRecursion Q (cons_option o (filter_map f xs))
    one None here rest = rest
    one (Some y) here rest = (here, rest)

pub all-made : {A B : Type 0} (P : A → Type 0) (Q : B → Type 0) (f : A → B) (xs : List A) → ((x : A) → P x → Q (f x)) → AllByRecursion P xs → AllByRecursion Q (map f xs)
all-made P Q f [] each h = tt
all-made P Q f (x ∷ xs) each h = (each x h.0, all-made P Q f xs each h.1)

-- what is so of what each event carries that was made
abbrev OfMade : (Attributes → Type 0) → Made → Type 0
OfMade P m = P m.attributes

abbrev OfKeyed : (Attributes → Type 0) → Keyed → Type 0
OfKeyed P k = P k.item.attributes

placed-all : (P : Attributes → Type 0) (before es : List Made) → AllByRecursion (OfMade P) es → AllByRecursion (λ (p : Placed). P p.event.attributes) (placed before es)
unfolding placed
placed-all P before [] h = tt
placed-all P before (e ∷ es) h = (h.0, placed-all P (before ++ e ∷ []) es h.1)

keyed-all : (P : Attributes → Type 0) (p : Placed) → P p.event.attributes → IfHas (OfKeyed P) (keyed p)
keyed-all P p h = by_key (key_of p)
  where
    by_key : (o : Option ℕ) → IfHas (OfKeyed P) (option_map (λ k. record { at = k; item = p.event }) o)
    by_key None = tt
    by_key (Some k) = h

put-all : (P : Attributes → Type 0) (k : ℕ) (e : Made) (xs : List Keyed) → P e.attributes → AllByRecursion (OfKeyed P) xs → AllByRecursion (OfKeyed P) (put_in_order k e xs)
unfolding put_in_order
put-all P k e [] here h = (here, tt)
put-all P k e (x ∷ xs) here h = by_key (nat_lt k x.at) (put-all P k e xs here h.1)
  where
    by_key : (b : Bool) → AllByRecursion (OfKeyed P) (put_in_order k e xs) → AllByRecursion (OfKeyed P) (cond b (record { at = k; item = e } ∷ x ∷ xs) (x ∷ put_in_order k e xs))
    by_key true rest = (here, h)
    by_key false rest = (h.0, rest)

ordered-all : (P : Attributes → Type 0) (done xs : List Keyed) → AllByRecursion (OfKeyed P) done → AllByRecursion (OfKeyed P) xs → AllByRecursion (OfKeyed P) (put_all done xs)
unfolding put_all
ordered-all P done [] d h = d
ordered-all P done (x ∷ xs) d h = ordered-all P (put_in_order x.at x.item done) xs (put-all P x.at x.item done h.0 d) h.1

numbered-all : (P : Attributes → Type 0) (n : ℕ) (es : List Made) → AllByRecursion (OfMade P) es → AllByRecursion (λ (e : Event). P e.attributes) (numbered n es)
unfolding numbered
numbered-all P n [] h = tt
numbered-all P n (e ∷ es) h = (h.0, numbered-all P (n + 1) es h.1)

-- so it is of what each event carries that is shown
pub all-shown : (P : Attributes → Type 0) (J : Journal) → AllByRecursion (λ (m : Made). P m.attributes) (events_made J) → AllByRecursion (λ (e : Event). P e.attributes) (shown J)
all-shown P J made =
    let places = placed-all P [] (events_made J) made in
    let keys = all-found (λ (p : Placed). P p.event.attributes) (OfKeyed P) keyed (placed [] (events_made J)) (keyed-all P) places in
    let sorted = ordered-all P [] (filter_map keyed (placed [] (events_made J))) tt keys in
    let items = all-made (OfKeyed P) (OfMade P) (λ k. k.item) (ordered (filter_map keyed (placed [] (events_made J)))) (λ k h. h) sorted in
    numbered-all P 1 (visible J) (all-kept (OfMade P) _ _ items)
