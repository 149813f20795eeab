-- names that cover all rows, as rows come and go
use Rattle.std.proofs.Common.{◌≡◌, ℕ, ◌+◌, ◌<◌, Bool, true, false, cond, not, List, [], ◌∷◌, ◌++◌, length, take, refl, sym, ap, ◌∙◌, subst, Option, Some, None}
use Rattle.std.proofs.Math.ListN.{get_or}
use Rattle.std.proofs.lemmas.List.{take_more}
use Rattle.std.specs.Prelude.{filter, find, option_map, bytes_eq}
use Rattle.std.specs.Option.{option_map_or}
use Rattle.mutable_state.specs.Readers.{UsedRow, is_named}
use Rattle.task_completion.specs.Judging.{event_named}
use Rattle.task_completion.specs.NameCovers.{Covers, Covered}

-- what isn't found has no event, and the other way round
none-found : (name : List ℕ) (rows : List UsedRow) → event_named name rows ≡ None → find (is_named name) rows ≡ None
none-found name rows none = by (find (is_named name) rows) refl
  where
    by : (o : Option UsedRow) → find (is_named name) rows ≡ o → find (is_named name) rows ≡ None
    by None is = is
    by (Some r) is = absurd (let clash : Some r.event ≡ None = sym (ap (option_map (λ (r : UsedRow). r.event)) is) ∙ none in cc)

-- of no row
pub covers-none : (has : List ℕ → Bool) → Covers has []
covers-none has name h = refl

-- one more row, whose name is among the names
find-more : (name : List ℕ) (rows : List UsedRow) (r : UsedRow) → find (is_named name) rows ≡ None → is_named name r ≡ false → find (is_named name) (rows ++ r ∷ []) ≡ None
find-more name [] r none other = ap (λ b. cond b (Some r) None) other
find-more name (x ∷ rows) r none other = by (is_named name x) none (find-more name rows r)
  where
    by : (b : Bool) → cond b (Some x) (find (is_named name) rows) ≡ None → (find (is_named name) rows ≡ None → is_named name r ≡ false → find (is_named name) (rows ++ r ∷ []) ≡ None) → cond b (Some x) (find (is_named name) (rows ++ r ∷ [])) ≡ None
    by true is again = is
    by false is again = again is other

named-more : (name : List ℕ) (rows : List UsedRow) (r : UsedRow) → event_named name rows ≡ None → is_named name r ≡ false → event_named name (rows ++ r ∷ []) ≡ None
named-more name rows r none other = ap (option_map (λ (r : UsedRow). r.event)) (find-more name rows r (none-found name rows none) other)

pub covers-unnamed : (has : List ℕ → Bool) (rows : List UsedRow) (r : UsedRow) → r.name ≡ None → Covers has rows → Covers has (rows ++ r ∷ [])
covers-unnamed has rows r none h name free = named-more name rows r (h name free) (ap (λ o. option_map_or (λ n. bytes_eq n name) o false) none)

-- a name came
came : (b old : Bool) → cond b true old ≡ false → (b ≡ false) × (old ≡ false)
came true old h = absurd (cc)
came false old h = (refl, h)

pub covers-kept : (has had : List ℕ → Bool) (text : List ℕ) (rows : List UsedRow) → ((name : List ℕ) → has name ≡ cond (bytes_eq text name) true (had name)) → Covers had rows → Covers has rows
covers-kept has had text rows adds h name free = h name (came (bytes_eq text name) (had name) (sym (adds name) ∙ free)).1

pub covers-named : (has had : List ℕ → Bool) (text : List ℕ) (rows : List UsedRow) (r : UsedRow) → ((name : List ℕ) → has name ≡ cond (bytes_eq text name) true (had name)) → r.name ≡ Some text → Covers had rows → Covers has (rows ++ r ∷ [])
covers-named has had text rows r adds is h name free =
    let both = came (bytes_eq text name) (had name) (sym (adds name) ∙ free) in
    named-more name rows r (h name both.1) (ap (λ o. option_map_or (λ n. bytes_eq n name) o false) is ∙ both.0)

-- rows go
find-fewer : (name : List ℕ) (q : UsedRow → Bool) (rows : List UsedRow) → find (is_named name) rows ≡ None → find (is_named name) (filter q rows) ≡ None
find-fewer name q [] none = refl
find-fewer name q (x ∷ rows) none = by (is_named name x) refl none (λ rest. find-fewer name q rows rest)
  where
    by : (b : Bool) → is_named name x ≡ b → cond b (Some x) (find (is_named name) rows) ≡ None → (find (is_named name) rows ≡ None → find (is_named name) (filter q rows) ≡ None) →
        find (is_named name) (cond (q x) (x ∷ filter q rows) (filter q rows)) ≡ None
    by true is some again = absurd (cc)
    by false is rest again = by_test (q x)
      where
        by_test : (c : Bool) → find (is_named name) (cond c (x ∷ filter q rows) (filter q rows)) ≡ None
        by_test true = ap (λ b. cond b (Some x) (find (is_named name) (filter q rows))) is ∙ again rest
        by_test false = again rest

pub covers-fewer : (has : List ℕ → Bool) (q : UsedRow → Bool) (rows : List UsedRow) → Covers has rows → Covers has (filter q rows)
covers-fewer has q rows h name free = ap (option_map (λ (r : UsedRow). r.event)) (find-fewer name q rows (none-found name rows (h name free)))

-- a turn of a loop over rows
pub covers-next : (has : List ℕ → Bool) (rows : List UsedRow) (i : ℕ) (r : UsedRow) → i < length rows → r ≡ get_or rows i r → Covers has (take i rows ++ r ∷ []) → Covers has (take (i + 1) rows)
covers-next has rows i r there is h = subst (Covers has) (ap (λ (x : UsedRow). take i rows ++ x ∷ []) is ∙ sym (take_more rows i r there)) h

pub covered-fewer : (o : Option (List ℕ → Bool)) (q : UsedRow → Bool) (rows rows' : List UsedRow) → rows' ≡ filter q rows → Covered o rows → Covered o rows'
covered-fewer None q rows rows' is h = tt
covered-fewer (Some has) q rows rows' is h = subst (Covers has) (sym is) (covers-fewer has q rows h)

pub was-not : (b : Bool) → not b ≡ true → b ≡ false
was-not true h = absurd (cc)
was-not false h = refl
