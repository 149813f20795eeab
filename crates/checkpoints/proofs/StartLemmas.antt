-- shards that were restored from texts start at the contents that these spell
use Rattle.std.proofs.Common.{◌≡◌, ◌⊎◌, inl, inr, ⊎_elim, ◌++◌, ℕ, zero, suc, ◌+◌, ◌<◌, List, [], ◌∷◌, length, map, refl, sym, ap, ◌∙◌, subst, arith, Option, Some, None}
use Rattle.std.specs.Prelude.{slice_get, unwrap_or}
use Rattle.std.proofs.lemmas.List.{append-nil}
use Rattle.std.specs.List.{range_with_len}
use Rattle.gate.specs.Records.{Each}
use Rattle.service_model.specs.Service.{Entry}
use Rattle.service_model.proofs.ListLemmas.{get-map}
use Rattle.service_model_types.specs.declared.content.Content.{Content}
use Rattle.service_model_types.specs.declared.content.Setup.{Setup}
use Rattle.service_model_types.specs.declared.settings.Settings.{Settings}
use Rattle.service.specs.Contents.{setup_of}
use Rattle.service.specs.Reopening.{record_at}
use Rattle.service.specs.Starting.{AreStarts, IsStart}
use Rattle.shard_gate.specs.Starts.{Start, opened_with, records_in, some_content, start_at, starting}
use Rattle.shard_gate.specs.declared.resumed.Resumed.{Resumed}
use Rattle.shard_snapshot.specs.Found.{content_in}
use Rattle.shard_snapshot.specs.Stages.{IsOfShard, Spells}
use Rattle.checkpoints.specs.Checkpoints.{Spell, starts_by}
use Rattle.checkpoints.specs.Restored.{AreRestored, text_of}
use Rattle.checkpoints.specs.Resumed.{AreInSlots, FromTexts}
use Rattle.checkpoints.specs.declared.restored.Restored.{Restored}

some-same : {A : Type 0} (x y : A) → Some x ≡ Some y → x ≡ y
some-same x y e = ap (λ o. unwrap_or o x) e

-- ---- lists by places

within : {A : Type 0} (xs : List A) (k : ℕ) (x : A) → slice_get xs k ≡ Some x → k < length xs
within [] k x is = absurd (cc)
within (y ∷ xs) zero x is = omega arith
within (y ∷ xs) (suc k) x is = let l = within xs k x is in omega (arith, l)

there : {A : Type 0} (xs : List A) (k : ℕ) → k < length xs → (x : A) × (slice_get xs k ≡ Some x)
there [] k less = absurd (omega (arith, less))
there (x ∷ xs) zero less = (x, refl)
there (x ∷ xs) (suc k) less = there xs k (omega (arith, less))

range-get : (n m k j : ℕ) → slice_get (range_with_len n m) k ≡ Some j → (j ≡ n + k) × (k < m)
range-get n zero k j is = absurd (cc)
range-get n (suc m) zero j is = let same = some-same n j is in (omega (arith, same), omega arith)
range-get n (suc m) (suc k) j is = let p = range-get (n + 1) m k j is in let q = p.0 in let r = p.1 in (omega (arith, q), omega (arith, r))

range-count : {A : Type 0} (f : ℕ → A) (n m : ℕ) → length (map f (range_with_len n m)) ≡ m
range-count f n zero = refl
range-count f n (suc m) = ap suc (range-count f (n + 1) m)

map-map : {A B C : Type 0} (f : B → C) (g : A → B) (xs : List A) → map f (map g xs) ≡ map (λ x. f (g x)) xs
map-map f g [] = refl
map-map f g (x ∷ xs) = ap (λ ys. f (g x) ∷ ys) (map-map f g xs)

map-count : {A B : Type 0} (f : A → B) (xs : List A) → length (map f xs) ≡ length xs
map-count f [] = refl
map-count f (x ∷ xs) = ap suc (map-count f xs)

-- where nothing is left, all came
pub all-came : {A : Type 0} (xs front rest : List A) → xs ≡ front ++ rest → length rest ≡ 0 → xs ≡ front
all-came xs front [] is none = is ∙ append-nil front
all-came xs front (x ∷ rest) is none = absurd (omega (arith, none))

-- what comes after a list that has all is empty
empty-after : {A : Type 0} (xs rest : List A) → length (xs ++ rest) ≡ length xs → rest ≡ []
empty-after [] [] count = refl
empty-after [] (y ∷ rest) count = absurd (cc)
empty-after (x ∷ xs) rest count = empty-after xs rest (omega (arith, count))

-- ---- shards in their slots

-- the second of a pair, by its place
second-at : {A : Type 0} (xs : List (A × List Entry)) (k : ℕ) (x : A × List Entry) → slice_get xs k ≡ Some x → record_at (map (λ y. y.1) xs) k ≡ x.1
second-at [] k x is = absurd (cc)
second-at (y ∷ xs) zero x is = ap (λ z. z.1) (some-same y x is)
second-at (y ∷ xs) (suc k) x is = second-at xs k x is

-- a list is its entries by their places
by-places : (f : ℕ → List Entry) (n : ℕ) (records : List (List Entry)) → ((k : ℕ) → k < length records → f (n + k) ≡ record_at records k) → map f (range_with_len n (length records)) ≡ records
by-places f n [] h = refl
by-places f n (r ∷ rs) h =
    let first : n ≡ n + 0 = omega arith in
    ap (λ x. x ∷ map f (range_with_len (n + 1) (length rs))) (ap f first ∙ h 0 (omega arith))
    ∙ ap (λ xs. r ∷ xs) (by-places f (n + 1) rs (λ k less.
    let place : (n + 1) + k ≡ n + suc k = omega arith in
    ap f place ∙ h (suc k) (omega (arith, less))))

slots-from : {S H : Type 0} (start : ℕ → Content) (own : S → Content) (record_of : ℕ → List Entry) (n : ℕ) (given : List (Resumed S H × List Entry)) →
    ((k : ℕ) (x : Resumed S H × List Entry) → slice_get given k ≡ Some x → (x.0.slot ≡ Some (n + k)) × (x.1 ≡ record_of (n + k))) →
    map (starting (λ (x : Resumed S H). start_at start (own x.shard) x.slot)) given ≡ map (λ k. (start k, record_of k)) (range_with_len n (length given))
slots-from start own record_of n [] h = refl
slots-from {S = S} {H = H} start own record_of n (x ∷ given) h =
    let (slot, log) = h 0 x refl in
    let first : n + 0 ≡ n = omega arith in
    let head : (start_at start (own x.0.shard) x.0.slot, x.1) ≡ (start n, record_of n) =
    ap (λ o. (start_at start (own x.0.shard) o, x.1)) slot ∙ ap (λ l. (start (n + 0), l)) log ∙ ap (λ j. (start j, record_of j)) first in
    ap (λ y. y ∷ map (starting (λ (x : Resumed S H). start_at start (own x.shard) x.slot)) given) head
    ∙ ap (λ ys. (start n, record_of n) ∷ ys) (slots-from start own record_of (n + 1) given (λ k y at.
    let (slot, log) = h (suc k) y at in
    let place : n + suc k ≡ (n + 1) + k = omega arith in
    (slot ∙ ap (λ j. Some j) place, log ∙ ap record_of place)))

push-from : {A : Type 0} (xs : List A) (x y : A) (n : ℕ) → slice_get (xs ++ x ∷ []) n ≡ Some y → (slice_get xs n ≡ Some y) ⊎ ((n ≡ length xs) × (y ≡ x))
push-from [] x y zero is = inr (refl, some-same y x (sym is))
push-from [] x y (suc n) is = absurd (cc)
push-from (z ∷ xs) x y zero is = inl is
push-from (z ∷ xs) x y (suc n) is = ⊎_elim (λ e. inl e) (λ e. inr (ap suc e.0, e.1)) (push-from xs x y n is)

longer : {A : Type 0} (xs : List A) (x : A) → length (xs ++ x ∷ []) ≡ length xs + 1
longer [] x = refl
longer (y ∷ xs) x = let h = longer xs x in omega (arith, h)

-- one more shard in its slot
pub slots-more : {S H : Type 0} (ys shards : List (Restored S)) (gs given : List (Resumed S H × List Entry)) (r : Restored S) (x : Resumed S H × List Entry) →
    AreInSlots ys (map (λ y. y.1) gs) gs → x.0.shard ≡ r.shard → x.0.slot ≡ Some (length gs) → shards ≡ ys ++ r ∷ [] → given ≡ gs ++ x ∷ [] → AreInSlots shards (map (λ y. y.1) given) given
slots-more {S = S} {H = H} ys shards gs given r x h shard slot is is' =
    record {
      count = ap length is' ∙ longer gs x ∙ ap (λ n. n + 1) h.count ∙ sym (longer ys r) ∙ sym (ap length is);
      each = λ k s y at at'. by k s y (push-from ys r s k (sym (ap (λ l. slice_get l k) is) ∙ at)) (push-from gs x y k (sym (ap (λ l. slice_get l k) is') ∙ at'));
      records_are = refl;
    }
  where
    by : (k : ℕ) (s : Restored S) (y : Resumed S H × List Entry) → (slice_get ys k ≡ Some s) ⊎ ((k ≡ length ys) × (s ≡ r)) → (slice_get gs k ≡ Some y) ⊎ ((k ≡ length gs) × (y ≡ x)) →
        (y.0.shard ≡ s.shard) × (y.0.slot ≡ Some k)
    by k s y (inl a) (inl b) = h.each k s y a b
    by k s y (inl a) (inr b) = absurd (let l = within ys k s a in let e = b.0 in let n = h.count in omega (arith, l, e, n))
    by k s y (inr a) (inl b) = absurd (let l = within gs k y b in let e = a.0 in let n = h.count in omega (arith, l, e, n))
    by k s y (inr a) (inr b) =
        subst (λ z. (z.0.shard ≡ s.shard) × (z.0.slot ≡ Some k)) (sym b.1)
        (shard ∙ sym (ap (λ (q : Restored S). q.shard) a.1), slot ∙ ap (λ n. Some n) (sym b.0))

-- all of them, once no record is left
pub slots-all : {S H : Type 0} (ys shards : List (Restored S)) (records rest : List (List Entry)) (gs : List (Resumed S H × List Entry)) → AreInSlots ys (map (λ y. y.1) gs) gs →
    shards ≡ ys → records ≡ map (λ y. y.1) gs ++ rest → length records ≡ length shards → AreInSlots shards records gs
slots-all ys shards records rest gs h same whole count =
    let none = empty-after (map (λ y. y.1) gs) rest (sym (ap length whole) ∙ count ∙ ap length same ∙ sym h.count ∙ sym (map-count (λ y. y.1) gs)) in
    let all : map (λ y. y.1) gs ≡ records = sym (whole ∙ ap (λ l. map (λ y. y.1) gs ++ l) none ∙ append-nil (map (λ y. y.1) gs)) in
    subst (λ l. AreInSlots l records gs) (sym same) (record { count = h.count; each = h.each; records_are = all })

-- those of shards that were restored are by their numbers
pub slots-start : {S H : Type 0} (start : ℕ → Content) (own : S → Content) (K : Settings) (shards : List (Restored S)) (records : List (List Entry)) (given : List (Resumed S H × List Entry)) →
    AreInSlots shards records given → length shards ≡ K.shards →
    map (starting (λ (x : Resumed S H). start_at start (own x.shard) x.slot)) given ≡ starts_by start records K
slots-start start own K shards records given h count =
    slots-from start own (record_at records) 0 given (λ k x at.
    let less = within given k x at in
    let whole = h.count in
    let (r, at_r) = there shards k (omega (arith, less, whole)) in
    let place : k ≡ 0 + k = omega arith in
    ((h.each k r x at_r at).1 ∙ ap (λ j. Some j) place, sym (second-at given k x at) ∙ ap (λ l. record_at l k) h.records_are ∙ ap (record_at records) place))
    ∙ ap (λ n. map (λ k. (start k, record_at records k)) (range_with_len 0 n)) (h.count ∙ count)

-- their records are those that were given
pub slots-records : {S H : Type 0} (opening : Resumed S H → Content) (shards : List (Restored S)) (records : List (List Entry)) (given : List (Resumed S H × List Entry)) →
    AreInSlots shards records given → records_in (map (starting opening) given) ≡ records
slots-records opening shards records given h = map-map (λ (g : Start). g.1) (starting opening) given ∙ h.records_are

-- so are those of starts by their numbers
pub records-by : (start : ℕ → Content) (records : List (List Entry)) (K : Settings) → length records ≡ K.shards → records_in (starts_by start records K) ≡ records
records-by start records K count =
    map-map (λ (g : Start). g.1) (λ k. (start k, record_at records k)) (range_with_len 0 K.shards) ∙ ap (λ n. map (record_at records) (range_with_len 0 n)) (sym count) ∙ by-places (record_at records) 0 records (λ k less. let place : 0 + k ≡ k = omega arith in ap (record_at records) place)

-- and each stands where it starts
pub slots-stand : {S H : Type 0} (stands : S → Content → Type 0) (start : ℕ → Content) (own : S → Content) (shards : List (Restored S)) (records : List (List Entry))
    (given : List (Resumed S H × List Entry)) → AreInSlots shards records given →
    Each shards (λ k r. stands r.shard (start k)) → Each given (λ k x. stands x.0.shard (start_at start (own x.0.shard) x.0.slot))
slots-stand stands start own shards records given h each k x at =
    let less = within given k x at in
    let count = h.count in
    let (r, at_r) = there shards k (omega (arith, less, count)) in
    let (shard, slot) = h.each k r x at_r at in
    subst (λ o. stands x.0.shard (start_at start (own x.0.shard) o)) (sym slot) (subst (λ s. stands s (start k)) (sym shard) (each k r at_r))

-- ---- the contents that texts spell

-- laws of the texts: a text's content is found by its lines, and is one of the shard
abbrev pub AreFound : Type 0
AreFound = (setup : Setup) (text : List ℕ) (C : Content) → Spells setup text C → content_in setup text ≡ Some C

abbrev pub AreOfShard : Type 0
AreOfShard = (setup : Setup) (text : List ℕ) (C : Content) → Spells setup text C → IsOfShard setup C

abbrev text-at : {S : Type 0} → Option (Restored S) → List ℕ
text-at None = []
text-at (Some r) = text_of r

-- the content at which the shard of this number starts
abbrev pub picked : {S : Type 0} → Settings → List (Restored S) → ℕ → Content
picked K shards k = unwrap_or (content_in (setup_of K k) (text-at (slice_get shards k))) some_content

-- its text spells it, and the shard stands for it
picked-is : {S : Type 0} → AreFound → (stands : S → Content → Type 0) (K : Settings) (shards : List (Restored S)) (k : ℕ) (r : Restored S) → AreRestored stands K shards → slice_get shards k ≡ Some r →
    Spells (setup_of K k) (text_of r) (picked K shards k) × stands r.shard (picked K shards k)
picked-is found stands K shards k r h at =
    let keeps = (h.each k r at).keeps in
    let same : keeps.content ≡ picked K shards k =
    sym (ap (λ o. unwrap_or o some_content) (ap (λ o. content_in (setup_of K k) (text-at o)) at ∙ found (setup_of K k) (text_of r) keeps.content keeps.spells)) in
    (subst (Spells (setup_of K k) (text_of r)) same keeps.spells, subst (stands r.shard) same keeps.stands_for)

pub picked-stand : {S : Type 0} → AreFound → (stands : S → Content → Type 0) (K : Settings) (shards : List (Restored S)) → AreRestored stands K shards → Each shards (λ k r. stands r.shard (picked K shards k))
picked-stand found stands K shards h k r at = (picked-is found stands K shards k r h at).1

pub picked-spell : {S : Type 0} → AreFound → (stands : S → Content → Type 0) (K : Settings) (shards : List (Restored S)) → AreRestored stands K shards → Spell K (map text_of shards) (picked K shards)
picked-spell found stands K shards h = record {
  count = map-count text_of shards ∙ h.count;
  each = λ k text at_text.
      let (r, at_r, text_is) = get-map text_of shards k text at_text in
      subst (λ t. Spells (setup_of K k) t (picked K shards k)) (sym text_is) (picked-is found stands K shards k r h at_r).0;
}

-- they are starts of the service, whatever was done since
pub picked-starts : {S : Type 0} → AreFound → AreOfShard → (stands : S → Content → Type 0) (K : Settings) (shards : List (Restored S)) (records : List (List Entry)) → AreRestored stands K shards →
    AreStarts K (opened_with (starts_by (picked K shards) records K))
picked-starts found of stands K shards records h =
    let all : opened_with (starts_by (picked K shards) records K) ≡ map (picked K shards) (range_with_len 0 K.shards) =
    map-map (λ (g : Start). g.0) (λ k. (picked K shards k, record_at records k)) (range_with_len 0 K.shards) in
    subst (AreStarts K) (sym all) (record {
      count = range-count (picked K shards) 0 K.shards;
      each = λ k C at.
          let (j, at_j, content_is) = get-map (picked K shards) (range_with_len 0 K.shards) k C at in
          let (place, less) = range-get 0 K.shards k j at_j in
          let number : j ≡ k = omega (arith, place) in
          let count = h.count in
          let (r, at_r) = there shards k (omega (arith, less, count)) in
          let of_shard = of (setup_of K k) (text_of r) (picked K shards k) (picked-is found stands K shards k r h at_r).0 in
          subst (IsStart K k) (sym (content_is ∙ ap (picked K shards) number)) (record { setup = of_shard.setup; accepted = of_shard.accepted; dispatches = of_shard.dispatches });
    })

-- what holds of a service that goes on from these holds of one that goes on from the texts
pub from-picked : {S : Type 0} → AreFound → (stands : S → Content → Type 0) (K : Settings) (shards : List (Restored S)) (records : List (List Entry)) (Holds : List Start → Type 0) →
    AreRestored stands K shards → Holds (starts_by (picked K shards) records K) → FromTexts K (map text_of shards) records Holds
from-picked found stands K shards records Holds h holds = record { content = picked K shards; spell = picked-spell found stands K shards h; holds = holds }
