-- Hints that are pushed one after another, into lists.
use Rattle.std.proofs.Common.{◌≡◌, ⊎_elim, ℕ, zero, suc, ◌<◌, ◌≤◌, Bool, true, false, cond, List, [], ◌∷◌, ◌++◌, map, length, refl, sym, ap, ◌∙◌, subst, arith, length-append, lt-ltb, le-ltb, lt_of_not-le, Option, None, Some, Result, Ok, Err}
use mathlib.Core.Logic.{dite}
use native.Mathlib.Decide.{dec_le}
use Rattle.std.specs.Prelude.{slice_get, slice_set, slice_index_or, nat_lt, replicate, All, unwrap_or, if◌then◌else◌, ◌*◌}
use Rattle.std.proofs.lemmas.Option.{slice_get_within}
use Rattle.wf_event_values.specs.declared.refusal.Refusal.{Refusal}
use Rattle.wf_event_values.specs.declared.refusal.Refusal.TheVariants.{QueueFull}
use Rattle.service_model_types.specs.declared.content.Dispatch.{Dispatch}
use Rattle.service_model_types.specs.declared.request.Hint.{Hint}
use Rattle.matching.specs.Entries.{FromShards}
use Rattle.matching.specs.Holding.{pushed_at, pushed, then_push, all_pushed, held_by}
use Rattle.matching.specs.Named.{place_in, slot_of}
use Rattle.matching.proofs.Entries.{shards-append}
use Rattle.matching.proofs.Laying.{set_get, length-put, there}

abbrev Lists : Type 0
Lists = List (List Hint)

module _ {A : Type 0} (f : A → List Hint) where
  index-map : (xs : List A) (s : ℕ) (x : A) → slice_get xs s ≡ Some x → slice_index_or (map f xs) s [] ≡ f x
  index-map [] s x e = absurd (cc e)
  index-map (y ∷ xs) zero x e = ap (λ o. f (unwrap_or o y)) e
  index-map (y ∷ xs) (suc s) x e = index-map xs s x e

  set-map : (xs : List A) (s : ℕ) (x : A) → map f (slice_set xs s x) ≡ slice_set (map f xs) s (f x)
  set-map [] s x = refl
  set-map (y ∷ xs) zero x = refl
  set-map (y ∷ xs) (suc s) x = ap (λ t. f y ∷ t) (set-map xs s x)

  pub get-map : (xs : List A) (s : ℕ) (x : A) → slice_get xs s ≡ Some x → slice_get (map f xs) s ≡ Some (f x)
  get-map [] s x e = absurd (cc e)
  get-map (y ∷ xs) zero x e = ap (λ o. Some (f (unwrap_or o y))) e
  get-map (y ∷ xs) (suc s) x e = get-map xs s x e

  -- where there is room
  pub at_room : (capacity : ℕ) (xs : List A) (s : ℕ) (x y : A) (hint : Hint) → slice_get xs s ≡ Some x → length (f x) < capacity → f y ≡ f x ++ hint ∷ [] → pushed_at capacity (map f xs) s hint ≡ Ok (map f (slice_set xs s y))
  at_room capacity xs s x y hint is room new =
      ap (λ (w : List Hint). if nat_lt (length w) capacity then Ok (slice_set (map f xs) s (w ++ hint ∷ [])) else Err QueueFull) (index-map xs s x is)
      ∙ (ap (λ (t : Bool). cond t (Ok (slice_set (map f xs) s (f x ++ hint ∷ []))) (Err QueueFull)) (lt-ltb (length (f x)) capacity room)
      ∙ ap (λ (z : Lists). Ok z) (ap (slice_set (map f xs) s) (sym new) ∙ sym (set-map xs s y)))

-- each list is short enough, and its hints name shards that are there
abbrev pub AllFit : ℕ → ℕ → Lists → Type 0
AllFit capacity shards all = (s : ℕ) (xs : List Hint) → slice_get all s ≡ Some xs → (length xs ≤ capacity) × FromShards shards xs

fits_at : (capacity shards slot : ℕ) (all more : Lists) (hint : Hint) → AllFit capacity shards all → hint.shard < shards → pushed_at capacity all slot hint ≡ Ok more → AllFit capacity shards more
fits_at capacity shards slot all more hint fit inside is =
    let w : List Hint = slice_index_or all slot [] in
    let new : List Hint = w ++ hint ∷ [] in
    dite (dec_le capacity (length w))
    (λ full. let e : cond {A = Result Lists Refusal} false (Ok (slice_set all slot new)) (Err QueueFull) ≡ Ok more = subst (λ (t : Bool). cond {A = Result Lists Refusal} t (Ok (slice_set all slot new)) (Err QueueFull) ≡ Ok more) (le-ltb (length w) capacity full) is in absurd (cc e))
    (λ not. let room : length w < capacity = lt_of_not-le not in
    let e : cond {A = Result Lists Refusal} true (Ok (slice_set all slot new)) (Err QueueFull) ≡ Ok more = subst (λ (t : Bool). cond {A = Result Lists Refusal} t (Ok (slice_set all slot new)) (Err QueueFull) ≡ Ok more) (lt-ltb (length w) capacity room) is in
    let same : slice_set all slot new ≡ more = cc e in
    subst (AllFit capacity shards) same (λ s xs at. ⊎_elim
    (λ (t : (s ≡ slot) × (new ≡ xs)).
    let l = slice_get_within (slice_set all slot new) s xs at in let n = length-put all slot new in let e1 = t.0 in
    let x = there all slot (omega arith) in
    let old : w ≡ x.0 = first all slot x.0 x.1 in
    let long = length-append w (hint ∷ []) in
    subst (λ (z : List Hint). (length z ≤ capacity) × FromShards shards z) t.1 (omega arith, shards-append shards w (hint ∷ []) (subst (FromShards shards) (sym old) (fit slot x.0 x.1).1) (inside, tt)))
    (λ t. fit s xs t.1)
    (set_get all slot s new xs at)))
  where
    first : (all : Lists) (s : ℕ) (x : List Hint) → slice_get all s ≡ Some x → slice_index_or all s [] ≡ x
    first [] s x e = absurd (cc e)
    first (y ∷ all) zero x e = ap (λ o. unwrap_or o y) e
    first (y ∷ all) (suc s) x e = first all s x e

fits_pushed : (capacity shards : ℕ) (all more : Lists) (place : Option ℕ) (hint : Hint) → AllFit capacity shards all → hint.shard < shards → pushed capacity all place hint ≡ Ok more → AllFit capacity shards more
fits_pushed capacity shards all more None hint fit inside is = absurd (cc is)
fits_pushed capacity shards all more (Some place) hint fit inside is = fits_at capacity shards (slot_of place hint.kind) all more hint fit inside is

fits_all : (names : List (List ℕ)) (capacity shards : ℕ) (ds : List Dispatch) (all held : Lists) → AllFit capacity shards all → All (λ (d : Dispatch). d.hint.shard < shards) ds → all_pushed names capacity all ds ≡ Ok held → AllFit capacity shards held
fits_all names capacity shards [] all held fit inside is = let same : all ≡ held = cc is in subst (AllFit capacity shards) same fit
fits_all names capacity shards (d ∷ ds) all held fit inside is =
    go (λ more was. fits_all names capacity shards ds more held (fits_pushed capacity shards all more (place_in names d.queue) d.hint fit (inside 0 d (omega arith)) was) (λ k d2 l. inside (suc k) d2 (omega arith))) (pushed capacity all (place_in names d.queue) d.hint) refl is
  where
    go : ((more : Lists) → pushed capacity all (place_in names d.queue) d.hint ≡ Ok more → all_pushed names capacity more ds ≡ Ok held → AllFit capacity shards held)
        → (r : Result Lists Refusal) → pushed capacity all (place_in names d.queue) d.hint ≡ r → then_push r (λ more. all_pushed names capacity more ds) ≡ Ok held → AllFit capacity shards held
    go rest (Err e) was e2 = absurd (cc e2)
    go rest (Ok more) was e2 = rest more was e2

fits_none : (n capacity shards : ℕ) → AllFit capacity shards (replicate n [])
fits_none zero capacity shards s xs e = absurd (cc e)
fits_none (suc n) capacity shards zero xs e = let same : [] ≡ xs = cc e in subst (λ (z : List Hint). (length z ≤ capacity) × FromShards shards z) same (omega arith, tt)
fits_none (suc n) capacity shards (suc s) xs e = fits_none n capacity shards s xs e

-- what was pushed from the start fits
pub fits_held : (names : List (List ℕ)) (capacity shards : ℕ) (ds : List Dispatch) (held : Lists) → All (λ (d : Dispatch). d.hint.shard < shards) ds → held_by names capacity ds ≡ Ok held → AllFit capacity shards held
fits_held names capacity shards ds held inside is = fits_all names capacity shards ds (replicate (2 * length names) []) held (fits_none (2 * length names) capacity shards) inside is
