-- a run that is deleted leaves its place empty
use Rattle.std.proofs.Common.{◌≡◌, ◌≢◌, ℕ, ◌+◌, ◌<◌, ◌≤◌, ⊎_elim, Bool, true, false, cond, List, [], ◌∷◌, length, length-set, refl, sym, ap, ◌∙◌, arith, Option, Some, None, IfSome, zero, suc, slice_set, subst}
use Rattle.std.specs.Prelude.{◌==◌, bytes_eq, option_map, slice_get}
use Rattle.std.proofs.lemmas.Slice.Eq.{bytes_eq-Decides}
use Rattle.std.proofs.lemmas.Bool.Decides.{nat_tests, not_from_Decides}
use Rattle.service_model.specs.Aging.{AreAged, IsOldestRun}
use Rattle.service_model.specs.Outcome.{latest_run}
use Rattle.service_model.specs.RunState.{RunState, no_run, id_of, is_there}
use Rattle.mutable_state.specs.RunView.{RunView}
use Rattle.shard_store.specs.Fitting.{FitsTaken, state_at, without}
use Rattle.shard_store.specs.Open.{IsOneOpen}
use Rattle.shard_store.specs.Places.{empty_place}
use Rattle.shard_store.specs.ShardView.{IsIndexed, ShardView, ordinal_of, states}
use Rattle.shard_store.specs.declared.plan.Change.{Change}
use Rattle.shard_store.proofs.IndexLemmas.{latest_from, length-states, states-set}
use Rattle.shard_issued.proofs.DispatchLemmas.{get-at}
use Rattle.shard_store.proofs.OpenLemmas.{IsLatest, is-latest, same-some, set-there}
use Rattle.shard_store.proofs.PlaceLemmas.{none-there}
use Rattle.service_model.proofs.GrowthLemmas.{set-from as get-set, below as get-below}

-- the run with the largest ordinal of an ID is one
one-latest : (k : ℕ) (id : List ℕ) (runs : List RunState) (o p : Option ℕ) → IsLatest k id runs o → IsLatest k id runs p → o ≡ p
one-latest k id runs None None h g = refl
one-latest k id runs None (Some y) h g = let (i, t, place, at, there, named, all) = g.some y refl in absurd (h.none refl i t at there named)
one-latest k id runs (Some x) None h g = let (i, t, place, at, there, named, all) = h.some x refl in absurd (g.none refl i t at there named)
one-latest k id runs (Some x) (Some y) h g =
    let (i, s, at_x, at_i, is_s, named, all) = h.some x refl in
    let (j, t, at_y, at_j, is_t, called, others) = g.some y refl in
    let first = all j t at_j is_t called in
    let second = others i s at_i is_s named in
    let e : x ≡ y = omega (arith, at_x, at_y, first, second) in
    ap (λ n. Some n) e

-- what is there once a run was deleted was there, elsewhere
else-there : (runs : List RunState) (i m : ℕ) (s : RunState) → slice_get (slice_set runs i no_run) m ≡ Some s → is_there s ≡ true → (slice_get runs m ≡ Some s) × (m ≢ i)
else-there runs i m s at there =
    let (t, was, how) = get-set runs i no_run s m at in
    ⊎_elim
    (λ (e : (m ≡ i) × (s ≡ no_run)). absurd (let clash = sym there ∙ ap is_there e.1 ∙ none-there in cc))
    (λ (e : s ≡ t). (
      was ∙ ap (λ x. Some x) (sym e),
      λ (p : m ≡ i).
          let below : m < length runs = omega (arith, get-below (slice_set runs i no_run) m s at, length-set runs i no_run) in
          let gone : s ≡ no_run = same-some s no_run (sym at ∙ ap (λ k. slice_get (slice_set runs i no_run) k) p ∙ set-there runs i no_run (subst (λ k. k < length runs) p below)) in
          let clash = sym there ∙ ap is_there gone ∙ none-there in absurd (cc),
    ))
    how

-- what stands elsewhere stays
get-else : (runs : List RunState) (i m : ℕ) (x s : RunState) → m ≢ i → slice_get runs m ≡ Some s → slice_get (slice_set runs i x) m ≡ Some s
get-else [] i m x s apart at = at
get-else (r ∷ runs) zero zero x s apart at = absurd (apart refl)
get-else (r ∷ runs) zero (suc m) x s apart at = at
get-else (r ∷ runs) (suc i) zero x s apart at = at
get-else (r ∷ runs) (suc i) (suc m) x s apart at = get-else runs i m x s (λ e. apart (ap suc e)) at

-- another run of an ID stays its latest
stays-latest : (id : List ℕ) (runs : List RunState) (i : ℕ) (o : Option ℕ) → IsLatest 1 id runs o
    → ((j : ℕ) (t : RunState) → o ≡ Some (1 + j) → slice_get runs j ≡ Some t → id_of t ≡ id → j ≢ i) → IsLatest 1 id (slice_set runs i no_run) o
stays-latest id runs i o h apart = record {
  none = λ e m s at there named. h.none e m s (else-there runs i m s at there).0 there named;
  some = λ x e.
      let (j, t, place, at, there, named, all) = h.some x e in (
        j,
        t,
        place,
        get-else runs i j no_run t (apart j t (e ∙ ap (λ n. Some n) place) at named) at,
        there,
        named,
        λ m s at_m is_s called. all m s (else-there runs i m s at_m is_s).0 is_s called,
      );
}

-- the oldest run of an ID that is its latest leaves none
none-latest : (runs : List RunState) (i : ℕ) → i < length runs → is_there (state_at runs i) ≡ true → IsOldestRun runs i
    → ((m : ℕ) (s : RunState) → slice_get runs m ≡ Some s → is_there s ≡ true → id_of s ≡ id_of (state_at runs i) → m ≤ i)
    → IsLatest 1 (id_of (state_at runs i)) (slice_set runs i no_run) None
none-latest runs i low begun oldest all = record {
  none = λ e m s at there named.
      let (was, apart) = else-there runs i m s at there in
      let less = all m s was there named in
      let older : m < i = lower m i less apart in
      oldest.first m s (state_at runs i) (record { older = older; at_m = was; at_n = get-at runs i low; is_s = there; is_t = begun; same = named });
  some = λ x e. absurd (cc);
}
  where
    lower : (m n : ℕ) → m ≤ n → m ≢ n → m < n
    lower zero zero l h = absurd (h refl)
    lower zero (suc n) l h = omega arith
    lower (suc m) zero l h = absurd (omega (arith, l))
    lower (suc m) (suc n) l h = let r = lower m n (omega (arith, l)) (λ e. h (ap suc e)) in omega (arith, r)

latest-is : (runs : List RunState) (id : List ℕ) → IsLatest 1 id runs (latest_run runs id)
unfolding latest_run latest_from
latest-is runs id = is-latest 1 id runs

-- the latest run of an ID once one of its runs, the oldest, was deleted
latest-taken : (runs : List RunState) (i : ℕ) (o : Option ℕ) → i < length runs → is_there (state_at runs i) ≡ true → IsOldestRun runs i
    → option_map ordinal_of o ≡ latest_run runs (id_of (state_at runs i)) → option_map ordinal_of (without i o) ≡ latest_run (slice_set runs i no_run) (id_of (state_at runs i))
latest-taken runs i None low begun oldest is =
    absurd ((latest-is runs (id_of (state_at runs i))).none (sym is) i (state_at runs i) (get-at runs i low) begun refl)
latest-taken runs i (Some j) low begun oldest is = by_place (j == i) refl
  where
    id : List ℕ
    id = id_of (state_at runs i)

    now : List RunState
    now = slice_set runs i no_run

    by_place : (b : Bool) → (j == i) ≡ b → option_map ordinal_of (cond b None (Some j)) ≡ latest_run now id
    by_place true same =
        let (p, t, place, at, there, called, all) = (latest-is runs id).some (j + 1) (sym is) in
        let e : j ≡ i = grind (arith, nat_tests, same) in
        let q : p ≡ i = omega (arith, place, e) in
        let empty : IsLatest 1 id now None = none-latest runs i low begun oldest (λ m s at_m is_s named. let l = all m s at_m is_s named in omega (arith, l, q)) in
        one-latest 1 id now None (latest_run now id) empty (latest-is now id)
    by_place false apart =
        let stays : IsLatest 1 id now (Some (j + 1)) = stays-latest id runs i (Some (j + 1)) (subst (IsLatest 1 id runs) (sym is) (latest-is runs id))
        (λ k t e at called p. let f : j + 1 ≡ 1 + k = same-some (j + 1) (1 + k) e in let d : j ≡ i = omega (arith, f, p) in absurd (grind (arith, nat_tests, apart, d))) in
        one-latest 1 id now (Some (j + 1)) (latest_run now id) stays (latest-is now id)

-- that of another ID
latest-else : (runs : List RunState) (i : ℕ) (w : List ℕ) → i < length runs → (id_of (state_at runs i) ≡ w → ⊥) → latest_run runs w ≡ latest_run (slice_set runs i no_run) w
latest-else runs i w low other =
    let stays = stays-latest w runs i (latest_run runs w) (latest-is runs w)
    (λ k t e at called p. other (ap id_of (same-some (state_at runs i) t (sym (get-at runs i low) ∙ ap (λ n. slice_get runs n) (sym p) ∙ at)) ∙ called)) in
    one-latest 1 w (slice_set runs i no_run) (latest_run runs w) (latest_run (slice_set runs i no_run) w) stays (latest-is (slice_set runs i no_run) w)

-- the index without the entry of a run that goes
pub indexed-taken : (look now : List ℕ → Option ℕ) (runs : List RunView) (i : ℕ) (id : List ℕ) → i < length runs → is_there (state_at (states runs) i) ≡ true → id ≡ id_of (state_at (states runs) i) → IsOldestRun (states runs) i
    → ((w : List ℕ) → now w ≡ cond (bytes_eq id w) (without i (look id)) (look w)) → IsIndexed look runs → IsIndexed now (slice_set runs i empty_place)
indexed-taken look now runs i id low begun named oldest is h = record {
  latest = λ w. ap (option_map ordinal_of) (is w) ∙ by_id w (bytes_eq id w) refl ∙ sym (ap (λ t. latest_run t w) (states-set runs i empty_place));
}
  where
    within : i < length (states runs)
    within = omega (arith, low, length-states runs)

    by_id : (w : List ℕ) (b : Bool) → bytes_eq id w ≡ b → option_map ordinal_of (cond b (without i (look id)) (look w)) ≡ latest_run (slice_set (states runs) i no_run) w
    by_id w true same =
        latest-taken (states runs) i (look id) within begun oldest (h.latest id ∙ ap (latest_run (states runs)) named)
        ∙ ap (latest_run (slice_set (states runs) i no_run)) (sym named ∙ (bytes_eq-Decides id w).0 same)
    by_id w false other = h.latest w ∙ latest-else (states runs) i w within (λ e. not_from_Decides (bytes_eq id w) (bytes_eq-Decides id w) other (named ∙ e))

-- where of two runs of one workflow ID the older has closed, and closed no later, a run that is deleted is the oldest of its
pub oldest-taken : {T : Type 0} (v : ShardView) (c : Change T) (i o : Option ℕ) → IsOneOpen (states v.runs) → AreAged v.last (states v.runs) → FitsTaken v c i o → IfSome i (IsOldestRun (states v.runs))
oldest-taken v c None o one aged fits = tt
oldest-taken v c (Some i) o one aged (removed, may, alone) = may.oldest one aged
