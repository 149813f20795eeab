-- a workflow ID has at most one open run: of two runs of one ID the earlier has closed
use Rattle.std.proofs.Common.{◌≡◌, ℕ, ◌+◌, ◌-◌, ◌<◌, ◌≤◌, ◌⊎◌, inl, inr, ⊎_elim, Bool, true, false, cond, List, [], ◌∷◌, length, refl, sym, ap, ◌∙◌, arith, Option, Some, None, zero, suc, slice_set, IfSome}
use Rattle.std.specs.Prelude.{◌&&◌, map, slice_get, bytes_eq, option_map}
use Rattle.std.proofs.lemmas.Slice.Eq.{bytes_eq-Decides}
use Rattle.std.proofs.lemmas.Bool.Decides.{not_from_Decides}
use Rattle.service_model_types.specs.declared.content.Content.{Content}
use Rattle.service_model_types.specs.declared.content.Setup.{Setup}
use Rattle.service_model.specs.Aging.{IsAged}
use Rattle.service_model.specs.Growth.{HasOneOpen}
use Rattle.service_model.specs.Service.{opening}
use Rattle.service_model.specs.Journal.{first_some}
use Rattle.service_model.specs.Outcome.{latest_run}
use Rattle.service_model.specs.RunState.{RunState, id_of, is_open, is_open_status, is_there, state_of}
use Rattle.service_model.proofs.ListLemmas.{get-map}
use Rattle.service_model.proofs.ThereLemmas.{open-there}
use Rattle.shard_issued.proofs.DispatchLemmas.{get-at}
use Rattle.shard_store.specs.ShardView.{ShardView, ordinal_of, run_in, states}
use Rattle.shard_store.specs.Fitting.{IsFree, state_at}
use Rattle.shard_store.specs.Open.{HasClosed, IsOneOpen}
use Rattle.shard_store.proofs.IndexLemmas.{bears, latest_from}
use Rattle.service_model.proofs.GrowthLemmas.{set-from as get-set}

pub same-some : {A : Type 0} (x y : A) → Some x ≡ Some y → x ≡ y
same-some x y e = cc

pub state-there : (runs : List RunState) (n : ℕ) (s : RunState) → slice_get runs n ≡ Some s → state_at runs n ≡ s
state-there [] n s is = absurd (cc)
state-there (r ∷ runs) zero s is = same-some r s is
state-there (r ∷ runs) (suc n) s is = state-there runs n s is

-- a run that bears an ID is there, and has it
bears-is : (id : List ℕ) (s : RunState) → bears id s ≡ true → (is_there s ≡ true) × (id_of s ≡ id)
bears-is id s h = by_test (is_there s) h
  where
    by_test : (b : Bool) → (b && bytes_eq (id_of s) id) ≡ true → (b ≡ true) × (id_of s ≡ id)
    by_test true h = (refl, (bytes_eq-Decides (id_of s) id).0 h)
    by_test false h = absurd (cc)

bears-not : (id : List ℕ) (s : RunState) → bears id s ≡ false → is_there s ≡ true → id_of s ≡ id → ⊥
bears-not id s h there same = not_from_Decides (bytes_eq (id_of s) id) (bytes_eq-Decides (id_of s) id) (ap (λ b. b && bytes_eq (id_of s) id) (sym there) ∙ h) same

-- the run of this ID that has the largest ordinal, where these count from k
pub record IsLatest (k : ℕ) (id : List ℕ) (runs : List RunState) (o : Option ℕ) : Type 0 where
  pub none : o ≡ None → (m : ℕ) (s : RunState) → slice_get runs m ≡ Some s → is_there s ≡ true → id_of s ≡ id → ⊥
  pub some : (x : ℕ) → o ≡ Some x → (i : ℕ) × (t : RunState) × (x ≡ k + i) × (slice_get runs i ≡ Some t) × (is_there t ≡ true) × (id_of t ≡ id)
      × ((m : ℕ) (s : RunState) → slice_get runs m ≡ Some s → is_there s ≡ true → id_of s ≡ id → m ≤ i)

pub is-latest : (k : ℕ) (id : List ℕ) (runs : List RunState) → IsLatest k id runs (latest_from k id runs)
unfolding latest_from
is-latest k id [] = record { none = λ e m s is there same. absurd (cc); some = λ x e. absurd (cc) }
is-latest k id (r ∷ runs) = by_rest (latest_from (k + 1) id runs) (is-latest (k + 1) id runs) (bears id r) refl
  where
    by_rest : (o : Option ℕ) → IsLatest (k + 1) id runs o → (b : Bool) → bears id r ≡ b → IsLatest k id (r ∷ runs) (first_some o (cond b (Some k) None))
    by_rest (Some y) h b here = record {
      none = λ e. absurd (cc);
      some = λ x e. let (i, t, place, at, there, same, all) = h.some y refl in (i + 1, t, (let xy = same-some y x e in omega (arith, place, xy)), next i t at, there, same, more i all);
    }
      where
        next : (i : ℕ) (t : RunState) → slice_get runs i ≡ Some t → slice_get (r ∷ runs) (i + 1) ≡ Some t
        next i t at = ap (λ n. slice_get (r ∷ runs) n) (let e : i + 1 ≡ suc i = omega arith in e) ∙ at

        more : (i : ℕ) → ((m : ℕ) (s : RunState) → slice_get runs m ≡ Some s → is_there s ≡ true → id_of s ≡ id → m ≤ i) → (m : ℕ) (s : RunState) → slice_get (r ∷ runs) m ≡ Some s → is_there s ≡ true → id_of s ≡ id → m ≤ i + 1
        more i all zero s is there same = omega arith
        more i all (suc m) s is there same = let l = all m s is there same in omega (arith, l)
    by_rest None h true here = record {
      none = λ e. absurd (cc);
      some = λ x e. (0, r, (let xk = same-some k x e in omega (arith, xk)), refl, (bears-is id r here).0, (bears-is id r here).1, only);
    }
      where
        only : (m : ℕ) (s : RunState) → slice_get (r ∷ runs) m ≡ Some s → is_there s ≡ true → id_of s ≡ id → m ≤ 0
        only zero s is there same = omega arith
        only (suc m) s is there same = absurd (h.none refl m s is there same)
    by_rest None h false here = record { none = λ e. nowhere; some = λ x e. absurd (cc) }
      where
        nowhere : (m : ℕ) (s : RunState) → slice_get (r ∷ runs) m ≡ Some s → is_there s ≡ true → id_of s ≡ id → ⊥
        nowhere zero s is there same = let e = same-some r s is in bears-not id r here (ap is_there e ∙ there) (ap id_of e ∙ same)
        nowhere (suc m) s is there same = h.none refl m s is there same

-- where the latest run of an ID has closed, all of its runs have
all-closed : (runs : List RunState) (id : List ℕ) (m : ℕ) (s : RunState) → IsOneOpen runs → IsFree runs id → slice_get runs m ≡ Some s → is_there s ≡ true → id_of s ≡ id → is_open s ≡ false
unfolding latest_run latest_from
all-closed runs id m s one free there begun same = by_latest (latest_from 1 id runs) (is-latest 1 id runs) free
  where
    by_latest : (o : Option ℕ) → IsLatest 1 id runs o → IfSome o (λ n. is_open (state_at runs (n - 1)) ≡ false) → is_open s ≡ false
    by_latest None h closed = absurd (h.none refl m s there begun same)
    by_latest (Some x) h closed =
        let (i, t, place, at, is_t, named, all) = h.some x refl in
        let over : is_open t ≡ false = ap is_open (sym (state-there runs i t at) ∙ ap (state_at runs) (let e : i ≡ x - 1 = omega (arith, place) in e)) ∙ closed in
        ⊎_elim (λ (e : m ≡ i). ap is_open (same-some s t (sym there ∙ ap (λ n. slice_get runs n) e ∙ at)) ∙ over)
        (λ (l : m < i). one.earlier m i s t l there at is_t (same ∙ sym named))
        (at_or_below m i (all m s there begun same))
      where
        at_or_below : (a b : ℕ) → a ≤ b → (a ≡ b) ⊎ (a < b)
        at_or_below zero zero l = inl refl
        at_or_below zero (suc b) l = inr (omega arith)
        at_or_below (suc a) zero l = absurd (omega (arith, l))
        at_or_below (suc a) (suc b) l = ⊎_elim (λ e. inl (ap suc e)) (λ h. inr (omega (arith, h))) (at_or_below a b (omega (arith, l)))

-- a run that isn't there is not open
if-there : (s : RunState) → (is_there s ≡ true → is_open s ≡ false) → is_open s ≡ false
if-there s h = by_test (is_there s) refl
  where
    by_test : (b : Bool) → is_there s ≡ b → is_open s ≡ false
    by_test true e = h e
    by_test false e = ap (λ b. b && is_open_status s.status) e

pub free-closed : (runs : List RunState) (id : List ℕ) → IsFree runs id → IsOneOpen runs → HasClosed runs id
free-closed runs id free one = record { each = λ m s there same. if-there s (λ begun. all-closed runs id m s one free there begun same) }

-- the latest run of an ID is there, and has this ID
pub latest-there : (runs : List RunState) (id : List ℕ) (n : ℕ) → latest_run runs id ≡ Some n → is_there (state_at runs (n - 1)) ≡ true
unfolding latest_run latest_from
latest-there runs id n is =
    let (i, t, place, at, there, named, all) = (is-latest 1 id runs).some n is in
    let here : i ≡ n - 1 = omega (arith, place) in
    ap is_there (ap (state_at runs) (sym here) ∙ state-there runs i t at) ∙ there

-- so it is at the place that the index knows
pub run-latest : (v : ShardView) (id : List ℕ) (place : Option ℕ) → option_map ordinal_of place ≡ latest_run (states v.runs) id → IfSome place (λ i. is_there (run_in v i) ≡ true)
run-latest v id None is = tt
run-latest v id (Some i) is = latest-there (states v.runs) id (ordinal_of i) (sym is)

pub latest-named : (runs : List RunState) (id : List ℕ) (n : ℕ) → latest_run runs id ≡ Some n → id_of (state_at runs (n - 1)) ≡ id
unfolding latest_run latest_from
latest-named runs id n is =
    let (i, t, place, at, there, named, all) = (is-latest 1 id runs).some n is in
    let here : i ≡ n - 1 = omega (arith, place) in
    ap id_of (ap (state_at runs) (sym here) ∙ state-there runs i t at) ∙ named

pub set-there : {A : Type 0} (xs : List A) (i : ℕ) (x : A) → i < length xs → slice_get (slice_set xs i x) i ≡ Some x
set-there [] i x h = absurd (omega arith)
set-there (y ∷ xs) zero x h = refl
set-there (y ∷ xs) (suc i) x h = set-there xs i x (omega arith)

which : (m n : ℕ) → (m ≡ n) ⊎ ((m < n) ⊎ (n < m))
which zero zero = inl refl
which zero (suc n) = inr (inl (omega arith))
which (suc m) zero = inr (inr (omega arith))
which (suc m) (suc n) = ⊎_elim (λ e. inl (ap suc e)) (λ h. inr (⊎_elim (λ l. inl (omega (arith, l))) (λ l. inr (omega (arith, l))) h)) (which m n)

-- where the open run of an ID is closed, all of its runs have closed
pub closed-alone : (runs : List RunState) (i : ℕ) (x : RunState) → i < length runs → is_open (state_at runs i) ≡ true → is_open x ≡ false → IsOneOpen runs → HasClosed (slice_set runs i x) (id_of (state_at runs i))
closed-alone runs i x low opened over one = record {
  each = λ m s at same. ⊎_elim
      (λ (e : m ≡ i). ap is_open (same-some s x (sym at ∙ ap (λ k. slice_get (slice_set runs i x) k) e ∙ set-there runs i x low)) ∙ over)
      (λ (apart : (m < i) ⊎ (i < m)).
      let (t, there, how) = get-set runs i x s m at in
      let is : s ≡ t = ⊎_elim (λ (e : (m ≡ i) × (s ≡ x)). absurd (⊎_elim (λ (l : m < i). let c = e.0 in omega (arith, l, c)) (λ (l : i < m). let c = e.0 in omega (arith, l, c)) apart)) (λ (e : s ≡ t). e) how in
      let named : id_of t ≡ id_of (state_at runs i) = ap id_of (sym is) ∙ same in
      let here : slice_get runs i ≡ Some (state_at runs i) = get-at runs i low in
      ap is_open is ∙ ⊎_elim
      (λ (l : m < i). one.earlier m i t (state_at runs i) l there here (open-there (state_at runs i) opened) named)
      (λ (l : i < m). if-there t (λ begun. absurd (let clash = sym opened ∙ one.earlier i m (state_at runs i) t l here there begun (sym named) in cc))) apart)
      (which m i);
}

-- the same, of the journals
pub of-journals : (S : Content) → HasOneOpen S → IsOneOpen (map state_of S.runs)
of-journals S one = record {
  earlier = λ m n s t l at_m at_n is_t same.
      let (J, there_m, is_m) = get-map state_of S.runs m s at_m in
      let (K, there_n, is_n) = get-map state_of S.runs n t at_n in
      ap is_open is_m ∙ one.earlier m n J K l there_m there_n (ap is_there (sym is_n) ∙ is_t) (ap id_of (sym is_m) ∙ same ∙ ap id_of is_n);
}

-- both are so where no run was made
pub none-made : (setup : Setup) → HasOneOpen (opening setup)
none-made setup = record { earlier = λ m n J K less at_m at_n is_k same. absurd (cc) }

pub none-aged : (setup : Setup) → IsAged (opening setup)
none-aged setup = record {
  over = λ n s at there over. absurd (cc);
  in_order = λ m n s t pair over a b at_a at_b. absurd (let at = pair.at_m in cc);
}
