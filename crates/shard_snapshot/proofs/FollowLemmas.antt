-- a run that comes after the others: of two runs of one workflow ID the older has closed, and closed no later
use Rattle.std.proofs.Common.{◌≡◌, ℕ, zero, suc, ◌-◌, ◌<◌, ◌≤◌, ◌⊎◌, inl, inr, ⊎_elim, Bool, true, false, not, List, [], ◌∷◌, ◌++◌, length, refl, sym, ap, ◌∙◌, subst, arith, Option, Some, None}
use Rattle.std.specs.Prelude.{◌&&◌, ◌||◌, find, map, option_map, slice_get, IfSome}
use Rattle.std.proofs.lemmas.Bool.Decides.{nat_tests}
use Rattle.wf_event.specs.declared.event.Event.{Event}
use Rattle.service_model_types.specs.declared.content.Content.{Content}
use Rattle.service_model.specs.Aging.{AreAged, AreOfOne, HasClosedBy}
use Rattle.service_model.specs.Deadlines.{is_closing_event}
use Rattle.service_model.specs.Growth.{HasOneOpen}
use Rattle.service_model.specs.Outcome.{latest_run}
use Rattle.service_model.specs.RunState.{RunState, id_of, is_open, is_there, no_run, state_of}
use Rattle.service_model.proofs.ListLemmas.{map-get}
use Rattle.shard_store.specs.Fitting.{state_at}
use Rattle.shard_store.specs.Open.{HasClosed, IsOneOpen}
use Rattle.shard_store.proofs.IndexLemmas.{latest_from}
use Rattle.shard_store.proofs.OpenLemmas.{free-closed, is-latest, same-some, state-there, IsLatest}
use Rattle.shard_store.proofs.PlaceLemmas.{none-there}
use Rattle.shard_snapshot.specs.Laid.{closed_at, follows, in_order, is_by, may_end}

-- ---- tests

pub both : (b c : Bool) → (b && c) ≡ true → (b ≡ true) × (c ≡ true)
both true c h = (refl, h)
both false c h = absurd (cc)

pub not-true : (b : Bool) → not b ≡ true → b ≡ false
not-true false h = refl
not-true true h = absurd (cc)

pub either : (b c : Bool) → b ≡ false → (b || c) ≡ true → c ≡ true
either false c e h = h
either true c e h = absurd (cc)

-- ---- lists with one more

pub push-from : {A : Type 0} (xs : List A) (x y : A) (n : ℕ) → slice_get (xs ++ x ∷ []) n ≡ Some y → (slice_get xs n ≡ Some y) ⊎ ((n ≡ length xs) × (y ≡ x))
push-from [] x y zero is = inr (refl, same-some y x (sym is))
push-from [] x y (suc n) is = absurd (cc)
push-from (z ∷ xs) x y zero is = inl is
push-from (z ∷ xs) x y (suc n) is = ⊎_elim (λ e. inl e) (λ e. inr (ap suc e.0, e.1)) (push-from xs x y n is)

within : {A : Type 0} (xs : List A) (n : ℕ) (x : A) → slice_get xs n ≡ Some x → n < length xs
within [] n x is = absurd (cc)
within (y ∷ xs) zero x is = omega arith
within (y ∷ xs) (suc n) x is = let l = within xs n x is in omega (arith, l)

-- ---- the latest run of a workflow ID, where one may come after it

free-of : (runs : List RunState) (o : Option ℕ) (s : RunState) → follows runs o s ≡ true → IfSome o (λ n. is_open (state_at runs (n - 1)) ≡ false)
free-of runs None s h = tt
free-of runs (Some n) s h = not-true (is_open (state_at runs (n - 1))) (both (not (is_open (state_at runs (n - 1)))) (in_order (closed_at (state_at runs (n - 1))) (closed_at s)) h).0

-- so all earlier ones have closed
pub all-closed : (runs : List RunState) (s : RunState) → follows runs (latest_run runs (id_of s)) s ≡ true → IsOneOpen runs → HasClosed runs (id_of s)
all-closed runs s h one = free-closed runs (id_of s) (free-of runs (latest_run runs (id_of s)) s h) one

pub one-more : (runs : List RunState) (s : RunState) → HasClosed runs (id_of s) → IsOneOpen runs → IsOneOpen (runs ++ s ∷ [])
one-more runs s closed one = record { earlier = λ m n r t less at_m at_n there same. by m n r t less there same (push-from runs s r m at_m) (push-from runs s t n at_n) }
  where
    by : (m n : ℕ) (r t : RunState) → m < n → is_there t ≡ true → id_of r ≡ id_of t → (slice_get runs m ≡ Some r) ⊎ ((m ≡ length runs) × (r ≡ s)) → (slice_get runs n ≡ Some t) ⊎ ((n ≡ length runs) × (t ≡ s)) → is_open r ≡ false
    by m n r t less there same (inl a) (inl b) = one.earlier m n r t less a b there same
    by m n r t less there same (inl a) (inr b) = closed.each m r a (same ∙ ap id_of b.1)
    by m n r t less there same (inr a) (inl b) = absurd (let l = within runs n t b in let e = a.0 in omega (arith, l, less, e))
    by m n r t less there same (inr a) (inr b) = absurd (let p = a.0 in let q = b.0 in omega (arith, p, q, less))

pub one-gone : (runs : List RunState) → IsOneOpen runs → IsOneOpen (runs ++ no_run ∷ [])
one-gone runs one = record { earlier = λ m n r t less at_m at_n there same. by m n r t less there same (push-from runs no_run r m at_m) (push-from runs no_run t n at_n) }
  where
    by : (m n : ℕ) (r t : RunState) → m < n → is_there t ≡ true → id_of r ≡ id_of t → (slice_get runs m ≡ Some r) ⊎ ((m ≡ length runs) × (r ≡ no_run)) → (slice_get runs n ≡ Some t) ⊎ ((n ≡ length runs) × (t ≡ no_run)) → is_open r ≡ false
    by m n r t less there same (inl a) (inl b) = one.earlier m n r t less a b there same
    by m n r t less there same (inr a) (inl b) = absurd (let l = within runs n t b in let e = a.0 in omega (arith, l, less, e))
    by m n r t less there same x (inr b) = absurd (let clash = sym none-there ∙ sym (ap is_there b.1) ∙ there in cc)

-- ---- moments

closed-by : (last : ℕ) (o : Option Event) → is_by last (option_map (λ (e : Event). e.at) o) ≡ true → (e : Event) × (o ≡ Some e) × (e.at ≤ last)
closed-by last None h = absurd (cc)
closed-by last (Some e) h = (e, refl, grind (arith, nat_tests))

pub has-closed : (last : ℕ) (s : RunState) → is_by last (closed_at s) ≡ true → HasClosedBy last s
has-closed last s h = let (e, is, low) = closed-by last (find is_closing_event s.shown) h in record { event = e; closing = is; no_later = low }

ordered : (a b : ℕ) → in_order (Some a) (Some b) ≡ true → a ≤ b
ordered a b h = grind (arith, nat_tests)

-- of the latest run of its workflow ID
in-order-behind : (s t : RunState) → in_order (closed_at s) (closed_at t) ≡ true → (a b : Event) → find is_closing_event s.shown ≡ Some a → find is_closing_event t.shown ≡ Some b → a.at ≤ b.at
in-order-behind s t h a b at_a at_b =
    ordered a.at b.at (sym (ap (λ o. in_order (option_map (λ (e : Event). e.at) o) (closed_at t)) at_a ∙ ap (λ o. in_order (Some a.at) (option_map (λ (e : Event). e.at) o)) at_b) ∙ h)

-- what of a run's age an older one has to have
record IsOlder (runs : List RunState) (s : RunState) : Type 0 where
  each : (m : ℕ) (r : RunState) → slice_get runs m ≡ Some r → is_there r ≡ true → id_of r ≡ id_of s → (a b : Event) → find is_closing_event r.shown ≡ Some a → find is_closing_event s.shown ≡ Some b → a.at ≤ b.at

older : (last : ℕ) (runs : List RunState) (s : RunState) → follows runs (latest_run runs (id_of s)) s ≡ true → AreAged last runs → IsOlder runs s
unfolding latest_run latest_from
older last runs s h aged = record { each = by_latest (latest_from 1 (id_of s) runs) (is-latest 1 (id_of s) runs) h }
  where
    by_latest : (o : Option ℕ) → IsLatest 1 (id_of s) runs o → follows runs o s ≡ true → (m : ℕ) (r : RunState) → slice_get runs m ≡ Some r → is_there r ≡ true → id_of r ≡ id_of s → (a b : Event) → find is_closing_event r.shown ≡ Some a → find is_closing_event s.shown ≡ Some b → a.at ≤ b.at
    by_latest None l h m r at there same a b at_a at_b = absurd (l.none refl m r at there same)
    by_latest (Some x) l h m r at there same a b at_a at_b =
        let (i, t, place, at_t, is_t, named, all) = l.some x refl in
        let here : i ≡ x - 1 = omega (arith, place) in
        let is : state_at runs (x - 1) ≡ t = sym (ap (state_at runs) here) ∙ state-there runs i t at_t in
        let tests = both (not (is_open (state_at runs (x - 1)))) (in_order (closed_at (state_at runs (x - 1))) (closed_at s)) h in
        let over : is_open t ≡ false = sym (ap is_open is) ∙ not-true (is_open (state_at runs (x - 1))) tests.0 in
        let after : in_order (closed_at t) (closed_at s) ≡ true = sym (ap (λ r. in_order (closed_at r) (closed_at s)) is) ∙ tests.1 in
        ⊎_elim
        (λ (e : m ≡ i). in-order-behind t s after a b (ap (λ (q : RunState). find is_closing_event q.shown) (same-some t r (sym at_t ∙ ap (λ k. slice_get runs k) (sym e) ∙ at)) ∙ at_a) at_b)
        (λ (less : m < i).
        let c = aged.over i t at_t is_t over in
        let first = aged.in_order m i r t (record { older = less; at_m = at; at_n = at_t; is_s = there; is_t = is_t; same = same ∙ sym named }) over a c.event at_a c.closing in
        let second = in-order-behind t s after c.event b c.closing at_b in
        omega (arith, first, second))
        (at_or_below m i (all m r at there same))
      where
        at_or_below : (a b : ℕ) → a ≤ b → (a ≡ b) ⊎ (a < b)
        at_or_below zero zero l = inl refl
        at_or_below zero (suc b) l = inr (omega arith)
        at_or_below (suc a) zero l = absurd (omega (arith, l))
        at_or_below (suc a) (suc b) l = ⊎_elim (λ e. inl (ap suc e)) (λ h. inr (omega (arith, h))) (at_or_below a b (omega (arith, l)))

aged-push : (last : ℕ) (runs : List RunState) (s : RunState) → (is_there s ≡ true → is_open s ≡ false → HasClosedBy last s) → (is_there s ≡ true → IsOlder runs s) → AreAged last runs → AreAged last (runs ++ s ∷ [])
aged-push last runs s closes older aged = record {
  over = λ n t at there over. over_by n t there over (push-from runs s t n at);
  in_order = λ m n r t p over a b at_a at_b. order_by m n r t p over (push-from runs s r m p.at_m) (push-from runs s t n p.at_n) a b at_a at_b;
}
  where
    over_by : (n : ℕ) (t : RunState) → is_there t ≡ true → is_open t ≡ false → (slice_get runs n ≡ Some t) ⊎ ((n ≡ length runs) × (t ≡ s)) → HasClosedBy last t
    over_by n t there over (inl at) = aged.over n t at there over
    over_by n t there over (inr e) = subst (HasClosedBy last) (sym e.1) (closes (sym (ap is_there e.1) ∙ there) (sym (ap is_open e.1) ∙ over))

    order_by : (m n : ℕ) (r t : RunState) → AreOfOne (runs ++ s ∷ []) m n r t → is_open t ≡ false → (slice_get runs m ≡ Some r) ⊎ ((m ≡ length runs) × (r ≡ s)) → (slice_get runs n ≡ Some t) ⊎ ((n ≡ length runs) × (t ≡ s)) →
        (a b : Event) → find is_closing_event r.shown ≡ Some a → find is_closing_event t.shown ≡ Some b → a.at ≤ b.at
    order_by m n r t p over (inl x) (inl y) a b at_a at_b = aged.in_order m n r t (record { older = p.older; at_m = x; at_n = y; is_s = p.is_s; is_t = p.is_t; same = p.same }) over a b at_a at_b
    order_by m n r t p over (inl x) (inr y) a b at_a at_b = (older (sym (ap is_there y.1) ∙ p.is_t)).each m r x p.is_s (p.same ∙ ap id_of y.1) a b at_a (sym (ap (λ (q : RunState). find is_closing_event q.shown) y.1) ∙ at_b)
    order_by m n r t p over (inr x) (inl y) a b at_a at_b = absurd (let l = within runs n t y in let e = x.0 in let less = p.older in omega (arith, l, less, e))
    order_by m n r t p over (inr x) (inr y) a b at_a at_b = absurd (let e = x.0 in let q = y.0 in let less = p.older in omega (arith, e, q, less))

-- a run that may come after the others
pub aged-more : (last : ℕ) (runs : List RunState) (s : RunState) → may_end last runs s ≡ true → AreAged last runs → AreAged last (runs ++ s ∷ [])
aged-more last runs s h aged =
    let tests = both (is_open s || is_by last (closed_at s)) (follows runs (latest_run runs (id_of s)) s) h in
    aged-push last runs s (λ there over. has-closed last s (either (is_open s) (is_by last (closed_at s)) over tests.0)) (λ there. older last runs s tests.1 aged) aged

-- the place of a run that was deleted
pub aged-gone : (last : ℕ) (runs : List RunState) → AreAged last runs → AreAged last (runs ++ no_run ∷ [])
aged-gone last runs aged = aged-push last runs no_run (λ there. absurd (let clash = sym none-there ∙ there in cc)) (λ there. absurd (let clash = sym none-there ∙ there in cc)) aged

-- a later last moment
pub aged-later : (last later : ℕ) (runs : List RunState) → last ≤ later → AreAged last runs → AreAged later runs
aged-later last later runs more aged = record {
  over = λ n s at there over. let c = aged.over n s at there over in record { event = c.event; closing = c.closing; no_later = (let low = c.no_later in omega (arith, low, more)) };
  in_order = aged.in_order;
}

-- of journals what is so of their states
pub to-journals : (S : Content) → IsOneOpen (map state_of S.runs) → HasOneOpen S
to-journals S one = record { earlier = λ m n J K less at_m at_n there same. one.earlier m n (state_of J) (state_of K) less (map-get state_of S.runs m J at_m) (map-get state_of S.runs n K at_n) there same }
