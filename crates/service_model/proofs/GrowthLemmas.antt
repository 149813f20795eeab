-- what a step keeps of the histories that were there: it adds to an open run, takes the oldest run of its workflow ID away, and makes one whose workflow ID no open run has
use Rattle.std.proofs.Common.{◌≡◌, ℕ, ◌+◌, ◌-◌, ◌<◌, ◌⊎◌, inl, inr, ⊎_elim, Bool, true, false, List, [], ◌∷◌, ◌++◌, length, refl, sym, ap, ◌∙◌, arith, append-nil, le_refl, Option, Some, None, zero, suc, slice_set, subst}
use Rattle.std.specs.Prelude.{◌≤◌, find, map, slice_get, slice_index_or}
use Rattle.wf_event.specs.declared.event.Event.{Event}
use Rattle.service_model_types.specs.declared.content.Content.{Content}
use Rattle.service_model_types.specs.declared.journal.Fact.{Fact}
use Rattle.service_model_types.specs.declared.transfer.TransferContent.{TransferContent}
use Rattle.service_model.specs.Aging.{AreAged, AreOfOne, ClosesAt, HasClosedBy, IsOldest, IsOldestRun, OlderFirst}
use Rattle.service_model.specs.Counts.{outgoing_to}
use Rattle.service_model.specs.Deadlines.{is_closing_event}
use Rattle.service_model.specs.Deliveries.{accepted_from}
use Rattle.service_model.specs.GroundGrowth.{outcome-accepted, outcome-issued}
use Rattle.service_model.specs.Growth.{HasOneOpen, KeepsHistories}
use Rattle.service_model.specs.GrowthLaws.{keeps-on, keeps-same, named-alike, not-away, there-alike}
use Rattle.service_model.specs.Journal.{Journal}
use Rattle.service_model.specs.Outcome.{Outcome, Added, Counting, CountsNothing, AcceptsFrom, AcknowledgesTo, CountsDispatch}
use Rattle.service_model.specs.RunState.{RunState, beginning, id_of, is_open, is_there, state_of}
use Rattle.service_model.specs.Service.{content_after, entries, journal_at, with_added, with_count, with_created, with_removed}
use Rattle.service_model.specs.Shown.{shown}
use Rattle.service_model.proofs.ListLemmas.{get-map, map-get}
use Rattle.service_model.proofs.ThereLemmas.{none-there}

same-some : {A : Type 0} (x y : A) → Some x ≡ Some y → x ≡ y
same-some x y e = cc

-- what stands in a list one member of which is another, seen from before and from after
set-on : {A : Type 0} (xs : List A) (i : ℕ) (x y : A) (n : ℕ) → slice_get xs n ≡ Some y → ((n ≡ i) × (slice_get (slice_set xs i x) n ≡ Some x)) ⊎ (slice_get (slice_set xs i x) n ≡ Some y)
set-on [] i x y n is = absurd (cc)
set-on (z ∷ xs) zero x y zero is = inl (refl, refl)
set-on (z ∷ xs) zero x y (suc n) is = inr is
set-on (z ∷ xs) (suc i) x y zero is = inr is
set-on (z ∷ xs) (suc i) x y (suc n) is = ⊎_elim (λ e. inl (ap suc e.0, e.1)) (λ e. inr e) (set-on xs i x y n is)

pub set-from : {A : Type 0} (xs : List A) (i : ℕ) (x y : A) (n : ℕ) → slice_get (slice_set xs i x) n ≡ Some y → (z : A) × (slice_get xs n ≡ Some z) × (((n ≡ i) × (y ≡ x)) ⊎ (y ≡ z))
set-from [] i x y n is = absurd (cc)
set-from (z ∷ xs) zero x y zero is = (z, refl, inl (refl, same-some y x (sym is)))
set-from (z ∷ xs) zero x y (suc n) is = (y, is, inr refl)
set-from (z ∷ xs) (suc i) x y zero is = (y, is, inr refl)
set-from (z ∷ xs) (suc i) x y (suc n) is = let r = set-from xs i x y n is in (r.0, r.1, ⊎_elim (λ e. inl (ap suc e.0, e.1)) (λ e. inr e) r.2)

-- what stands in a list that has one member more, seen from before and from after
push-on : {A : Type 0} (xs : List A) (x y : A) (n : ℕ) → slice_get xs n ≡ Some y → slice_get (xs ++ x ∷ []) n ≡ Some y
push-on [] x y n is = absurd (cc)
push-on (z ∷ xs) x y zero is = is
push-on (z ∷ xs) x y (suc n) is = push-on xs x y n is

push-from : {A : Type 0} (xs : List A) (x y : A) (n : ℕ) → slice_get (xs ++ x ∷ []) n ≡ Some y → (slice_get xs n ≡ Some y) ⊎ ((n ≡ length xs) × (y ≡ x))
push-from [] x y zero is = inr (refl, same-some y x (sym is))
push-from [] x y (suc n) is = absurd (cc)
push-from (z ∷ xs) x y zero is = inl is
push-from (z ∷ xs) x y (suc n) is = ⊎_elim (λ e. inl e) (λ e. inr (ap suc e.0, e.1)) (push-from xs x y n is)

pub below : {A : Type 0} (xs : List A) (n : ℕ) (x : A) → slice_get xs n ≡ Some x → n < length xs
below [] n x is = absurd (cc)
below (y ∷ xs) zero x is = omega arith
below (y ∷ xs) (suc n) x is = let l = below xs n x is in omega (arith, l)

at-place : {A : Type 0} (xs : List A) (n : ℕ) (x d : A) → slice_get xs n ≡ Some x → slice_index_or xs n d ≡ x
at-place [] n x d is = absurd (cc)
at-place (y ∷ xs) zero x d is = same-some y x is
at-place (y ∷ xs) (suc n) x d is = at-place xs n x d is

-- the content with other runs
abbrev pub with_runs : Content → List Journal → Content
with_runs S runs = record S { runs = runs }

-- what a journal may become at a moment: its run shows more, and began as it did, or it is deleted; one that had closed is as it was then; one that closes does so at the moment
record Becomes (moment : ℕ) (J X : Journal) : Type 0 where
  shows : (more : List Event) × ((X ≡ []) ⊎ (shown X ≡ shown J ++ more))
  closed : is_open (state_of J) ≡ false → (X ≡ []) ⊎ (X ≡ J)
  gone : J ≡ [] → X ≡ []
  same : (X ≡ []) ⊎ (beginning X ≡ beginning J)
  closes : is_open (state_of J) ≡ true → is_there (state_of X) ≡ true → is_open (state_of X) ≡ false → ClosesAt moment (state_of X)

-- where it was open and is there, it began as it did
began-there : {moment : ℕ} {J X : Journal} → Becomes moment J X → is_there (state_of X) ≡ true → beginning X ≡ beginning J
began-there {moment} {J} {X} b there = ⊎_elim (λ e. absurd (not-away X there e)) (λ e. e) b.same

stays-there : {moment : ℕ} {J X : Journal} → Becomes moment J X → is_there (state_of X) ≡ true → is_open (state_of J) ≡ false → X ≡ J
stays-there {moment} {J} {X} b there over = ⊎_elim (λ e. absurd (not-away X there e)) (λ e. e) (b.closed over)

none-open : (X : Journal) → X ≡ [] → is_open (state_of X) ≡ false
none-open X e = ap (λ l. is_open (state_of l)) e ∙ none-there.1

-- two journals of one workflow ID, whose states are at two places
record OfOne (runs : List Journal) (m n : ℕ) (J K : Journal) : Type 0 where
  older : m < n
  at_m : slice_get runs m ≡ Some J
  at_n : slice_get runs n ≡ Some K
  is_j : is_there (state_of J) ≡ true
  is_k : is_there (state_of K) ≡ true
  same : id_of (state_of J) ≡ id_of (state_of K)

to-states : {runs : List Journal} {m n : ℕ} {J K : Journal} → OfOne runs m n J K → AreOfOne (map state_of runs) m n (state_of J) (state_of K)
to-states {runs} {m} {n} {J} {K} p = record { older = p.older; at_m = map-get state_of runs m J p.at_m; at_n = map-get state_of runs n K p.at_n; is_s = p.is_j; is_t = p.is_k; same = p.same }

-- what is to be shown of states, by their journals
of-states : (P : RunState → RunState → Type 0) (runs : List Journal) (m n : ℕ) (s t : RunState) → AreOfOne (map state_of runs) m n s t → ((J K : Journal) → OfOne runs m n J K → P (state_of J) (state_of K)) → P s t
of-states P runs m n s t p by =
    let (J, at_j, is_j) = get-map state_of runs m s p.at_m in
    let (K, at_k, is_k) = get-map state_of runs n t p.at_n in
    let Q : RunState → Type 0 = λ r. P r t in
    let R : RunState → Type 0 = λ r. P (state_of J) r in
    subst Q (sym is_j) (subst R (sym is_k) (by J K (record {
      older = p.older;
      at_m = at_j;
      at_n = at_k;
      is_j = ap (λ r. is_there r) (sym is_j) ∙ p.is_s;
      is_k = ap (λ r. is_there r) (sym is_k) ∙ p.is_t;
      same = ap (λ r. id_of r) (sym is_j) ∙ p.same ∙ ap (λ r. id_of r) is_k;
    })))

-- the closing events of two runs are in order
abbrev InOrder : RunState → RunState → Type 0
InOrder s t = is_open t ≡ false → (a b : Event) → find is_closing_event s.shown ≡ Some a → find is_closing_event t.shown ≡ Some b → a.at ≤ b.at

-- an age by journals
record AgedBy (last : ℕ) (runs : List Journal) : Type 0 where
  over : (n : ℕ) (J : Journal) → slice_get runs n ≡ Some J → is_there (state_of J) ≡ true → is_open (state_of J) ≡ false → HasClosedBy last (state_of J)
  in_order : (m n : ℕ) (J K : Journal) → OfOne runs m n J K → InOrder (state_of J) (state_of K)

by-states : {last : ℕ} {runs : List Journal} → AreAged last (map state_of runs) → AgedBy last runs
by-states {last} {runs} a = record {
  over = λ n J at there over. a.over n (state_of J) (map-get state_of runs n J at) there over;
  in_order = λ m n J K p over x y at_x at_y. a.in_order m n (state_of J) (state_of K) (to-states p) over x y at_x at_y;
}

by-journals : {last : ℕ} {runs : List Journal} → AgedBy last runs → AreAged last (map state_of runs)
by-journals {last} {runs} a = record {
  over = λ n s at there over.
      let (J, at_j, is) = get-map state_of runs n s at in
      subst (HasClosedBy last) (sym is) (a.over n J at_j (ap (λ r. is_there r) (sym is) ∙ there) (ap (λ r. is_open r) (sym is) ∙ over));
  in_order = λ m n s t p. of-states InOrder runs m n s t p (λ J K q. a.in_order m n J K q);
}

-- what closed by the last moment closed no later than what closes at it
by-last : {last : ℕ} {s t : RunState} → HasClosedBy last s → ClosesAt last t → (a b : Event) → find is_closing_event s.shown ≡ Some a → find is_closing_event t.shown ≡ Some b → a.at ≤ b.at
by-last {last} {s} {t} h c a b at_a at_b =
    let is_a : h.event ≡ a = same-some h.event a (sym h.closing ∙ at_a) in
    let is_b : c.event ≡ b = same-some c.event b (sym c.closing ∙ at_b) in
    let x : h.event.at ≡ a.at = ap (λ (e : Event). e.at) is_a in
    let y : c.event.at ≡ b.at = ap (λ (e : Event). e.at) is_b in
    omega (arith, h.no_later, c.at, x, y)

closed-by : {last : ℕ} {s : RunState} → ClosesAt last s → HasClosedBy last s
closed-by {last} c = record { event = c.event; closing = c.closing; no_later = (let e = c.at in omega (arith, e)) }

-- where a journal stands that is found in a list with another member, or with one more
abbrev FromSet : List Journal → ℕ → Journal → ℕ → Journal → Type 0
FromSet runs i X n K = (z : Journal) × (slice_get runs n ≡ Some z) × (((n ≡ i) × (K ≡ X)) ⊎ (K ≡ z))

abbrev FromPush : List Journal → Journal → ℕ → Journal → Type 0
FromPush runs X n K = (slice_get runs n ≡ Some K) ⊎ ((n ≡ length runs) × (K ≡ X))

by_state : (P : RunState → Type 0) (J K : Journal) → J ≡ K → P (state_of K) → P (state_of J)
by_state P J K e h = subst P (ap state_of (sym e)) h

keeps-set : (S : Content) (i : ℕ) (X : Journal) → ((J : Journal) → slice_get S.runs i ≡ Some J → Becomes S.last_moment J X)
    → ((J : Journal) → slice_get S.runs i ≡ Some J → is_there (state_of J) ≡ true → X ≡ [] → IsOldest S i) → KeepsHistories S (with_runs S (slice_set S.runs i X))
keeps-set S i X may oldest = record {
  runs = λ n J there. ⊎_elim
      (λ e. let m = at n J e.0 there in (X, m.shows.0, e.1, m.shows.1))
      (λ e. (J, [], e, inr (sym (append-nil (shown J)))))
      (set-on S.runs i X J n there);
  closed = λ n J there over. ⊎_elim
      (λ e. ⊎_elim (λ x. inl (e.1 ∙ ap (λ l. Some l) x)) (λ x. inr (e.1 ∙ ap (λ l. Some l) x)) ((at n J e.0 there).closed over))
      (λ e. inr e)
      (set-on S.runs i X J n there);
  gone = λ n there. ⊎_elim (λ e. e.1 ∙ ap (λ l. Some l) ((at n [] e.0 there).gone refl)) (λ e. e) (set-on S.runs i X [] n there);
  same = λ n J K at_j at_k. kept n J K at_j (set-from S.runs i X K n at_k);
  one = λ h. record { earlier = λ m n J K less at_m at_n is_k same. earlier h m n J K less (set-from S.runs i X J m at_m) (set-from S.runs i X K n at_n) is_k same };
  aged = λ h a. (by-journals (aged h (by-states a)), record { gone = λ m n s t p away. of-states (λ r q. slice_get (slice_set S.runs i X) m ≡ Some []) S.runs m n s t p (λ J K q. first m n J K q away) });
  issued = λ to. ([], sym (append-nil (outgoing_to S.outgoing to).issued));
  accepted = λ from. le_refl (accepted_from S.accepted from);
}
  where
    at : (n : ℕ) (J : Journal) → n ≡ i → slice_get S.runs n ≡ Some J → Becomes S.last_moment J X
    at n J e there = may J (ap (λ k. slice_get S.runs k) (sym e) ∙ there)

    kept : (n : ℕ) (J K : Journal) → slice_get S.runs n ≡ Some J → FromSet S.runs i X n K → (K ≡ []) ⊎ (beginning K ≡ beginning J)
    kept n J K at_j (z, at_z, inl e) = ⊎_elim (λ x. inl (e.1 ∙ x)) (λ x. inr (ap beginning e.1 ∙ x)) (at n J e.0 at_j).same
    kept n J K at_j (z, at_z, inr e) = inr (ap beginning (e ∙ same-some z J (sym at_z ∙ at_j)))

    earlier : HasOneOpen S → (m n : ℕ) (J K : Journal) → m < n → FromSet S.runs i X m J → FromSet S.runs i X n K → is_there (state_of K) ≡ true → id_of (state_of J) ≡ id_of (state_of K) → is_open (state_of J) ≡ false
    earlier h m n J K less (y, at_y, inl a) (z, at_z, inl b) is_k same = absurd (let p = a.0 in let q = b.0 in omega (arith, less, p, q))
    earlier h m n J K less (y, at_y, inl a) (z, at_z, inr b) is_k same =
        let w = at m y a.0 at_y in
        ap (λ l. is_open (state_of l)) a.1 ∙ ⊎_elim (λ x. none-open X x) (λ x.
        let began : beginning J ≡ beginning y = ap beginning a.1 ∙ x in
        let over : is_open (state_of y) ≡ false = h.earlier m n y z less at_y at_z (ap (λ l. is_there (state_of l)) (sym b) ∙ is_k) (sym (named-alike J y began) ∙ same ∙ ap (λ l. id_of (state_of l)) b) in
        ⊎_elim (λ c. none-open X c) (λ c. ap (λ l. is_open (state_of l)) c ∙ over) (w.closed over)) w.same
    earlier h m n J K less (y, at_y, inr a) (z, at_z, inl b) is_k same =
        let is_x : is_there (state_of X) ≡ true = ap (λ l. is_there (state_of l)) (sym b.1) ∙ is_k in
        let began : beginning K ≡ beginning z = ap beginning b.1 ∙ began-there (at n z b.0 at_z) is_x in
        ap (λ l. is_open (state_of l)) a ∙ h.earlier m n y z less at_y at_z (sym (there-alike K z began) ∙ is_k) (ap (λ l. id_of (state_of l)) (sym a) ∙ same ∙ named-alike K z began)
    earlier h m n J K less (y, at_y, inr a) (z, at_z, inr b) is_k same =
        ap (λ l. is_open (state_of l)) a ∙ h.earlier m n y z less at_y at_z (ap (λ l. is_there (state_of l)) (sym b) ∙ is_k) (ap (λ l. id_of (state_of l)) (sym a) ∙ same ∙ ap (λ l. id_of (state_of l)) b)

    over : AgedBy S.last_moment S.runs → (n : ℕ) (K : Journal) → FromSet S.runs i X n K → is_there (state_of K) ≡ true → is_open (state_of K) ≡ false → HasClosedBy S.last_moment (state_of K)
    over a n K (z, at_z, inr b) is_k closed = by_state (HasClosedBy S.last_moment) K z b (a.over n z at_z (ap (λ l. is_there (state_of l)) (sym b) ∙ is_k) (ap (λ l. is_open (state_of l)) (sym b) ∙ closed))
    over a n K (z, at_z, inl b) is_k closed =
        let is_x : is_there (state_of X) ≡ true = ap (λ l. is_there (state_of l)) (sym b.1) ∙ is_k in
        let over_x : is_open (state_of X) ≡ false = ap (λ l. is_open (state_of l)) (sym b.1) ∙ closed in
        by_state (HasClosedBy S.last_moment) K X b.1 (by_open (at n z b.0 at_z) is_x over_x (is_open (state_of z)) refl)
      where
        by_open : Becomes S.last_moment z X → is_there (state_of X) ≡ true → is_open (state_of X) ≡ false → (o : Bool) → is_open (state_of z) ≡ o → HasClosedBy S.last_moment (state_of X)
        by_open w is_x over_x true e = closed-by (w.closes e is_x over_x)
        by_open w is_x over_x false e = let s = stays-there w is_x e in by_state (HasClosedBy S.last_moment) X z s (a.over n z at_z (ap (λ l. is_there (state_of l)) (sym s) ∙ is_x) e)

    ordered : HasOneOpen S → AgedBy S.last_moment S.runs → (m n : ℕ) (J K : Journal) → m < n → FromSet S.runs i X m J → FromSet S.runs i X n K → is_there (state_of J) ≡ true → is_there (state_of K) ≡ true → id_of (state_of J) ≡ id_of (state_of K) → InOrder (state_of J) (state_of K)
    ordered h a m n J K less (y, at_y, inl b) (z, at_z, inl c) is_j is_k same = absurd (let p = b.0 in let q = c.0 in omega (arith, less, p, q))
    ordered h a m n J K less (y, at_y, inr b) (z, at_z, inr c) is_j is_k same =
        by_state (λ r. InOrder r (state_of K)) J y b (by_state (λ r. InOrder (state_of y) r) K z c (a.in_order m n y z (record {
          older = less;
          at_m = at_y;
          at_n = at_z;
          is_j = ap (λ l. is_there (state_of l)) (sym b) ∙ is_j;
          is_k = ap (λ l. is_there (state_of l)) (sym c) ∙ is_k;
          same = ap (λ l. id_of (state_of l)) (sym b) ∙ same ∙ ap (λ l. id_of (state_of l)) c;
        })))
    ordered h a m n J K less (y, at_y, inl b) (z, at_z, inr c) is_j is_k same =
        let w = at m y b.0 at_y in
        let is_x : is_there (state_of X) ≡ true = ap (λ l. is_there (state_of l)) (sym b.1) ∙ is_j in
        let is_z : is_there (state_of z) ≡ true = ap (λ l. is_there (state_of l)) (sym c) ∙ is_k in
        let began : beginning J ≡ beginning y = ap beginning b.1 ∙ began-there w is_x in
        let named : id_of (state_of y) ≡ id_of (state_of z) = sym (named-alike J y began) ∙ same ∙ ap (λ l. id_of (state_of l)) c in
        let over_y : is_open (state_of y) ≡ false = h.earlier m n y z less at_y at_z is_z named in
        let stays : J ≡ y = b.1 ∙ stays-there w is_x over_y in
        by_state (λ r. InOrder r (state_of K)) J y stays (by_state (λ r. InOrder (state_of y) r) K z c (a.in_order m n y z (record { older = less; at_m = at_y; at_n = at_z; is_j = sym (there-alike J y began) ∙ is_j; is_k = is_z; same = named })))
    ordered h a m n J K less (y, at_y, inr b) (z, at_z, inl c) is_j is_k same =
        let w = at n z c.0 at_z in
        let is_x : is_there (state_of X) ≡ true = ap (λ l. is_there (state_of l)) (sym c.1) ∙ is_k in
        let is_y : is_there (state_of y) ≡ true = ap (λ l. is_there (state_of l)) (sym b) ∙ is_j in
        let began : beginning K ≡ beginning z = ap beginning c.1 ∙ began-there w is_x in
        let is_z : is_there (state_of z) ≡ true = sym (there-alike K z began) ∙ is_k in
        let named : id_of (state_of y) ≡ id_of (state_of z) = ap (λ l. id_of (state_of l)) (sym b) ∙ same ∙ named-alike K z began in
        let over_y : is_open (state_of y) ≡ false = h.earlier m n y z less at_y at_z is_z named in
        let pair : OfOne S.runs m n y z = record { older = less; at_m = at_y; at_n = at_z; is_j = is_y; is_k = is_z; same = named } in
        by_state (λ r. InOrder r (state_of K)) J y b (by_state (λ r. InOrder (state_of y) r) K X c.1 (by_open w is_x pair over_y (is_open (state_of z)) refl))
      where
        by_open : Becomes S.last_moment z X → is_there (state_of X) ≡ true → OfOne S.runs m n y z → is_open (state_of y) ≡ false → (o : Bool) → is_open (state_of z) ≡ o → InOrder (state_of y) (state_of X)
        by_open w is_x pair over_y true e = λ over_x. by-last (a.over m y pair.at_m pair.is_j over_y) (w.closes e is_x over_x)
        by_open w is_x pair over_y false e = by_state (λ r. InOrder (state_of y) r) X z (stays-there w is_x e) (a.in_order m n y z pair)

    aged : HasOneOpen S → AgedBy S.last_moment S.runs → AgedBy S.last_moment (slice_set S.runs i X)
    aged h a = record {
      over = λ n K at_k is_k closed. over a n K (set-from S.runs i X K n at_k) is_k closed;
      in_order = λ m n J K p. ordered h a m n J K p.older (set-from S.runs i X J m p.at_m) (set-from S.runs i X K n p.at_n) p.is_j p.is_k p.same;
    }

    first : (m n : ℕ) (J K : Journal) → OfOne S.runs m n J K → slice_get (slice_set S.runs i X) n ≡ Some [] → slice_get (slice_set S.runs i X) m ≡ Some []
    first m n J K p away = ⊎_elim
        (λ e. let here = ap (λ k. slice_get S.runs k) (sym e.0) ∙ p.at_n in
        let old = oldest K here p.is_k (same-some X [] (sym e.1 ∙ away)) in
        absurd (old.first m (state_of J) (state_of K) (subst (λ k. AreOfOne (map state_of S.runs) m k (state_of J) (state_of K)) e.0 (to-states p))))
        (λ e. absurd (not-away K p.is_k (same-some K [] (sym e ∙ away))))
        (set-on S.runs i X K n p.at_n)

-- all runs of the workflow ID of a journal have closed
pub record IsFree (runs : List Journal) (X : Journal) : Type 0 where
  pub each : (m : ℕ) (J : Journal) → slice_get runs m ≡ Some J → id_of (state_of J) ≡ id_of (state_of X) → is_open (state_of J) ≡ false

keeps-push : (S T : Content) (X : Journal) → KeepsHistories S T → (HasOneOpen S → IsFree T.runs X) → (is_open (state_of X) ≡ false → ClosesAt T.last_moment (state_of X)) → KeepsHistories S (with_runs T (T.runs ++ X ∷ []))
keeps-push S T X k free closes = record {
  runs = λ n J there. let (K, more, found, grown) = k.runs n J there in (K, more, push-on T.runs X K n found, grown);
  closed = λ n J there over. ⊎_elim (λ e. inl (push-on T.runs X [] n e)) (λ e. inr (push-on T.runs X J n e)) (k.closed n J there over);
  gone = λ n there. push-on T.runs X [] n (k.gone n there);
  same = λ n J K at_j at_k. let (L, more, found, grown) = k.runs n J at_j in k.same n J K at_j (found ∙ sym (push-on T.runs X L n found) ∙ at_k);
  one = λ h. record { earlier = λ m n J K less at_m at_n is_k same. earlier (k.one h) (free h) m n J K less (push-from T.runs X J m at_m) (push-from T.runs X K n at_n) is_k same };
  aged = λ h a.
      let (between, before) = k.aged h a in
      (by-journals (aged (free h) (by-states between)), record { gone = λ m n s t p away. of-states (λ r q. slice_get (T.runs ++ X ∷ []) m ≡ Some []) S.runs m n s t p (λ J K q. first before m n J K q away) });
  issued = λ to. k.issued to;
  accepted = λ from. k.accepted from;
}
  where
    earlier : HasOneOpen T → IsFree T.runs X → (m n : ℕ) (J K : Journal) → m < n → FromPush T.runs X m J → FromPush T.runs X n K → is_there (state_of K) ≡ true → id_of (state_of J) ≡ id_of (state_of K) → is_open (state_of J) ≡ false
    earlier h f m n J K less (inl a) (inl b) is_k same = h.earlier m n J K less a b is_k same
    earlier h f m n J K less (inl a) (inr b) is_k same = f.each m J a (same ∙ ap (λ l. id_of (state_of l)) b.1)
    earlier h f m n J K less (inr a) (inl b) is_k same = absurd (let l = below T.runs n K b in let e = a.0 in omega (arith, l, less, e))
    earlier h f m n J K less (inr a) (inr b) is_k same = absurd (let p = a.0 in let q = b.0 in omega (arith, p, q, less))

    over : AgedBy T.last_moment T.runs → (n : ℕ) (K : Journal) → FromPush T.runs X n K → is_there (state_of K) ≡ true → is_open (state_of K) ≡ false → HasClosedBy T.last_moment (state_of K)
    over a n K (inl b) is_k closed = a.over n K b is_k closed
    over a n K (inr b) is_k closed = by_state (HasClosedBy T.last_moment) K X b.1 (closed-by (closes (ap (λ l. is_open (state_of l)) (sym b.1) ∙ closed)))

    ordered : IsFree T.runs X → AgedBy T.last_moment T.runs → (m n : ℕ) (J K : Journal) → OfOne (T.runs ++ X ∷ []) m n J K → FromPush T.runs X m J → FromPush T.runs X n K → InOrder (state_of J) (state_of K)
    ordered f a m n J K p (inl b) (inl c) = a.in_order m n J K (record { older = p.older; at_m = b; at_n = c; is_j = p.is_j; is_k = p.is_k; same = p.same })
    ordered f a m n J K p (inl b) (inr c) =
        let over_j : is_open (state_of J) ≡ false = f.each m J b (p.same ∙ ap (λ l. id_of (state_of l)) c.1) in
        by_state (λ r. InOrder (state_of J) r) K X c.1 (λ over_x. by-last (a.over m J b p.is_j over_j) (closes over_x))
    ordered f a m n J K p (inr b) (inl c) = absurd (let less = p.older in let l = below T.runs n K c in let e = b.0 in omega (arith, l, less, e))
    ordered f a m n J K p (inr b) (inr c) = absurd (let less = p.older in let x = b.0 in let y = c.0 in omega (arith, x, y, less))

    aged : IsFree T.runs X → AgedBy T.last_moment T.runs → AgedBy T.last_moment (T.runs ++ X ∷ [])
    aged f a = record {
      over = λ n K at_k is_k closed. over a n K (push-from T.runs X K n at_k) is_k closed;
      in_order = λ m n J K p. ordered f a m n J K p (push-from T.runs X J m p.at_m) (push-from T.runs X K n p.at_n);
    }

    first : OlderFirst S T → (m n : ℕ) (J K : Journal) → OfOne S.runs m n J K → slice_get (T.runs ++ X ∷ []) n ≡ Some [] → slice_get (T.runs ++ X ∷ []) m ≡ Some []
    first before m n J K p away =
        let (L, more, found, grown) = k.runs n K p.at_n in
        let is : L ≡ [] = same-some L [] (sym (push-on T.runs X L n found) ∙ away) in
        push-on T.runs X [] m (before.gone m n (state_of J) (state_of K) (to-states p) (found ∙ ap (λ l. Some l) is))

-- what may come to a journal at a moment: its run shows more, and began as it did; one that had closed is as it was; and one that closes does so at the moment
pub record MayBecome (moment : ℕ) (J X : Journal) : Type 0 where
  pub shows : (more : List Event) × (shown X ≡ shown J ++ more)
  pub closed : is_open (state_of J) ≡ false → X ≡ J
  pub began : beginning X ≡ beginning J
  pub closes : is_open (state_of J) ≡ true → is_open (state_of X) ≡ false → ClosesAt moment (state_of X)

-- what a step's outcome is to be, for the histories to be kept
abbrev pub MayAdd : Content → ℕ → Option Added → Type 0
MayAdd S m None = Unit {0}
MayAdd S m (Some a) = MayBecome m (journal_at S.runs a.run) (journal_at S.runs a.run ++ entries (S.steps + 1) m 0 a.facts)

abbrev pub MayTake : List Journal → Option ℕ → Type 0
MayTake runs None = Unit {0}
MayTake runs (Some n) = IsOldestRun (map state_of runs) (n - 1)

pub record MayBegin (S : Content) (moment : ℕ) (runs : List Journal) (X : Journal) : Type 0 where
  pub free : HasOneOpen S → IsFree runs X
  pub closes : is_open (state_of X) ≡ false → ClosesAt moment (state_of X)

abbrev pub MayMake : Content → ℕ → List Journal → Option (List Fact) → Type 0
MayMake S m runs None = Unit {0}
MayMake S m runs (Some facts) = MayBegin S m runs (entries (S.steps + 1) m 0 facts)

-- it comes at no earlier moment, adds what may come to a run, takes the oldest run of its workflow ID away, and makes a run beside no open one of its workflow ID
pub record MayStep (S : Content) (m : ℕ) (o : Outcome) : Type 0 where
  pub later : S.last_moment ≤ m
  pub adds : MayAdd S m o.added
  pub takes : MayTake (with_added (S.steps + 1) m o.added S.runs) o.removed
  pub makes : MayMake S m (with_removed o.removed (with_added (S.steps + 1) m o.added S.runs)) o.created

-- only the moment is later
keeps-later : (S : Content) (m : ℕ) → S.last_moment ≤ m → KeepsHistories S (record S { last_moment = m })
keeps-later S m later =
    let k = keeps-same S in
    record {
      runs = λ n J there. k.runs n J there;
      closed = λ n J there over. k.closed n J there over;
      gone = λ n there. k.gone n there;
      same = λ n J K at_j at_k. k.same n J K at_j at_k;
      one = λ h. record { earlier = λ m n J K less at_m at_n is_k same. h.earlier m n J K less at_m at_n is_k same };
      aged = λ h a. (
        record {
          over = λ n s at there over. let c = a.over n s at there over in record { event = c.event; closing = c.closing; no_later = (let l = c.no_later in omega (arith, l, later)) };
          in_order = λ m n s t p. a.in_order m n s t p;
        },
        record { gone = λ m n s t p away. (k.aged h a).1.gone m n s t p away },
      );
      issued = λ to. k.issued to;
      accepted = λ from. k.accepted from;
    }

-- the journal to which a step adds, after it
abbrev with_more : Content → ℕ → Added → Journal
with_more S m a = journal_at S.runs a.run ++ entries (S.steps + 1) m 0 a.facts

-- what a step adds, deletes and makes
keeps-added : (S : Content) (m : ℕ) (a : Option Added) → MayAdd S m a → KeepsHistories (record S { last_moment = m }) (record S { last_moment = m; runs = with_added (S.steps + 1) m a S.runs })
keeps-added S m None h = keeps-same (record S { last_moment = m })
keeps-added S m (Some a) h = keeps-set (record S { last_moment = m }) (a.run - 1) (with_more S m a) becomes never
  where
    may : (J : Journal) → slice_get S.runs (a.run - 1) ≡ Some J → MayBecome m J (with_more S m a)
    may J there = let P : Journal → Type 0 = λ l. MayBecome m l (with_more S m a) in subst P (at-place S.runs (a.run - 1) J [] there) h

    becomes : (J : Journal) → slice_get S.runs (a.run - 1) ≡ Some J → Becomes m J (with_more S m a)
    becomes J there =
        let k = may J there in
        record {
          shows = (k.shows.0, inr k.shows.1);
          closed = λ over. inr (k.closed over);
          gone = λ e. k.closed (none-open J e) ∙ e;
          same = inr k.began;
          closes = λ opened is_x over. k.closes opened over;
        }

    never : (J : Journal) → slice_get S.runs (a.run - 1) ≡ Some J → is_there (state_of J) ≡ true → with_more S m a ≡ [] → IsOldest (record S { last_moment = m }) (a.run - 1)
    never J there is e = absurd (not-away (with_more S m a) (there-alike (with_more S m a) J (may J there).began ∙ is) e)

keeps-taken : (S : Content) (o : Option ℕ) → MayTake S.runs o → KeepsHistories S (with_runs S (with_removed o S.runs))
keeps-taken S None h = keeps-same S
keeps-taken S (Some n) h = keeps-set S (n - 1) [] (λ J there. taken J) (λ J there is e. h)
  where
    taken : (J : Journal) → Becomes S.last_moment J []
    taken J = record {
      shows = ([], inl refl);
      closed = λ over. inl refl;
      gone = λ e. refl;
      same = inl refl;
      closes = λ opened there over. absurd (not-away [] there refl);
    }

keeps-created : (S T : Content) (o : Option (List Fact)) → KeepsHistories S T → MayMake S T.last_moment T.runs o → KeepsHistories S (with_runs T (with_created (S.steps + 1) T.last_moment o T.runs))
keeps-created S T None k h = k
keeps-created S T (Some facts) k h = keeps-push S T (entries (S.steps + 1) T.last_moment 0 facts) k h.free h.closes

-- a content with the same runs at the same moment, to which no less was issued and accepted
same-runs : (S T U : Content) → T.runs ≡ U.runs → T.last_moment ≡ U.last_moment → KeepsHistories S T
    → ((to : ℕ) → (more : List TransferContent) × ((outgoing_to U.outgoing to).issued ≡ (outgoing_to S.outgoing to).issued ++ more))
    → ((from : ℕ) → accepted_from S.accepted from ≤ accepted_from U.accepted from) → KeepsHistories S U
same-runs S T U is at k issued accepted = record {
  runs = λ n J there. let (K, more, found, grown) = k.runs n J there in (K, more, ap (λ l. slice_get l n) (sym is) ∙ found, grown);
  closed = λ n J there over. ⊎_elim (λ e. inl (ap (λ l. slice_get l n) (sym is) ∙ e)) (λ e. inr (ap (λ l. slice_get l n) (sym is) ∙ e)) (k.closed n J there over);
  gone = λ n there. ap (λ l. slice_get l n) (sym is) ∙ k.gone n there;
  same = λ n J K at_j at_k. k.same n J K at_j (ap (λ l. slice_get l n) is ∙ at_k);
  one = λ h. record { earlier = λ m n J K less at_m at_n is_k same. (k.one h).earlier m n J K less (ap (λ l. slice_get l m) is ∙ at_m) (ap (λ l. slice_get l n) is ∙ at_n) is_k same };
  aged = λ h a.
      let (between, before) = k.aged h a in
      let P : ℕ → Type 0 = λ last. AreAged last (map state_of T.runs) in
      let Q : List Journal → Type 0 = λ runs. AreAged U.last_moment (map state_of runs) in
      (subst Q is (subst P at between), record { gone = λ m n s t p away. ap (λ l. slice_get l m) (sym is) ∙ before.gone m n s t p (ap (λ l. slice_get l n) is ∙ away) });
  issued = issued;
  accepted = accepted;
}

counted-runs : (c : Counting) (S : Content) → S.runs ≡ (with_count c S).runs
counted-runs CountsNothing S = refl
counted-runs (AcceptsFrom n) S = refl
counted-runs (AcknowledgesTo n) S = refl
counted-runs CountsDispatch S = refl

counted-moment : (c : Counting) (S : Content) → S.last_moment ≡ (with_count c S).last_moment
counted-moment CountsNothing S = refl
counted-moment (AcceptsFrom n) S = refl
counted-moment (AcknowledgesTo n) S = refl
counted-moment CountsDispatch S = refl

-- the law: what such a step leaves keeps the histories
pub keeps-step : (S : Content) (m : ℕ) (o : Outcome) → MayStep S m o → KeepsHistories S (content_after S m o)
keeps-step S m o may =
    let T = record S { last_moment = m } in
    let A = with_runs T (with_added (S.steps + 1) m o.added S.runs) in
    let B = with_runs A (with_removed o.removed A.runs) in
    let C = with_runs B (with_created (S.steps + 1) m o.created B.runs) in
    let adds : KeepsHistories S A = keeps-on S T A (keeps-later S m may.later) (keeps-added S m o.added may.adds) in
    let takes : KeepsHistories S B = keeps-on S A B adds (keeps-taken A o.removed may.takes) in
    same-runs S C (content_after S m o) (counted-runs o.counting _) (counted-moment o.counting _) (keeps-created S B o.created takes may.makes)
    (λ to. outcome-issued S m o to) (λ from. outcome-accepted S m o from)
