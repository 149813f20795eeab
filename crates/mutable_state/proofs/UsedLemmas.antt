-- what is in use with one more event, wherever it belongs
use Rattle.std.proofs.Common.{◌≡◌, ℕ, ◌+◌, ◌≤◌, Bool, true, false, not, cond, ◌&&◌, ◌||◌, ◌==◌, List, [], ◌∷◌, ◌++◌, length, refl, sym, ap, ◌∙◌, subst, arith, Option, Some, None, length-append}
use Rattle.std.specs.Prelude.{filter, map}
use Rattle.std.proofs.lemmas.Bool.Decides.{nat_tests}
use Rattle.std.proofs.lemmas.List.{map-append}
use Rattle.wf_event.specs.declared.event.Event.{Event}
use Rattle.wf_event.specs.declared.attributes.Attributes.{Attributes}
use Rattle.wf_event.specs.declared.role.Class.{Class}
use Rattle.wf_event.specs.declared.role.Opener.{Opener}
use Rattle.wf_event.specs.Role.{Role, Closes, TimerCancels, role, is_outside_role, is_closing_role, opens, settles, schedules_task}
use Rattle.service_model_types.specs.declared.journal.NewEvent.{NewEvent}
use Rattle.service_model.specs.Journal.{Made}
use Rattle.service_model.specs.Shown.{new_event}
use Rattle.service_model.specs.Pending.{Task, is_opening, is_settling, is_settled, attributes_of}
use Rattle.service_model.specs.RunState.{RunState, used, pending}
use Rattle.service_model.specs.Tasks.{is_started_task}
use Rattle.buffered.specs.Buffers.{Buffer, with_id, with_ids, pushed, held_back, flushed, unheld}
use Rattle.buffered.specs.Courses.{cancels_timer}
use Rattle.mutable_state.specs.Formed.{is_kept_beside, Settles}
use Rattle.mutable_state.specs.Steps.{buffer_of, carried, is_held_back, comes_last, unheld_by, with_new, unsettled, left_by, opened_by, used_with, event_id, itself, has_id, may_settle, MaySettle}
use Rattle.mutable_state.proofs.OpenLemmas.{filter-map, all-filter, found, in_use_by, Same, same-as, Aims, Keeps, keeps-hold, keeps-flush, keeps-push, keeps-cancel}
use Rattle.buffered.proofs.CourseLemmas.{outside-cancels as outside-stays}

-- lists that f maps to one another stay so
pub used-map : {X Y : Type 0} (f : X → Y) (c : Class) (id : Y → ℕ) (make : Event → X) (t : Task) (held : List NewEvent) (e : Event) (xs : List X) →
    map f (used_with c (λ x. id (f x)) make t held e xs) ≡ used_with c id (λ d. f (make d)) t held e (map f xs)
used-map {X = X} {Y = Y} f c id make t held e xs = by_place (is_held_back t e.attributes) (is_closing_role (role e.attributes)) (comes_last t e.attributes) (settles e.attributes) (is_opening c (opens e.attributes))
  where
    left-map : (o : Option Opener) (l : List X) → map f (left_by c (λ x. id (f x)) o l) ≡ left_by c id o (map f l)
    left-map None l = refl
    left-map (Some k) l = sym (filter-map (λ y. not (is_settling c (id y) (Some k))) f l)

    either : (last : Bool) → map f (cond last (unsettled c (λ x. id (f x)) held xs) xs) ≡ cond last (unsettled c id held (map f xs)) (map f xs)
    either true = sym (filter-map (λ y. not (is_settled c (id y) (carried held))) f xs)
    either false = refl

    one : (op : Bool) → map f (cond op (make e ∷ []) []) ≡ cond op (f (make e) ∷ []) []
    one true = refl
    one false = refl

    by_place : (held_so closes last : Bool) (o : Option Opener) (op : Bool) →
        map f (cond held_so xs (cond closes [] (left_by c (λ x. id (f x)) o (cond last (unsettled c (λ x. id (f x)) held xs) xs) ++ cond op (make e ∷ []) [])))
        ≡ cond held_so (map f xs) (cond closes [] (left_by c id o (cond last (unsettled c id held (map f xs)) (map f xs)) ++ cond op (f (make e) ∷ []) []))
    by_place true closes last o op = refl
    by_place false true last o op = refl
    by_place false false last o op =
        map-append f (left_by c (λ x. id (f x)) o (cond last (unsettled c (λ x. id (f x)) held xs) xs)) (cond op (make e ∷ []) [])
        ∙ ap (λ l. l ++ map f (cond op (make e ∷ []) [])) (left-map o (cond last (unsettled c (λ x. id (f x)) held xs) xs) ∙ ap (left_by c id o) (either last))
        ∙ ap (λ l. left_by c id o (cond last (unsettled c id held (map f xs)) (map f xs)) ++ l) (one op)

-- what an event opens may be made in another way that gives the same, where it is written
pub used-make : {X : Type 0} (c : Class) (id : X → ℕ) (make other : Event → X) (t : Task) (held : List NewEvent) (e : Event) (xs : List X) →
    (is_held_back t e.attributes ≡ false → make e ≡ other e) → used_with c id make t held e xs ≡ used_with c id other t held e xs
used-make {X = X} c id make other t held e xs same = by_place (is_held_back t e.attributes) same
  where
    rest : X → List X
    rest x = cond (is_closing_role (role e.attributes)) [] (left_by c id (settles e.attributes) (cond (comes_last t e.attributes) (unsettled c id held xs) xs) ++ cond (is_opening c (opens e.attributes)) (x ∷ []) [])

    by_place : (b : Bool) → (b ≡ false → make e ≡ other e) → cond b xs (rest (make e)) ≡ cond b xs (rest (other e))
    by_place true h = refl
    by_place false h = ap rest (h refl)

-- a history with one more event is longer, where the event is written
new-longer : (held_so last : Bool) (r : Role) (e : NewEvent) (b : Buffer) →
    length b.events + cond held_so 0 1 ≤ length (cond held_so (held_back b e) (cond last (pushed (flushed b) e) (pushed (unheld_by r b) e))).events
new-longer true last r e b = omega arith
new-longer false true r e b = let f = length-append b.events (with_ids (length b.events + 1) b.held) in let p = length-append (flushed b).events (with_id (length (flushed b).events + 1) e ∷ []) in omega (arith, f, p)
new-longer false false (TimerCancels s) e b = let p = length-append b.events (with_id (length b.events + 1) e ∷ []) in omega (arith, p)
new-longer false false r e b = let p = length-append b.events (with_id (length b.events + 1) e ∷ []) in omega (arith, p)

pub grows-new : (t : Task) (e : NewEvent) (b : Buffer) → length b.events + cond (is_held_back t e.attributes) 0 1 ≤ length (with_new t e b).events
grows-new t e b = new-longer (is_held_back t e.attributes) (comes_last t e.attributes) (role e.attributes) e b

-- what an event settles, where it may
record Target (es : List Made) (b : Buffer) (r : Role) (k : Opener) : Type 0 where
  bound : k.event ≤ length b.events
  kept : in_use_by k.class es b.held k.event ≡ true
  free : cancels_timer r ≡ false → is_settled k.class k.event (attributes_of es) ≡ false

and-right : (a b : Bool) → (a && b) ≡ true → b ≡ true
and-right true b h = h
and-right false b h = absurd (cc)

nat-same : (m n : ℕ) → (m == n) ≡ true → m ≡ n
nat-same m n h = grind (arith, nat_tests)

not-settled : (s h : Bool) → (not s || h) ≡ true → not h ≡ true → s ≡ false
not-settled true true i j = absurd (cc)
not-settled true false i j = absurd (cc)
not-settled false h i j = refl

target-used : (es : List Made) (s : RunState) (r : Role) (k : Opener) → Keeps es (buffer_of s) (λ c. used c s) → cancels_timer r ≡ true → has_id k.event (used k.class s) ≡ true → Target es (buffer_of s) r k
target-used es s r k keeps cancel h =
    let P : Event → Type 0 = λ x. (x.id ≤ length s.shown) × (is_kept_beside k.class es s.held x ≡ true) in
    let f = found P (λ (e : Event). e.id == k.event) (filter (is_kept_beside k.class es s.held) s.shown) (all-filter (λ (x : Event). x.id ≤ length s.shown) (is_kept_beside k.class es s.held) s.shown keeps.settles_so.ids) (ap (has_id k.event) (sym (keeps.uses k.class)) ∙ h) in
    let is = nat-same f.at.id k.event f.passes in
    record {
      bound = subst (λ n. n ≤ length s.shown) is f.holds.0;
      kept = subst (λ n. in_use_by k.class es s.held n ≡ true) is (and-right (is_opening k.class (opens f.at.attributes)) _ f.holds.1);
      free = λ g. absurd (cc);
    }

target-pending : (es : List Made) (s : RunState) (r : Role) (k : Opener) → Keeps es (buffer_of s) (λ c. used c s) → has_id k.event (pending k.class s) ≡ true → Target es (buffer_of s) r k
target-pending es s r k keeps h =
    let q : Event → Bool = λ e. not (is_settled k.class e.id (carried s.held)) in
    let P : Event → Type 0 = λ x. ((x.id ≤ length s.shown) × (is_kept_beside k.class es s.held x ≡ true)) in
    let Q : Event → Type 0 = λ x. P x × (q x ≡ true) in
    let f = found Q (λ (e : Event). e.id == k.event) (filter q (filter (is_kept_beside k.class es s.held) s.shown)) (all-filter P q (filter (is_kept_beside k.class es s.held) s.shown) (all-filter (λ (x : Event). x.id ≤ length s.shown) (is_kept_beside k.class es s.held) s.shown keeps.settles_so.ids))
    (ap (λ l. has_id k.event (filter q l)) (sym (keeps.uses k.class)) ∙ h) in
    let is = nat-same f.at.id k.event f.passes in
    let in_use = subst (λ n. in_use_by k.class es s.held n ≡ true) is (and-right (is_opening k.class (opens f.at.attributes)) _ f.holds.0.1) in
    record {
      bound = subst (λ n. n ≤ length s.shown) is f.holds.0.0;
      kept = in_use;
      free = λ g. not-settled (is_settled k.class k.event (attributes_of es)) (is_settled k.class k.event (carried s.held)) in_use (subst (λ n. not (is_settled k.class n (carried s.held)) ≡ true) is f.holds.1);
    }

target : (es : List Made) (s : RunState) (r : Role) (k : Opener) → Keeps es (buffer_of s) (λ c. used c s) → may_settle r k s ≡ true → Target es (buffer_of s) r k
target es s (TimerCancels x) k keeps h = target-used es s (TimerCancels x) k keeps refl h
target es s r k keeps h = target-pending es s r k keeps h

aims-target : (es : List Made) (b : Buffer) (a : Attributes) (o : Option Opener) → settles a ≡ o → ((k : Opener) → o ≡ Some k → Target es b (role a) k) → Aims es b a
aims-target es b a None is h = record {
  bound = λ c id g. absurd (let e = ap (is_settling c id) (sym is) ∙ g in cc);
  kept = λ c id g. absurd (let e = ap (is_settling c id) (sym is) ∙ g in cc);
  free = λ n c id g. absurd (let e = ap (is_settling c id) (sym is) ∙ g in cc);
}
aims-target es b a (Some k) is h =
    let t = h k refl in
    let at : (c : Class) (id : ℕ) → is_settling c id (settles a) ≡ true → Same c id k = λ c id g. same-as c id k (ap (is_settling c id) (sym is) ∙ g) in
    record {
      bound = λ c id g. subst (λ n. n ≤ length b.events) (sym (at c id g).id_is) t.bound;
      kept = λ c id g. ap (λ n. in_use_by c es b.held n) (at c id g).id_is ∙ ap (λ d. in_use_by d es b.held k.event) (at c id g).class_is ∙ t.kept;
      free = λ n c id g. ap (λ i. is_settled c i (attributes_of es)) (at c id g).id_is ∙ ap (λ d. is_settled d k.event (attributes_of es)) (at c id g).class_is ∙ t.free n;
    }

pub aims-of : (es : List Made) (s : RunState) (r : Role) (a : Attributes) → Keeps es (buffer_of s) (λ c. used c s) → MaySettle (role a) (settles a) s → Aims es (buffer_of s) a
aims-of es s r a keeps h = aims-target es (buffer_of s) a (settles a) refl (by_option (settles a) h)
  where
    by_option : (o : Option Opener) → MaySettle (role a) o s → (k : Opener) → o ≡ Some k → Target es (buffer_of s) (role a) k
    by_option None g k e = absurd (cc)
    by_option (Some j) g k e = let is : j ≡ k = cc in subst (λ x. Target es (buffer_of s) (role a) x) is (target es s (role a) j keeps g)

-- what an event settles is still there when all that was buffered is written
aims-flushed : (es : List Made) (b : Buffer) (a : Attributes) → cancels_timer (role a) ≡ false → Aims es b a → Aims es (flushed b) a
aims-flushed es b a stays aims = record {
  bound = λ c id g. let h = aims.bound c id g in let l = length-append b.events (with_ids (length b.events + 1) b.held) in omega (arith, h, l);
  kept = λ c id g. ap (λ t. not t || false) (aims.free stays c id g);
  free = aims.free;
}

-- what stands with one more event
pub record More (es : List Made) (b : Buffer) (closes : Bool) (kept : Class → List Event) : Type 0 where
  pub settles_so : Settles es b
  pub uses : (c : Class) → kept c ≡ cond closes [] (filter (is_kept_beside c es b.held) b.events)

outside-open : (r : Role) → is_outside_role r ≡ true → is_closing_role r ≡ false
outside-open r h = by_role r h
  where
    by_role : (r : Role) → is_outside_role r ≡ true → is_closing_role r ≡ false
    by_role Closes h = absurd (cc)
    by_role _ h = refl

last-stays : (t : Task) (r : Role) → (schedules_task r || (is_started_task t && is_closing_role r)) ≡ true → cancels_timer r ≡ false
last-stays t (TimerCancels s) h = absurd (no (is_started_task t) h)
  where
    no : (b : Bool) → (b && false) ≡ true → ⊥
    no true h = absurd (cc)
    no false h = absurd (cc)
last-stays t _ h = refl

and-part : (a b : Bool) → (a && b) ≡ true → b ≡ true
and-part true b h = h
and-part false b h = absurd (cc)

pub keeps-more : (es : List Made) (b : Buffer) (kept : Class → List Event) (t : Task) (m : Made) → Keeps es b kept → Aims es b m.attributes →
    More (es ++ m ∷ []) (with_new t (new_event m) b) (is_closing_role (role m.attributes)) (λ c. used_with c event_id itself t b.held (record { id = length (with_new t (new_event m) b).events; at = m.at; attributes = m.attributes }) (kept c))
keeps-more es b kept t m keeps aims =
    by_place (is_held_back t m.attributes) (comes_last t m.attributes)
    (λ h. and-part (is_started_task t) (is_outside_role (role m.attributes)) h) (last-stays t (role m.attributes))
  where
    closes : Bool
    closes = is_closing_role (role m.attributes)

    event : ℕ → Event
    event n = record { id = n; at = m.at; attributes = m.attributes }

    Goal : (held_so last : Bool) → Buffer → Type 0
    Goal held_so last new = More (es ++ m ∷ []) new closes (λ c. cond held_so (kept c) (cond closes [] (left_by c event_id (settles m.attributes) (cond last (unsettled c event_id b.held (kept c)) (kept c)) ++ opened_by c itself (event (length new.events)))))

    pushed-length : (x : Buffer) → length (pushed x (new_event m)).events ≡ length x.events + 1
    pushed-length x = length-append x.events _

    plain : (r : Role) → role m.attributes ≡ r → Goal false false (pushed (unheld_by r b) (new_event m))
    plain (TimerCancels s) h =
        let k = keeps-cancel s es b kept m h aims keeps in record {
          settles_so = k.settles_so;
          uses = λ c. ap (cond closes []) (ap (λ n. left_by c event_id (settles m.attributes) (kept c) ++ opened_by c itself (event n)) (pushed-length (unheld s b)) ∙ k.uses c);
        }
    plain r h =
        let k = keeps-push es b kept m (ap cancels_timer h) aims keeps in record {
          settles_so = k.settles_so;
          uses = λ c. ap (cond closes []) (ap (λ n. left_by c event_id (settles m.attributes) (kept c) ++ opened_by c itself (event n)) (pushed-length b) ∙ k.uses c);
        }

    by_place : (held_so last : Bool) → (held_so ≡ true → is_outside_role (role m.attributes) ≡ true) → (last ≡ true → cancels_timer (role m.attributes) ≡ false) →
        Goal held_so last (cond held_so (held_back b (new_event m)) (cond last (pushed (flushed b) (new_event m)) (pushed (unheld_by (role m.attributes) b) (new_event m))))
    by_place true last out stays =
        let k = keeps-hold es b kept m (out refl) (outside-stays (role m.attributes) (out refl)) aims keeps in record {
          settles_so = k.settles_so;
          uses = λ c. k.uses c ∙ ap (λ t. cond t [] (filter (is_kept_beside c (es ++ m ∷ []) (b.held ++ new_event m ∷ [])) b.events)) (sym (outside-open (role m.attributes) (out refl)));
        }
    by_place false true out stays =
        let k = keeps-push es (flushed b) (λ c. unsettled c event_id b.held (kept c)) m (stays refl) (aims-flushed es b m.attributes (stays refl) aims) (keeps-flush es b kept keeps) in record {
          settles_so = k.settles_so;
          uses = λ c. ap (cond closes []) (ap (λ n. left_by c event_id (settles m.attributes) (unsettled c event_id b.held (kept c)) ++ opened_by c itself (event n)) (pushed-length (flushed b)) ∙ k.uses c);
        }
    by_place false false out stays = plain (role m.attributes) refl
