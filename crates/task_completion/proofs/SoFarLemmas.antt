-- what is in use and what is buffered after the commands so far, with one more fact
use Rattle.std.proofs.Common.{◌≡◌, ℕ, suc, ◌+◌, ◌≤◌, Bool, true, false, not, cond, ◌&&◌, ◌||◌, ◌==◌, List, [], ◌∷◌, ◌++◌, length, refl, sym, ap, ◌∙◌, subst, arith, Option, Some, None, append_assoc, append-nil}
use Rattle.std.specs.Prelude.{filter, map, find}
use Rattle.std.specs.List.{AllByRecursion, list_any}
use Rattle.std.proofs.lemmas.List.Elements.{filter-append}
use Rattle.wf_event.specs.declared.event.Event.{Event}
use Rattle.wf_event.specs.declared.attributes.Attributes.{Attributes}
use Rattle.wf_event.specs.declared.attributes.Attributes.TheVariants.{TimerCanceled}
use Rattle.wf_event.specs.declared.role.Class.{Class}
use Rattle.wf_event.specs.declared.role.Class.TheVariants.{Timer}
use Rattle.wf_event.specs.declared.role.Opener.{Opener}
use Rattle.wf_event.specs.Role.{Role, TimerFires, role, is_outside_role, opens, settles}
use Rattle.service_model_types.specs.declared.journal.NewEvent.{NewEvent}
use Rattle.service_model.specs.Shown.{is_cancel}
use Rattle.service_model.specs.Pending.{is_opening, is_settling, is_settled}
use Rattle.service_model.specs.RunState.{RunState, used, held_attributes}
use Rattle.service_model.specs.Completion.{is_taken_away, still_held, events_from, command_events, opened_so_far, is_settled_so_far, in_use_so_far}
use Rattle.buffered.specs.Buffers.{is_fire, fires}
use Rattle.buffered.specs.Courses.{cancels_timer}
use Rattle.mutable_state.specs.Formed.{IdsTo, IsFromOutside}
use Rattle.mutable_state.specs.Readers.{IsGrounded}
use Rattle.mutable_state.specs.Steps.{carried, left_by, opened_by, event_id, itself, has_id}
use Rattle.mutable_state.proofs.OpenLemmas.{any-push, filter-twice, filter-map, all-filter, all-weaker, found, or-either, left-is, nat-same, not-found, nat-self, use-push, use-cancel, unheld-settled, same-as}
use Rattle.task_completion.specs.Judging.{IsSoFar}
use Rattle.service_model.proofs.QueueLemmas.{all-both as all-append}
use Rattle.mutable_state.proofs.SoFarLemmas.{still-same, settled-more, in_use_now}

-- one more fact, under the id that its event gets
abbrev pub next_event : RunState → List Attributes → Attributes → Event
next_event s F a = record { id = length s.shown + 2 + length F; at = 0; attributes = a }

events-push : (n : ℕ) (F : List Attributes) (a : Attributes) → events_from n (F ++ a ∷ []) ≡ events_from n F ++ record { id = n + length F; at = 0; attributes = a } ∷ []
events-push n [] a = let e : n ≡ n + 0 = omega arith in ap (λ k. record { id = k; at = 0; attributes = a } ∷ []) e
events-push n (x ∷ F) a =
    let e : (n + 1) + length F ≡ n + suc (length F) = omega arith in
    ap (λ l. record { id = n; at = 0; attributes = x } ∷ l) (events-push (n + 1) F a ∙ ap (λ k. events_from (n + 1) F ++ record { id = k; at = 0; attributes = a } ∷ []) e)

pub opened-push : (c : Class) (s : RunState) (F : List Attributes) (a : Attributes) → opened_so_far c s (F ++ a ∷ []) ≡ opened_so_far c s F ++ opened_by c itself (next_event s F a)
opened-push c s F a =
    let q : Event → Bool = λ e. is_opening c (opens e.attributes) in
    ap (λ l. used c s ++ filter q l) (events-push (length s.shown + 2) F a)
    ∙ ap (λ l. used c s ++ l) (filter-append q (command_events s F) (next_event s F a ∷ []))
    ∙ sym (append_assoc (used c s) (filter q (command_events s F)) (opened_by c itself (next_event s F a)))

-- how one more fact turns what is in use, and that what it settles is there
pub record Comes (s : RunState) (F : List Attributes) (a : Attributes) : Type 0 where
  pub turns : (c : Class) (id : ℕ) → in_use_now c id s (F ++ a ∷ []) ≡ (in_use_now c id s F && not (is_settling c id (settles a)))
  pub aims : (c : Class) (id : ℕ) → is_settling c id (settles a) ≡ true → id ≤ length s.shown + 1 + length F

-- what an event gets as its id is not settled
pub unseen : (c : Class) (id : ℕ) (s : RunState) (F : List Attributes) → IsGrounded s → IsSoFar s F → length s.shown + 2 + length F ≤ id → is_settled_so_far c id s F ≡ false
unseen c id s F g h over = not-found _ (λ k. or-either (is_settled c id (held_attributes s)) (is_settled c id F) ⊥
    (λ x. let low = g.settled c id x in omega (arith, low, over)) (λ x. let low = h.settled c id x in omega (arith, low, over)) k)

not-now : (c : Class) (id : ℕ) (s : RunState) (F : List Attributes) (a : Attributes) → Comes s F a → length s.shown + 2 + length F ≤ id → is_settling c id (settles a) ≡ false
not-now c id s F a comes over = not-found _ (λ k. let low = comes.aims c id k in omega (arith, low, over))

pub uses-more : (c : Class) (s : RunState) (F : List Attributes) (a : Attributes) → IsGrounded s → IsSoFar s F → Comes s F a →
    in_use_so_far c s (F ++ a ∷ []) ≡ left_by c event_id (settles a) (in_use_so_far c s F) ++ opened_by c itself (next_event s F a)
unfolding in_use_so_far
uses-more c s F a g h comes =
    let P : Event → Bool = λ e. in_use_now c e.id s F in
    let Q : Event → Bool = λ e. in_use_now c e.id s (F ++ a ∷ []) in
    let e = next_event s F a in
    let new : in_use_now c e.id s (F ++ a ∷ []) ≡ true =
    comes.turns c e.id ∙ ap (λ t. in_use_now c e.id s F && not t) (not-now c e.id s F a comes (omega arith)) ∙ ap (λ t. (not t || is_settled c e.id (still_held s F)) && true) (unseen c e.id s F g h (omega arith)) in
    ap (filter Q) (opened-push c s F a)
    ∙ filter-append Q (opened_so_far c s F) (opened_by c itself e)
    ∙ ap (λ l. l ++ filter Q (opened_by c itself e)) (same (opened_so_far c s F))
    ∙ ap (λ l. left_by c event_id (settles a) (filter P (opened_so_far c s F)) ++ l) (one Q e (is_opening c (opens a)) new)
  where
    one : (Q : Event → Bool) (e : Event) (b : Bool) → Q e ≡ true → filter Q (cond b (e ∷ []) []) ≡ cond b (e ∷ []) []
    one Q e true is = ap (λ t. cond t (e ∷ []) []) is
    one Q e false is = refl

    agree : (p q : Event → Bool) → ((e : Event) → p e ≡ q e) → (l : List Event) → filter p l ≡ filter q l
    agree p q f [] = refl
    agree p q f (x ∷ l) = ap (λ t. cond t (x ∷ filter p l) (filter p l)) (f x) ∙ ap (λ t. cond (q x) (x ∷ t) t) (agree p q f l)

    same : (l : List Event) → filter (λ e. in_use_now c e.id s (F ++ a ∷ [])) l ≡ left_by c event_id (settles a) (filter (λ e. in_use_now c e.id s F) l)
    same l =
        agree (λ e. in_use_now c e.id s (F ++ a ∷ [])) (λ e. in_use_now c e.id s F && not (is_settling c e.id (settles a))) (λ e. comes.turns c e.id) l
        ∙ sym (filter-twice (λ e. in_use_now c e.id s F) (λ e. not (is_settling c e.id (settles a))) l)
        ∙ sym (left-is c event_id (settles a) (filter (λ e. in_use_now c e.id s F) l))

ids-more : (n m : ℕ) (es : List Event) → n ≤ m → IdsTo n es → IdsTo m es
ids-more n m es le h = all-weaker (λ (x : Event). x.id ≤ n) (λ (x : Event). x.id ≤ m) (λ x k. omega (arith, k, le)) es h

pub length-push : {A : Type 0} (xs : List A) (x : A) → length (xs ++ x ∷ []) ≡ length xs + 1
length-push [] x = refl
length-push (y ∷ xs) x = let again = length-push xs x in omega (arith, again)

pub so-far-more : (s : RunState) (F : List Attributes) (a : Attributes) → IsSoFar s F → Comes s F a → IsSoFar s (F ++ a ∷ [])
so-far-more s F a h comes =
    let len = length-push F a in
    record {
      ids = λ c. subst (IdsTo (length s.shown + 1 + length (F ++ a ∷ []))) (sym (opened-push c s F a))
          (all-append (λ (e : Event). e.id ≤ length s.shown + 1 + length (F ++ a ∷ [])) (opened_so_far c s F) (opened_by c itself (next_event s F a))
          (ids-more (length s.shown + 1 + length F) (length s.shown + 1 + length (F ++ a ∷ [])) (opened_so_far c s F) (omega (arith, len)) (h.ids c))
          (one (is_opening c (opens a)) (omega (arith, len))));
      settled = λ c id k. or-either (is_settled c id F) (is_settling c id (settles a)) (id ≤ length s.shown + 1 + length (F ++ a ∷ []))
          (λ x. let low = h.settled c id x in omega (arith, len, low)) (λ x. let low = comes.aims c id x in omega (arith, len, low))
          (sym (any-push (λ x. is_settling c id (settles x)) F a) ∙ k);
    }
  where
    one : (b : Bool) → length s.shown + 2 + length F ≤ length s.shown + 1 + length (F ++ a ∷ []) → IdsTo (length s.shown + 1 + length (F ++ a ∷ [])) (cond b (next_event s F a ∷ []) [])
    one true le = (le, tt)
    one false le = tt

pub so-far-none : (s : RunState) → IsGrounded s → IsSoFar s []
so-far-none s g = record {
  ids = λ c. all-append (λ (e : Event). e.id ≤ length s.shown + 1 + 0) (used c s) [] (ids-more (length s.shown) (length s.shown + 1 + 0) (used c s) (omega arith) (g.ids c)) tt;
  settled = λ c id k. absurd (cc);
}

-- a fact that settles nothing

none-settling : (c : Class) (id : ℕ) (o : Option Opener) → o ≡ None → is_settling c id o ≡ false
none-settling c id o h = ap (is_settling c id) h

filter-agree : (p q : Attributes → Bool) → ((a : Attributes) → p a ≡ q a) → (l : List Attributes) → filter p l ≡ filter q l
filter-agree p q f [] = refl
filter-agree p q f (x ∷ l) = ap (λ t. cond t (x ∷ filter p l) (filter p l)) (f x) ∙ ap (λ t. cond (q x) (x ∷ t) t) (filter-agree p q f l)

-- what is left of what is buffered settles no more than all of it
pub left-settled : (c : Class) (id : ℕ) (q : Attributes → Bool) (l : List Attributes) → is_settled c id (filter q l) ≡ true → is_settled c id l ≡ true
left-settled c id q [] h = h
left-settled c id q (x ∷ l) h = by_test (q x) (is_settling c id (settles x)) refl h (left-settled c id q l)
  where
    by_test : (b k : Bool) → is_settling c id (settles x) ≡ k → is_settled c id (cond b (x ∷ filter q l) (filter q l)) ≡ true → (is_settled c id (filter q l) ≡ true → is_settled c id l ≡ true) → (k || is_settled c id l) ≡ true
    by_test b true is g again = refl
    by_test true false is g again = again (sym (ap (λ t. t || is_settled c id (filter q l)) is) ∙ g)
    by_test false false is g again = again g

pub still-settled : (c : Class) (id : ℕ) (s : RunState) (F : List Attributes) → is_settled c id (still_held s F) ≡ true → is_settled_so_far c id s F ≡ true
still-settled c id s F h = ap (λ b. b || is_settled c id F) (left-settled c id (λ a. not (is_taken_away F (role a))) (held_attributes s) h)

-- a fact that cancels no timer, and settles only what is pending so far
pub comes-pending : (s : RunState) (F : List Attributes) (a : Attributes) → cancels_timer (role a) ≡ false → ((c : Class) (id : ℕ) → is_settling c id (settles a) ≡ true → (is_settled_so_far c id s F ≡ false) × (id ≤ length s.shown + 1 + length F)) → Comes s F a
comes-pending s F a stays free = record {
  turns = λ c id.
      ap (λ b. not b || is_settled c id (still_held s (F ++ a ∷ []))) (settled-more c id s F a)
      ∙ ap (λ l. not (is_settled_so_far c id s F || is_settling c id (settles a)) || is_settled c id l) (still-same s F a stays)
      ∙ use-push (is_settled_so_far c id s F) (is_settled c id (still_held s F)) (is_settling c id (settles a)) (still-settled c id s F) (λ k. (free c id k).0);
  aims = λ c id k. (free c id k).1;
}

-- a fact that settles nothing
pub comes-quiet : (s : RunState) (F : List Attributes) (a : Attributes) → cancels_timer (role a) ≡ false → settles a ≡ None → Comes s F a
comes-quiet s F a stays none = comes-pending s F a stays (λ c id k. absurd (let e = sym (none-settling c id (settles a) none) ∙ k in cc))

-- a cancel of a timer

IsOutside : Attributes → Type 0
IsOutside a = is_outside_role (role a) ≡ true

unfired-settled : (c : Class) (id started : ℕ) (l : List Attributes) → AllByRecursion IsOutside l →
    is_settled c id (filter (λ a. not (fires started a)) l) ≡ (is_settled c id l && not (is_settling c id (Some (record { class = Timer; event = started }))))
unfolding IsOutside
unfired-settled c id started l h =
    ap (λ x. is_settled c id (filter (λ a. not (fires started a)) x)) (sym (back l))
    ∙ ap (is_settled c id) (filter-map (λ a. not (fires started a)) (λ (e : NewEvent). e.attributes) (as_new l))
    ∙ unheld-settled c id started (as_new l) (outside l h)
    ∙ ap (λ x. is_settled c id x && not (is_settling c id (Some (record { class = Timer; event = started })))) (back l)
  where
    as_new : List Attributes → List NewEvent
    as_new [] = []
    as_new (a ∷ l) = record { at = 0; attributes = a } ∷ as_new l

    back : (l : List Attributes) → carried (as_new l) ≡ l
    back [] = refl
    back (a ∷ l) = ap (λ t. a ∷ t) (back l)

    outside : (l : List Attributes) → AllByRecursion IsOutside l → AllByRecursion IsFromOutside (as_new l)
    outside [] h = tt
    outside (a ∷ l) h = (h.0, outside l h.1)

still-outside : (s : RunState) (F : List Attributes) → AllByRecursion IsFromOutside s.held → AllByRecursion IsOutside (still_held s F)
unfolding IsOutside
still-outside s F h =
    all-weaker (λ a. IsOutside a × (not (is_taken_away F (role a)) ≡ true)) IsOutside (λ a k. k.0) (still_held s F) (all-filter IsOutside (λ a. not (is_taken_away F (role a))) (held_attributes s) (carry s.held h))
  where
    carry : (l : List NewEvent) → AllByRecursion IsFromOutside l → AllByRecursion IsOutside (map (λ (e : NewEvent). e.attributes) l)
    carry [] k = tt
    carry (e ∷ l) k = (k.0, carry l k.1)

-- its firings are buffered no more
pub still-cancel : (s : RunState) (F : List Attributes) (name : List ℕ) (started : ℕ) → still_held s (F ++ TimerCanceled (record { timer_id = name; started = started }) ∷ []) ≡ filter (λ a. not (fires started a)) (still_held s F)
unfolding fires role
still-cancel s F name started =
    let cancel = TimerCanceled (record { timer_id = name; started = started }) in
    filter-agree (λ x. not (is_taken_away (F ++ cancel ∷ []) (role x))) (λ x. not (is_taken_away F (role x)) && not (is_fire started (role x))) (λ x. taken (role x)) (held_attributes s)
    ∙ sym (filter-twice (λ x. not (is_taken_away F (role x))) (λ x. not (is_fire started (role x))) (held_attributes s))
  where
    not-or : (x y : Bool) → not (x || y) ≡ (not x && not y)
    not-or true y = refl
    not-or false y = refl

    and-true : (x : Bool) → x ≡ (x && true)
    and-true true = refl
    and-true false = refl

    taken : (r : Role) → not (is_taken_away (F ++ TimerCanceled (record { timer_id = name; started = started }) ∷ []) r) ≡ (not (is_taken_away F r) && not (is_fire started r))
    taken (TimerFires n) = ap not (any-push (λ x. is_cancel n (role x)) F (TimerCanceled (record { timer_id = name; started = started }))) ∙ not-or (list_any (λ x. is_cancel n (role x)) F) (started == n)
    taken _ = refl

-- a cancel of a timer that is in use so far
pub comes-cancel : (s : RunState) (F : List Attributes) (name : List ℕ) (started : ℕ) → IsGrounded s → started ≤ length s.shown + 1 + length F → Comes s F (TimerCanceled (record { timer_id = name; started = started }))
unfolding settles
comes-cancel s F name started g low =
    let cancel = TimerCanceled (record { timer_id = name; started = started }) in
    record {
      turns = λ c id.
          ap (λ b. not b || is_settled c id (still_held s (F ++ cancel ∷ []))) (settled-more c id s F cancel)
          ∙ ap (λ l. not (is_settled_so_far c id s F || is_settling c id (settles cancel)) || is_settled c id l) (still-cancel s F name started)
          ∙ ap (λ b. not (is_settled_so_far c id s F || is_settling c id (settles cancel)) || b) (unfired-settled c id started (still_held s F) (still-outside s F g.outside))
          ∙ use-cancel (is_settled_so_far c id s F) (is_settled c id (still_held s F)) (is_settling c id (settles cancel));
      aims = λ c id k. subst (λ n. n ≤ length s.shown + 1 + length F) (sym (same c id k)) low;
    }
  where
    same : (c : Class) (id : ℕ) → is_settling c id (Some (record { class = Timer; event = started })) ≡ true → id ≡ started
    same c id k = (same-as c id (record { class = Timer; event = started }) k).id_is

-- what is found in use is one that was opened

pub found-in : (n : ℕ) (p : Event → Bool) (xs : List Event) (e : Event) → IdsTo n xs → find p xs ≡ Some e → (e.id ≤ n) × (has_id e.id xs ≡ true)
found-in n p [] e ids h = absurd (cc)
found-in n p (x ∷ xs) e ids h = by_test (p x) h (found-in n p xs e ids.1)
  where
    or-true : (b : Bool) → (b || true) ≡ true
    or-true true = refl
    or-true false = refl

    by_test : (b : Bool) → cond b (Some x) (find p xs) ≡ Some e → (find p xs ≡ Some e → (e.id ≤ n) × (has_id e.id xs ≡ true)) → (e.id ≤ n) × (has_id e.id (x ∷ xs) ≡ true)
    by_test true g again = let is : x ≡ e = cc in subst (λ y. (y.id ≤ n) × (has_id y.id (x ∷ xs) ≡ true)) is (ids.0, ap (λ b. b || has_id x.id xs) (nat-self x.id))
    by_test false g again = let here = again g in (here.0, ap (λ b. (x.id == e.id) || b) here.1 ∙ or-true (x.id == e.id))

pub used-ids : (c : Class) (s : RunState) (F : List Attributes) → IsSoFar s F → IdsTo (length s.shown + 1 + length F) (in_use_so_far c s F)
unfolding in_use_so_far
used-ids c s F h =
    let n : ℕ = length s.shown + 1 + length F in
    let q : Event → Bool = λ e. in_use_now c e.id s F in
    all-weaker (λ (e : Event). (e.id ≤ n) × (q e ≡ true)) (λ (e : Event). e.id ≤ n) (λ e k. k.0) (filter q (opened_so_far c s F)) (all-filter (λ (e : Event). e.id ≤ n) q (opened_so_far c s F) (h.ids c))

pub id-low : (c : Class) (id : ℕ) (s : RunState) (F : List Attributes) → IsSoFar s F → list_any (λ e. e.id == id) (in_use_so_far c s F) ≡ true → id ≤ length s.shown + 1 + length F
id-low c id s F h there =
    let f = found (λ (e : Event). e.id ≤ length s.shown + 1 + length F) (λ (e : Event). e.id == id) (in_use_so_far c s F) (used-ids c s F h) there in
    subst (λ n. n ≤ length s.shown + 1 + length F) (nat-same f.at.id id f.passes) f.holds

nothing-taken : (l : List Attributes) → filter (λ a. not (is_taken_away [] (role a))) l ≡ l
nothing-taken [] = refl
nothing-taken (a ∷ l) = ap (λ b. cond (not b) (a ∷ filter (λ x. not (is_taken_away [] (role x))) l) (filter (λ x. not (is_taken_away [] (role x))) l)) (none (role a)) ∙ ap (λ t. a ∷ t) (nothing-taken l)
  where
    none : (r : Role) → is_taken_away [] r ≡ false
    none (TimerFires n) = refl
    none _ = refl

-- before any command all that is buffered still is, and all that is used is in use so far
pub all-held : (s : RunState) → still_held s [] ≡ held_attributes s
all-held s = nothing-taken (held_attributes s)

pub all-in-use : (c : Class) (s : RunState) → in_use_so_far c s [] ≡ used c s
unfolding in_use_so_far
all-in-use c s =
    ap (filter (λ e. in_use_now c e.id s [])) (append-nil (used c s)) ∙ all (used c s)
  where
    either : (b : Bool) → (not (b || false) || b) ≡ true
    either true = refl
    either false = refl

    all : (l : List Event) → filter (λ e. in_use_now c e.id s []) l ≡ l
    all [] = refl
    all (e ∷ l) =
        ap (λ b. cond b (e ∷ filter (λ x. in_use_now c x.id s []) l) (filter (λ x. in_use_now c x.id s []) l)) (ap (λ k. not (is_settled_so_far c e.id s []) || is_settled c e.id k) (all-held s) ∙ either (is_settled c e.id (held_attributes s)))
        ∙ ap (λ t. e ∷ t) (all l)
