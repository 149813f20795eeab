-- loops over events
use Rattle.std.proofs.Common.{◌≡◌, ℕ, Bool, true, false, cond, ◌||◌, ◌&&◌, ◌==◌, List, [], ◌∷◌, ◌++◌, refl, sym, ap, subst, ◌∙◌, Option, Some, None, append-nil, append_assoc, arith}
use Rattle.std.proofs.lemmas.List.{map-append}
use Rattle.std.proofs.lemmas.Bool.Decides.{nat_tests}
use Rattle.std.specs.Prelude.{filter, filter_map, map}
use Rattle.std.specs.List.{list_any, cons_option}
use Rattle.std.specs.Option.{option_map_or}
use Rattle.indexmap.specs.IndexSet.{insert_key}
use Rattle.wf_event.specs.declared.event.Event.{Event}
use Rattle.wf_event.specs.declared.role.Class.{Class}
use Rattle.wf_event.specs.declared.role.Class.TheVariants.{Activity, Timer, Child, Signal, Cancel}
use Rattle.wf_event.specs.declared.role.Opener.{Opener}
use Rattle.wf_event.specs.Role.{settles, class_number}
use Rattle.wf_event_values.specs.Run.{Run}
use Rattle.service_model_types.specs.declared.content.Setup.{Setup}
use Rattle.service_model.specs.Pending.{is_settling, is_settled}
use Rattle.service_model.specs.Issued.{is_left, close_transfer, closed_transfer}
use Rattle.issuing.specs.Settled.{if_child, settled_child, IsSettledBy, left_transfer}

-- one more of those that a loop looks at: what is found so far, with what will be found in those that are left
pub found-one : {A B : Type 0} (f : A → Option B) (all left more : List A) (found : List B) (x : A) (u : B) → filter_map f all ≡ found ++ filter_map f left → left ≡ x ∷ more → f x ≡ Some u
    → filter_map f all ≡ (found ++ u ∷ []) ++ filter_map f more
found-one f all left more found x u so next is =
    so ∙ ap (λ l. found ++ filter_map f l) next ∙ ap (λ o. found ++ cons_option o (filter_map f more)) is ∙ sym (append_assoc found (u ∷ []) (filter_map f more))

pub found-none : {A B : Type 0} (f : A → Option B) (all left more : List A) (found : List B) (x : A) → filter_map f all ≡ found ++ filter_map f left → left ≡ x ∷ more → f x ≡ None
    → filter_map f all ≡ found ++ filter_map f more
found-none f all left more found x so next is = so ∙ ap (λ l. found ++ filter_map f l) next ∙ ap (λ o. found ++ cons_option o (filter_map f more)) is

-- none is left
pub found-all : {A B : Type 0} (f : A → Option B) (all left : List A) (found : List B) → filter_map f all ≡ found ++ filter_map f left → left ≡ [] → found ≡ filter_map f all
found-all f all left found so none = sym (so ∙ ap (λ l. found ++ filter_map f l) none ∙ append-nil found)

-- one more is after those that were looked at
pub one-behind : {A : Type 0} (all done left more : List A) (x : A) → all ≡ done ++ left → left ≡ x ∷ more → all ≡ (done ++ x ∷ []) ++ more
one-behind all done left more x so next = so ∙ ap (λ l. done ++ l) next ∙ sym (append_assoc done (x ∷ []) more)

-- those that are left, and what is asked of them
pub left-each : (setup : Setup) (run : Run) (events es : List Event) → filter_map (left_transfer setup run events) es ≡ filter_map (close_transfer setup run) (filter (is_left events) es)
left-each setup run events [] = refl
left-each setup run events (e ∷ es) = by_test (is_left events e) (left-each setup run events es)
  where
    by_test : (b : Bool) → filter_map (left_transfer setup run events) es ≡ filter_map (close_transfer setup run) (filter (is_left events) es) →
        cons_option (cond b (close_transfer setup run e) None) (filter_map (left_transfer setup run events) es) ≡ filter_map (close_transfer setup run) (cond b (e ∷ filter (is_left events) es) (filter (is_left events) es))
    by_test true rest = ap (cons_option (close_transfer setup run e)) rest
    by_test false rest = rest

-- the openers that were settled, with one more
or-false : (b : Bool) → (b || false) ≡ b
or-false true = refl
or-false false = refl

or-true : (b : Bool) → (b || true) ≡ true
or-true true = refl
or-true false = refl

or-assoc : (x y z : Bool) → ((x || y) || z) ≡ (x || (y || z))
or-assoc true y z = refl
or-assoc false y z = refl

any-append : {A : Type 0} (p : A → Bool) (xs ys : List A) → list_any p (xs ++ ys) ≡ (list_any p xs || list_any p ys)
any-append p [] ys = refl
any-append p (x ∷ xs) ys = ap (λ b. p x || b) (any-append p xs ys) ∙ sym (or-assoc (p x) (list_any p xs) (list_any p ys))

same-any : (id k : ℕ) (ks : List ℕ) → (id == k) ≡ true → list_any (λ n. id == n) ks ≡ list_any (λ n. k == n) ks
same-any id k ks e = let same : id ≡ k = grind (arith, nat_tests) in ap (λ m. list_any (λ n. m == n) ks) same

inserted-any : (id k : ℕ) (ks : List ℕ) → list_any (λ n. id == n) (insert_key (λ m n. m == n) ks k) ≡ (list_any (λ n. id == n) ks || (id == k))
inserted-any id k ks = by_tests (list_any (λ n. k == n) ks) (id == k) refl refl
  where
    by_tests : (b d : Bool) → list_any (λ n. k == n) ks ≡ b → (id == k) ≡ d → list_any (λ n. id == n) (cond b ks (ks ++ k ∷ [])) ≡ (list_any (λ n. id == n) ks || d)
    by_tests true true there is = same-any id k ks is ∙ there ∙ sym (or-true (list_any (λ n. id == n) ks))
    by_tests true false there is = sym (or-false (list_any (λ n. id == n) ks))
    by_tests false d there is = any-append (λ n. id == n) ks (k ∷ []) ∙ ap (λ b. list_any (λ n. id == n) ks || b) (or-false (id == k) ∙ is)

settling-child : (id : ℕ) (o : Option Opener) → is_settling Child id o ≡ option_map_or (λ n. id == n) (settled_child o) false
settling-child id None = refl
settling-child id (Some s) = by_class s.class
  where
    by_class : (c : Class) → ((class_number Child == class_number c) && (id == s.event)) ≡ option_map_or (λ n. id == n) (if_child c s.event) false
    by_class Child = refl
    by_class Activity = refl
    by_class Timer = refl
    by_class Signal = refl
    by_class Cancel = refl

settled-next : (id : ℕ) (done : List Event) (e : Event) →
    is_settled Child id (map (λ (e : Event). e.attributes) (done ++ e ∷ [])) ≡ (is_settled Child id (map (λ (e : Event). e.attributes) done) || option_map_or (λ n. id == n) (settled_child (settles e.attributes)) false)
settled-next id done e =
    ap (is_settled Child id) (map-append (λ (e : Event). e.attributes) done (e ∷ []))
    ∙ any-append (λ a. is_settling Child id (settles a)) (map (λ (e : Event). e.attributes) done) (e.attributes ∷ [])
    ∙ ap (λ b. is_settled Child id (map (λ (e : Event). e.attributes) done) || b) (or-false (is_settling Child id (settles e.attributes)) ∙ settling-child id (settles e.attributes))

pub settled-one : (n : ℕ) (done : List Event) (e : Event) (ids : List ℕ) → IsSettledBy done ids → settled_child (settles e.attributes) ≡ Some n → IsSettledBy (done ++ e ∷ []) (insert_key (λ m k. m == k) ids n)
settled-one n done e ids h is id =
    inserted-any id n ids
    ∙ ap (λ b. b || (id == n)) (h id)
    ∙ sym (settled-next id done e ∙ ap (λ o. is_settled Child id (map (λ (e : Event). e.attributes) done) || option_map_or (λ m. id == m) o false) is)

pub settled-same : (done : List Event) (e : Event) (ids : List ℕ) → IsSettledBy done ids → settled_child (settles e.attributes) ≡ None → IsSettledBy (done ++ e ∷ []) ids
settled-same done e ids h is id =
    h id
    ∙ sym (settled-next id done e
    ∙ ap (λ o. is_settled Child id (map (λ (e : Event). e.attributes) done) || option_map_or (λ m. id == m) o false) is
    ∙ or-false (is_settled Child id (map (λ (e : Event). e.attributes) done)))

pub settled-all : (all done left : List Event) (ids : List ℕ) → all ≡ done ++ left → left ≡ [] → IsSettledBy done ids → IsSettledBy all ids
settled-all all done left ids so none h = subst (λ es. IsSettledBy es ids) (sym (so ∙ ap (λ l. done ++ l) none ∙ append-nil done)) h

-- a run without a parent tells none
pub none-told : (run : Run) (es : List Event) → filter_map (closed_transfer run None) es ≡ []
none-told run [] = refl
none-told run (e ∷ es) = none-told run es
