-- members as they were written, of which the last one of a name counts, and the lengths of their names
use Rattle.std.proofs.Common.{◌≡◌, ℕ, List, [], ◌∷◌, ◌++◌, map, Bool, true, false, cond, bytes_eq, None, Some, Bor, Vec, Global, refl, sym, ap, ◌∙◌, rules, true≢false}
use Rattle.std.proofs.lemmas.Slice.Eq.{bytes_eq-Decides}
use Rattle.serde_json.specs.Data.{Data, Members, array, object, put}
use Rattle.serde_json.specs.Find.{get_member}
use Rattle.serde_json.specs.View.{items_of}
use Rattle.serde_json.proofs.Views.{get_member-put, get_member-put_other}
use Rattle.wire_trees.specs.Borrowed.{AllMarked, data_of, is_marked, marked_of, members_of, put_all, put_marked}
use Rattle.wire_trees.specs.declared.borrowed.BorrowedValue.{BorrowedValue, Array, Object, the_lemmas}

abbrev pub Member : Type 0
Member = Bor (List ℕ) × BorrowedValue

pub data-Array : (v : Vec BorrowedValue Global) → data_of (Array v) ≡ array (items_of (map data_of v.items))
data-Array v = search (rules, the_lemmas)

pub data-Object : (lengths : ℕ) (v : Vec Member Global) → data_of (Object lengths v) ≡ object (marked_of lengths v.items)
data-Object lengths v = search (rules, the_lemmas)

put_all-push : (ms : List Member) (m : Member) (found : Members) → put_all (map (λ m. (m.0, data_of m.1)) (ms ++ m ∷ [])) found ≡ put m.0.now (data_of m.1) (put_all (map (λ m. (m.0, data_of m.1)) ms) found)
put_all-push [] m found = refl
put_all-push (x ∷ xs) m found = put_all-push xs m (put x.0.now (data_of x.1) found)

-- a member more at the end
pub members-push : (ms : List Member) (m : Member) → members_of (ms ++ m ∷ []) ≡ put m.0.now (data_of m.1) (members_of ms)
members-push ms m = put_all-push ms m _

-- what is found with one member more at the end
pub found-last : (name : List ℕ) (ms : List Member) (m : Member) (b : Bool) → bytes_eq m.0.now name ≡ b → get_member name (members_of (ms ++ m ∷ [])) ≡ cond b (Some (data_of m.1)) (get_member name (members_of ms))
found-last name ms m true is =
    let same : m.0.now ≡ name = (bytes_eq-Decides m.0.now name).0 is in
    ap (get_member name) (members-push ms m) ∙ ap (λ k. get_member name (put k (data_of m.1) (members_of ms))) same ∙ get_member-put name (data_of m.1) (members_of ms)
found-last name ms m false is =
    let other : name ≡ m.0.now → ⊥ = λ h. absurd (true≢false (sym ((bytes_eq-Decides m.0.now name).1 (sym h)) ∙ is)) in
    ap (get_member name) (members-push ms m) ∙ get_member-put_other name m.0.now (data_of m.1) (members_of ms) other

-- ---- lengths of names

put-all-marked : (lengths : ℕ) (ms : List Member) (found : Members) → AllMarked lengths ms
    → put_marked lengths (map (λ m. (m.0, data_of m.1)) ms) found ≡ put_all (map (λ m. (m.0, data_of m.1)) ms) found
put-all-marked lengths [] found all = refl
put-all-marked lengths (m ∷ ms) found all =
    ap (λ b. put_marked lengths (map (λ m. (m.0, data_of m.1)) ms) (cond b (put m.0.now (data_of m.1) found) found)) all.0
    ∙ put-all-marked lengths ms (put m.0.now (data_of m.1) found) all.1

-- an object all of whose names are marked has all of its members
pub object-marked : (lengths : ℕ) (v : Vec Member Global) → AllMarked lengths v.items → data_of (Object lengths v) ≡ object (members_of v.items)
object-marked lengths v all = data-Object lengths v ∙ ap object (put-all-marked lengths v.items _ all)

-- a name that isn't marked is another one than each that is
apart : (lengths : ℕ) (one other : List ℕ) → is_marked lengths one ≡ true → is_marked lengths other ≡ false → one ≡ other → ⊥
apart lengths one other marks misses same = true≢false (sym marks ∙ ap (is_marked lengths) same ∙ misses)

-- one member is put, if it is marked, and another name is looked for
put-other : (lengths : ℕ) (name : List ℕ) (m : Bor (List ℕ) × Data) (found : Members) (b : Bool) → is_marked lengths name ≡ false → is_marked lengths m.0.now ≡ b
    → get_member name (cond b (put m.0.now m.1 found) found) ≡ get_member name found
put-other lengths name m found true misses is = get_member-put_other name m.0.now m.1 found (λ same. apart lengths m.0.now name is misses (sym same))
put-other lengths name m found false misses is = refl

put-unmarked : (lengths : ℕ) (name : List ℕ) (ms : List (Bor (List ℕ) × Data)) (found : Members) → is_marked lengths name ≡ false
    → get_member name (put_marked lengths ms found) ≡ get_member name found
put-unmarked lengths name [] found misses = refl
put-unmarked lengths name (m ∷ ms) found misses =
    put-unmarked lengths name ms (cond (is_marked lengths m.0.now) (put m.0.now m.1 found) found) misses
    ∙ put-other lengths name m found (is_marked lengths m.0.now) misses refl

-- a name that isn't marked is no member's
pub unmarked : (lengths : ℕ) (name : List ℕ) (ms : List Member) → is_marked lengths name ≡ false → get_member name (marked_of lengths ms) ≡ None
unmarked lengths name ms misses = put-unmarked lengths name (map (λ m. (m.0, data_of m.1)) ms) _ misses

-- the same member is put into two objects in which the same is found
put-both : (name : List ℕ) (m : Bor (List ℕ) × Data) (f g : Members) (b : Bool) → bytes_eq m.0.now name ≡ b → get_member name f ≡ get_member name g
    → get_member name (put m.0.now m.1 f) ≡ get_member name (put m.0.now m.1 g)
put-both name m f g true is e =
    let same : m.0.now ≡ name = (bytes_eq-Decides m.0.now name).0 is in
    ap (λ k. get_member name (put k m.1 f)) same ∙ get_member-put name m.1 f ∙ sym (ap (λ k. get_member name (put k m.1 g)) same ∙ get_member-put name m.1 g)
put-both name m f g false is e =
    let other : name ≡ m.0.now → ⊥ = λ h. absurd (true≢false (sym ((bytes_eq-Decides m.0.now name).1 (sym h)) ∙ is)) in
    get_member-put_other name m.0.now m.1 f other ∙ e ∙ sym (get_member-put_other name m.0.now m.1 g other)

-- one member is put, if it is marked, and put all the same, and a name that is marked is looked for
put-one : (lengths : ℕ) (name : List ℕ) (m : Bor (List ℕ) × Data) (f g : Members) (b : Bool) → is_marked lengths name ≡ true → is_marked lengths m.0.now ≡ b
    → get_member name f ≡ get_member name g → get_member name (cond b (put m.0.now m.1 f) f) ≡ get_member name (put m.0.now m.1 g)
put-one lengths name m f g true marks is e = put-both name m f g (bytes_eq m.0.now name) refl e
put-one lengths name m f g false marks is e = e ∙ sym (get_member-put_other name m.0.now m.1 g (apart lengths name m.0.now marks is))

put-same : (lengths : ℕ) (name : List ℕ) (ms : List (Bor (List ℕ) × Data)) (f g : Members) → is_marked lengths name ≡ true → get_member name f ≡ get_member name g
    → get_member name (put_marked lengths ms f) ≡ get_member name (put_all ms g)
put-same lengths name [] f g marks e = e
put-same lengths name (m ∷ ms) f g marks e =
    put-same lengths name ms (cond (is_marked lengths m.0.now) (put m.0.now m.1 f) f) (put m.0.now m.1 g) marks
    (put-one lengths name m f g (is_marked lengths m.0.now) marks refl e)

-- a name that is marked is found among all members
pub marked : (lengths : ℕ) (name : List ℕ) (ms : List Member) → is_marked lengths name ≡ true → get_member name (marked_of lengths ms) ≡ get_member name (members_of ms)
marked lengths name ms marks = put-same lengths name (map (λ m. (m.0, data_of m.1)) ms) _ _ marks refl

-- a member more, whose name is marked as well
pub marked-push : (old new : ℕ) (ms : List Member) (m : Member) → ((n : List ℕ) → is_marked old n ≡ true → is_marked new n ≡ true)
    → is_marked new m.0.now ≡ true → AllMarked old ms → AllMarked new (ms ++ m ∷ [])
marked-push old new [] m kept here all = (here, tt)
marked-push old new (x ∷ xs) m kept here all = (kept x.0.now all.0, marked-push old new xs m kept here all.1)
