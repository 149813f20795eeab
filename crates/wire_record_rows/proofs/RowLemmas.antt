-- rows as members: what is found under a key, that they are plain, and what they add to a sheet
use Rattle.std.proofs.Common.{◌≡◌, ℕ, suc, List, [], ◌∷◌, Bool, true, false, cond, ◌&&◌, Option, Some, None, refl, sym, ap, ◌∙◌, bytes_eq, true≢false, Ordering, Less, Equal, Greater}
use Rattle.std.specs.Prelude.{⊤}
use Rattle.std.proofs.lemmas.Map.Text.{is_eq-slice_cmp}
use Rattle.std.specs.Cmp.Lexicographic.{slice_cmp}
use Rattle.std.specs.Ordering.{nat_cmp, is_lt, is_eq, match_ordering}
use Rattle.serde_json.specs.Data.{Data, object, Members, no_members, member}
use Rattle.serde_json.specs.Find.{get, get_member}
use Rattle.wire_pages.specs.Pages.{Sheet, add_member, add_members}
use Rattle.wire_record_rows.specs.Rows.{Row, with_row, members_of, object_of, add_row, add_rows, lookup, below, rise}
use Rattle.wire_record_rows.specs.Plain.{IsBelow, IsPlain, AreMembers, IfPlain, RowsPlain}
use Rattle.std.proofs.lemmas.Slice.Eq.{bytes_eq-Decides}

and_left : (a b : Bool) → (a && b) ≡ true → a ≡ true
and_left true b e = refl
and_left false b e = e

and_right : (a b : Bool) → (a && b) ≡ true → b ≡ true
and_right true b e = e
and_right false b e = absurd (true≢false (sym e))

less : (o : Ordering) → is_lt o ≡ true → o ≡ Less
less Less e = refl
less Equal e = absurd (true≢false (sym e))
less Greater e = absurd (true≢false (sym e))

-- ---- what is found

apart : (k l : List ℕ) → slice_cmp nat_cmp k l ≡ Less → bytes_eq k l ≡ false
apart k l e = sym (is_eq-slice_cmp k l) ∙ ap is_eq e

absent : (key : List ℕ) (rows : List Row) → below key rows ≡ true → lookup key rows ≡ None
absent key [] h = refl
absent key (row ∷ rows) h =
    let lt = less (slice_cmp nat_cmp key row.0) (and_left (is_lt (slice_cmp nat_cmp key row.0)) (below key rows) h) in
    rw (apart key row.0 lt) (absent key rows (and_right (is_lt (slice_cmp nat_cmp key row.0)) (below key rows) h))

here : (o : Ordering) (b : Bool) (v : Option Data) (found rest : Option Data) → is_eq o ≡ b → found ≡ rest → match_ordering o found v found ≡ cond b v rest
here Less b v found rest e f = rw (← e) f
here Equal b v found rest e f = rw (← e) refl
here Greater b v found rest e f = rw (← e) f

nothing_here : (b : Bool) (found rest : Option Data) → (b ≡ true → rest ≡ None) → found ≡ rest → found ≡ cond b None rest
nothing_here true found rest h f = f ∙ h refl
nothing_here false found rest h f = f

same_key : (key l : List ℕ) (rows : List Row) → bytes_eq key l ≡ true → below l rows ≡ true → lookup key rows ≡ None
same_key key l rows e h = let same : key ≡ l = (bytes_eq-Decides key l).0 e in rw same (absent l rows h)

found_in : (key l : List ℕ) (o : Option Data) (rows : List Row) (ms : Members) → below l rows ≡ true → get_member key ms ≡ lookup key rows
    → get_member key (with_row l o ms) ≡ cond (bytes_eq key l) o (lookup key rows)
found_in key l None rows ms h f = nothing_here (bytes_eq key l) _ _ (λ e. same_key key l rows e h) f
found_in key l (Some d) rows ms h f = here (slice_cmp nat_cmp key l) (bytes_eq key l) (Some d) _ _ (is_eq-slice_cmp key l) f

pub found : (key : List ℕ) (rows : List Row) → rise rows ≡ true → get_member key (members_of rows) ≡ lookup key rows
unfolding members_of
found key [] h = refl
found key (row ∷ rows) h =
    let l = and_left (below row.0 rows) (rise rows) h in
    found_in key row.0 row.1 rows (members_of rows) l (found key rows (and_right (below row.0 rows) (rise rows) h))

-- ---- that they are plain

below_row : (key l : List ℕ) (o : Option Data) (ms : Members) → slice_cmp nat_cmp key l ≡ Less → IsBelow key ms → IsBelow key (with_row l o ms)
below_row key l None ms e h = h
below_row key l (Some d) ms e h = (e, h)

below_members : (key : List ℕ) (rows : List Row) → below key rows ≡ true → IsBelow key (members_of rows)
unfolding members_of
below_members key [] h = tt
below_members key (row ∷ rows) h =
    let first = is_lt (slice_cmp nat_cmp key row.0) in
    below_row key row.0 row.1 (members_of rows) (less _ (and_left first (below key rows) h)) (below_members key rows (and_right first (below key rows) h))

plain_row : (n : ℕ) (l : List ℕ) (o : Option Data) (ms : Members) → IsBelow l ms → IfPlain n o → AreMembers n ms → AreMembers n (with_row l o ms)
plain_row n l None ms b p h = h
plain_row n l (Some d) ms b p h = (b, p, h)

pub plain_members : (n : ℕ) (rows : List Row) → rise rows ≡ true → RowsPlain n rows → AreMembers n (members_of rows)
unfolding members_of
plain_members n [] h p = tt
plain_members n (row ∷ rows) h p =
    plain_row n row.0 row.1 (members_of rows) (below_members row.0 rows (and_left (below row.0 rows) (rise rows) h)) p.0 (plain_members n rows (and_right (below row.0 rows) (rise rows) h) p.1)

-- ---- what they add

pub added : (rows : List Row) (s : Sheet) → add_rows rows s ≡ add_members (members_of rows) s
unfolding members_of add_rows add_row add_members
added [] s = refl
added ((key, None) ∷ rows) s = added rows s
added ((key, Some d) ∷ rows) s = added rows (add_member key d s)
