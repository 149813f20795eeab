-- rows whose texts are UTF-8
use Rattle.std.proofs.Common.{◌≡◌, ℕ, List, [], ◌∷◌, Bool, true, false, ◌&&◌, Option, Some, None, refl, sym, IsUtf8}
use Rattle.std.proofs.lemmas.Bool.{and_parts}
use Rattle.std.specs.Prelude.{⊤}
use Rattle.json.proofs.Printed.Utf8.{are_ascii, IsUtf8-are_ascii}
use Rattle.serde_json.specs.Data.{Data, object, Members, no_members, member}
use Rattle.wire_record_rows.specs.Rows.{Row, with_row, members_of, object_of}
use Rattle.wire_record_rows.specs.Plain.{HasUtf8, MembersUtf8, IfUtf8, RowsUtf8}

-- the keys are ASCII
abbrev pub ascii_keys : List Row → Bool
ascii_keys [] = true
ascii_keys (row ∷ rows) = are_ascii row.0 && ascii_keys rows

one_row : (key : List ℕ) (o : Option Data) (ms : Members) → IsUtf8 key → IfUtf8 o → MembersUtf8 ms → MembersUtf8 (with_row key o ms)
one_row key None ms k u h = h
one_row key (Some d) ms k u h = (k, u, h)

pub utf8_members : (rows : List Row) → ascii_keys rows ≡ true → RowsUtf8 rows → MembersUtf8 (members_of rows)
unfolding members_of
utf8_members [] a u = tt
utf8_members (row ∷ rows) a u =
    let p = and_parts (are_ascii row.0) (ascii_keys rows) a in
    one_row row.0 row.1 (members_of rows) (IsUtf8-are_ascii row.0 p.0) u.0 (utf8_members rows p.1 u.1)
