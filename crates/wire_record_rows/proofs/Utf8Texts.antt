-- the compact text of a plain value whose texts are UTF-8 is UTF-8
use Rattle.std.proofs.Common.{◌≡◌, ℕ, zero, suc, ◌<◌, ◌≤◌, ◌^◌, List, [], ◌∷◌, ◌++◌, Bool, true, false, nat_lt, ◌&&◌, refl, sym, ap, ◌∙◌, arith, decimal, lt-ltb, IsUtf8}
use Rattle.std.proofs.lemmas.Fmt.{decimal_is_IsNumeral}
use Rattle.std.proofs.lemmas.Str.{IsUtf8-append}
use Rattle.std.specs.Char.{digit_value}
use Rattle.std.specs.Str.Parse.{AllDigits}
use Rattle.json.specs.Print.{quoted}
use Rattle.json.proofs.Printed.Utf8.{are_ascii, IsUtf8-are_ascii, IsUtf8-quoted}
use Rattle.serde_json.specs.Data.{Num, unsigned, negative, float, Data, null, boolean, number, string, array, object, Items, no_items, item, Members, no_members, member}
use Rattle.serde_json.specs.Written.{compact_text, items_text, members_text, comma_if}
use Rattle.wire_record_rows.specs.Plain.{IsPlain, ArePlain, AreMembers, HasUtf8, HaveUtf8, MembersUtf8}

digits_ascii : (ds : List ℕ) → AllDigits 10 ds → are_ascii ds ≡ true
digits_ascii [] h = refl
digits_ascii (d ∷ ds) h =
    let small : d < 128 = (let digit : digit_value d < 10 = h.0 in grind arith) in
    rw (lt-ltb d 128 small) (digits_ascii ds h.1)

behind : (b : ℕ) (text : List ℕ) → are_ascii (b ∷ []) ≡ true → IsUtf8 text → IsUtf8 (b ∷ text)
behind b text a u = IsUtf8-append (b ∷ []) text (IsUtf8-are_ascii (b ∷ []) a) u

mutual
  value_utf8 : (n : ℕ) (d : Data) → IsPlain n d → HasUtf8 d → IsUtf8 (compact_text d)
  value_utf8 n null h u = IsUtf8-are_ascii _ refl
  value_utf8 n (boolean true) h u = IsUtf8-are_ascii _ refl
  value_utf8 n (boolean false) h u = IsUtf8-are_ascii _ refl
  value_utf8 n (number (unsigned x)) h u = IsUtf8-are_ascii (decimal x) (digits_ascii (decimal x) (decimal_is_IsNumeral x h).0.1)
  value_utf8 n (number (negative z)) h u = absurd h
  value_utf8 n (number (float x)) h u = absurd h
  value_utf8 n (string s) h u = IsUtf8-quoted s u
  value_utf8 zero (array ds) h u = absurd h
  value_utf8 (suc n) (array ds) h u = behind 91 _ refl (items_utf8 n false ds h u)
  value_utf8 zero (object ms) h u = absurd h
  value_utf8 (suc n) (object ms) h u = behind 123 _ refl (members_utf8 n false ms h u)

  items_utf8 : (n : ℕ) (later : Bool) (ds : Items) → ArePlain n ds → HaveUtf8 ds → IsUtf8 (items_text later ds)
  items_utf8 n later no_items h u = IsUtf8-are_ascii _ refl
  items_utf8 n true (item d ds) h u = behind 44 _ refl (IsUtf8-append (compact_text d) (items_text true ds) (value_utf8 n d h.0 u.0) (items_utf8 n true ds h.1 u.1))
  items_utf8 n false (item d ds) h u = IsUtf8-append (compact_text d) (items_text true ds) (value_utf8 n d h.0 u.0) (items_utf8 n true ds h.1 u.1)

  members_utf8 : (n : ℕ) (later : Bool) (ms : Members) → AreMembers n ms → MembersUtf8 ms → IsUtf8 (members_text later ms)
  members_utf8 n later no_members h u = IsUtf8-are_ascii _ refl
  members_utf8 n true (member k d ms) h u = behind 44 _ refl (IsUtf8-append (quoted k) _ (IsUtf8-quoted k u.0) (behind 58 _ refl (IsUtf8-append (compact_text d) (members_text true ms) (value_utf8 n d h.1 u.1) (members_utf8 n true ms h.2 u.2))))
  members_utf8 n false (member k d ms) h u = IsUtf8-append (quoted k) _ (IsUtf8-quoted k u.0) (behind 58 _ refl (IsUtf8-append (compact_text d) (members_text true ms) (value_utf8 n d h.1 u.1) (members_utf8 n true ms h.2 u.2)))

pub text_utf8 : (n : ℕ) (d : Data) → IsPlain n d → HasUtf8 d → IsUtf8 (compact_text d)
text_utf8 = value_utf8
