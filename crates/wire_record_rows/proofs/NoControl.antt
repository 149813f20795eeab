-- the compact text of a plain value has no control character, and so no line feed
use Rattle.std.proofs.Common.{◌≡◌, ℕ, zero, suc, ◌<◌, ◌≤◌, ◌^◌, List, [], ◌∷◌, ◌++◌, length, Bool, true, false, cond, ◌&&◌, ◌||◌, eqb, refl, sym, ap, ◌∙◌, inl, inr, arith, decimal, ne_eqb, not}
use Rattle.std.proofs.lemmas.Bool.{and_parts, cases_lt, cases_eq, or_parts}
use Rattle.std.proofs.lemmas.Bool.Decides.{nat_tests}
use Rattle.std.specs.Prelude.{nat_lt}
use Rattle.std.proofs.lemmas.Fmt.{decimal_is_IsNumeral}
use Rattle.std.specs.Char.{digit_value}
use Rattle.std.specs.List.{list_any}
use Rattle.std.specs.Str.Parse.{AllDigits}
use Rattle.json.specs.Print.{escape_byte, escape, quoted}
use Rattle.json.proofs.Printed.Strings.{escape_byte_plain}
use Rattle.serde_json.specs.Data.{Num, unsigned, negative, float, Data, null, boolean, number, string, array, object, Items, no_items, item, Members, no_members, member}
use Rattle.serde_json.specs.Written.{compact_text, items_text, members_text, comma_if}
use Rattle.wire_record_rows.specs.Plain.{IsPlain, ArePlain, AreMembers, has_control, has_feed}

-- what is no control character
above : (x : ℕ) → 32 ≤ x → nat_lt x 32 ≡ false
above x h = grind (arith, nat_tests)

either : (t u v : Bool) → (u ≡ false → v ≡ false) → (t || u) ≡ false → (t || v) ≡ false
either true u v k e = e
either false u v k e = k e

joined : (a b : List ℕ) → has_control a ≡ false → has_control b ≡ false → has_control (a ++ b) ≡ false
joined [] b p q = q
joined (x ∷ a) b p q = either (nat_lt x 32) (has_control a) (has_control (a ++ b)) (λ e. joined a b e q) p

abbrev free_below : ℕ → Bool
free_below zero = true
free_below (suc n) = not (has_control (escape_byte n)) && free_below n

is_free : (b : Bool) → not b ≡ true → b ≡ false
is_free true e = sym e
is_free false e = refl

below_free : (n : ℕ) → free_below n ≡ true → (x : ℕ) → x < n → has_control (escape_byte x) ≡ false
below_free zero e x h = absurd (omega arith)
below_free (suc n) e x h =
    let p = and_parts _ _ e in
    elim (cases_eq x n) [ inl same ↦ rw same (is_free _ p.0) | inr other ↦ below_free n p.1 x (omega arith) ]

all_free : free_below 93 ≡ true
unfolding escape_byte
all_free = refl

byte_free : (x : ℕ) → has_control (escape_byte x) ≡ false
byte_free x = elim (cases_lt x 93) [
  | inl small ↦ below_free 93 all_free x small
  | inr big ↦ rw (escape_byte_plain x (λ e. omega arith) (λ e. omega arith) (omega arith), above x (omega arith)) refl
]

escape_free : (s : List ℕ) → has_control (escape s) ≡ false
escape_free [] = refl
escape_free (x ∷ s) = joined (escape_byte x) (escape s) (byte_free x) (escape_free s)

quoted_free : (s : List ℕ) → has_control (quoted s) ≡ false
quoted_free s = joined (escape s) (34 ∷ []) (escape_free s) refl

abbrev none_below : ℕ → Bool
none_below zero = true
none_below (suc n) = not (nat_lt (digit_value n) 10) && none_below n

no_digit : (n : ℕ) → none_below n ≡ true → (x : ℕ) → x < n → nat_lt (digit_value x) 10 ≡ false
no_digit zero e x h = absurd (omega arith)
no_digit (suc n) e x h =
    let p = and_parts _ _ e in
    elim (cases_eq x n) [ inl same ↦ rw same (is_free _ p.0) | inr other ↦ no_digit n p.1 x (omega arith) ]

-- no digit is a control character
digit_above : (d : ℕ) → digit_value d < 10 → nat_lt d 32 ≡ false
digit_above d digit = elim (cases_lt d 32) [
  | inl small ↦ (let none : nat_lt (digit_value d) 10 ≡ false = no_digit 32 refl d small in absurd (grind (arith, nat_tests)))
  | inr big ↦ above d big
]

digits_free : (ds : List ℕ) → AllDigits 10 ds → has_control ds ≡ false
digits_free [] h = refl
digits_free (d ∷ ds) h = rw (digit_above d h.0) (digits_free ds h.1)

mutual
  value_free : (n : ℕ) (d : Data) → IsPlain n d → has_control (compact_text d) ≡ false
  value_free n null h = refl
  value_free n (boolean true) h = refl
  value_free n (boolean false) h = refl
  value_free n (number (unsigned x)) h = digits_free (decimal x) (decimal_is_IsNumeral x h).0.1
  value_free n (number (negative z)) h = absurd h
  value_free n (number (float x)) h = absurd h
  value_free n (string s) h = quoted_free s
  value_free zero (array ds) h = absurd h
  value_free (suc n) (array ds) h = items_free n false ds h
  value_free zero (object ms) h = absurd h
  value_free (suc n) (object ms) h = members_free n false ms h

  items_free : (n : ℕ) (later : Bool) (ds : Items) → ArePlain n ds → has_control (items_text later ds) ≡ false
  items_free n later no_items h = refl
  items_free n true (item d ds) h = joined (compact_text d) (items_text true ds) (value_free n d h.0) (items_free n true ds h.1)
  items_free n false (item d ds) h = joined (compact_text d) (items_text true ds) (value_free n d h.0) (items_free n true ds h.1)

  members_free : (n : ℕ) (later : Bool) (ms : Members) → AreMembers n ms → has_control (members_text later ms) ≡ false
  members_free n later no_members h = refl
  members_free n true (member k d ms) h = joined (quoted k) _ (quoted_free k) (joined (compact_text d) (members_text true ms) (value_free n d h.1) (members_free n true ms h.2))
  members_free n false (member k d ms) h = joined (quoted k) _ (quoted_free k) (joined (compact_text d) (members_text true ms) (value_free n d h.1) (members_free n true ms h.2))

pub no_control : (n : ℕ) (d : Data) → IsPlain n d → has_control (compact_text d) ≡ false
no_control = value_free

-- a line feed is a control character
feed_free : (text : List ℕ) → has_control text ≡ false → has_feed text ≡ false
feed_free [] e = refl
feed_free (x ∷ text) e =
    let q = or_parts (nat_lt x 32) (has_control text) e in
    let high : nat_lt x 32 ≡ false = q.0 in
    rw (ne_eqb x 10 (λ is. absurd (grind (arith, nat_tests)))) (feed_free text q.1)

pub no_feed : (n : ℕ) (d : Data) → IsPlain n d → has_feed (compact_text d) ≡ false
no_feed n d h = feed_free (compact_text d) (no_control n d h)
