-- PROOF: a JSON value whose compact text reads as the value: it nests at most so deep, its numbers are whole and
-- below 2^64, and its keys rise
use Rattle.std.specs.List.{list_any}
use Rattle.std.specs.Prelude.{Bool, IsUtf8, nat_lt, ◌==◌, ◌≡◌, ℕ, zero, suc, ◌<◌, ◌^◌, List, [], ◌∷◌, Option, Some, None, ⊤}
use Rattle.std.specs.Cmp.Lexicographic.{slice_cmp}
use Rattle.std.specs.Ordering.{nat_cmp}
use Rattle.std.specs.declared.cmp.Ordering.TheVariants.{Less}
use Rattle.serde_json.specs.Data.{Num, unsigned, negative, float, Data, null, boolean, number, string, array, object, Items, no_items, item, Members, no_members, member}
use Rattle.wire_record_rows.specs.Rows.{Row}

abbrev pub IsWhole : Num → Type 0
IsWhole (unsigned n) = n < 2 ^ 64
IsWhole (negative z) = ⊥
IsWhole (float x) = ⊥

-- the key is below those of the members
abbrev pub IsBelow : List ℕ → Members → Type 0
IsBelow key no_members = ⊤
IsBelow key (member k d ms) = (slice_cmp nat_cmp key k ≡ Less) × IsBelow key ms

abbrev mutual
  pub IsPlain : ℕ → Data → Type 0
  IsPlain n null = ⊤
  IsPlain n (boolean b) = ⊤
  IsPlain n (number x) = IsWhole x
  IsPlain n (string s) = ⊤
  IsPlain zero (array ds) = ⊥
  IsPlain (suc n) (array ds) = ArePlain n ds
  IsPlain zero (object ms) = ⊥
  IsPlain (suc n) (object ms) = AreMembers n ms

  pub ArePlain : ℕ → Items → Type 0
  ArePlain n no_items = ⊤
  ArePlain n (item d ds) = IsPlain n d × ArePlain n ds

  pub AreMembers : ℕ → Members → Type 0
  AreMembers n no_members = ⊤
  AreMembers n (member k d ms) = IsBelow k ms × IsPlain n d × AreMembers n ms

-- a value, where there is one
abbrev pub IfPlain : ℕ → Option Data → Type 0
IfPlain n None = ⊤
IfPlain n (Some d) = IsPlain n d

-- each row's value
abbrev pub RowsPlain : ℕ → List Row → Type 0
RowsPlain n [] = ⊤
RowsPlain n (row ∷ rows) = IfPlain n row.1 × RowsPlain n rows

-- whether a control character stands in a text
abbrev pub has_control : List ℕ → Bool
has_control text = list_any (λ b. nat_lt b 32) text

-- whether a line feed stands in a text
abbrev pub has_feed : List ℕ → Bool
has_feed text = list_any (λ b. b == 10) text

-- every text and every key is UTF-8
abbrev mutual
  pub HasUtf8 : Data → Type 0
  HasUtf8 null = ⊤
  HasUtf8 (boolean b) = ⊤
  HasUtf8 (number x) = ⊤
  HasUtf8 (string s) = IsUtf8 s
  HasUtf8 (array ds) = HaveUtf8 ds
  HasUtf8 (object ms) = MembersUtf8 ms

  pub HaveUtf8 : Items → Type 0
  HaveUtf8 no_items = ⊤
  HaveUtf8 (item d ds) = HasUtf8 d × HaveUtf8 ds

  pub MembersUtf8 : Members → Type 0
  MembersUtf8 no_members = ⊤
  MembersUtf8 (member k d ms) = IsUtf8 k × HasUtf8 d × MembersUtf8 ms

-- the texts of a value, where there is one, are UTF-8
abbrev pub IfUtf8 : Option Data → Type 0
IfUtf8 None = ⊤
IfUtf8 (Some d) = HasUtf8 d

-- the texts of each row's value
abbrev pub RowsUtf8 : List Row → Type 0
RowsUtf8 [] = ⊤
RowsUtf8 (row ∷ rows) = IfUtf8 row.1 × RowsUtf8 rows
