-- PROOF: what reading a value, token by token, has read
use Rattle.std.specs.Prelude.{◌≡◌, ℕ, ◌<◌, List, ◌∷◌, length, map, get_or, Option, None, Some}
use Rattle.json.specs.Json as json
use Rattle.json.specs.Json.{Items, Json, Members, items, members, value}
use Rattle.json.specs.Token.{Token}
use Rattle.serde_json.specs.Data as tree
use Rattle.serde_json.specs.Read.{of_items, of_json, of_members}
use Rattle.serde_json.specs.View.{items_of}
use Rattle.wire_trees.specs.Borrowed.{data_of}
use Rattle.wire_trees.specs.declared.borrowed.BorrowedValue.{BorrowedValue}

-- the value that a token is, where it opens nothing
abbrev pub scalar_of : Token → Option Json
scalar_of (Token.string s) = Some (json.string s)
scalar_of (Token.number s) = Some (json.number s)
scalar_of (Token.boolean b) = Some (json.boolean b)
scalar_of Token.null = Some json.null
scalar_of _ = None

-- a value stands for the one that a token is
abbrev pub IsScalar : Token → BorrowedValue → Type 0
IsScalar t v = (j : Json) × (scalar_of t ≡ Some j) × (of_json j ≡ Some (data_of v))

-- a text that begins as the plain digits of a number do: with no sign, and with a zero only where nothing follows
pub record BeginsPlainly (text : List ℕ) : Type 0 where
  pub some : 0 < length text
  pub bare : get_or text 0 0 ≡ 43 → ⊥
  pub lead : get_or text 0 0 ≡ 48 → length text ≡ 1

-- tokens after the bracket that opens an array, and after the brace that opens an object
abbrev pub in_list : List Token → List Token
in_list ts = Token.begin_array ∷ ts

abbrev pub in_object : List Token → List Token
in_object ts = Token.begin_object ∷ ts

-- a value, nested so deep at most, was read from these tokens, and these are left
pub record IsValue (depth : ℕ) (ts : List Token) (v : BorrowedValue) (rest : List Token) : Type 0 where
  pub json : Json
  pub parsed : value depth ts ≡ Some (json, rest)
  pub is : of_json json ≡ Some (data_of v)

-- the items of an array were read from these tokens, as these, and these are left
pub record AreItems (depth : ℕ) (ts : List Token) (read : List BorrowedValue) (rest : List Token) : Type 0 where
  pub all : Items
  pub parsed : items (value depth) (length ts) ts ≡ Some (all, rest)
  pub is : of_items all ≡ Some (items_of (map data_of read))

-- the members of an object were read from these tokens, as these, and these are left
pub record AreMembers (depth : ℕ) (ts : List Token) (read : tree.Members) (rest : List Token) : Type 0 where
  pub all : Members
  pub parsed : members (value depth) (length ts) ts ≡ Some (all, rest)
  pub is : of_members all tree.no_members ≡ Some read
