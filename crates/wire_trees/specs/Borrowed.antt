-- PROOF: the data that a borrowed value stands for
use Rattle.std.specs.Prelude.{◌≡◌, ℕ, ◌%◌, ◌==◌, List, [], ◌∷◌, length, map, Bool, true, cond}
use Rattle.std.specs.Bool.{⊤}
use Rattle.std.specs.Int.{bit_at}
use Rattle.std.specs.Borrow.{Bor}
use Rattle.serde_json.specs.Data.{Data, Members, array, boolean, no_members, null, number, object, put, string, unsigned}
use Rattle.serde_json.specs.View.{items_of}
use Rattle.wire_trees.specs.declared.borrowed.BorrowedValue.{BorrowedValue, fold-BorrowedValue}
use Rattle.wire_trees.specs.declared.borrowed.BorrowedValue.TheOpen.{BorrowedValue-F}

-- members, put one after another into those that were there: the last value of a key stays
abbrev pub put_all : List (Bor (List ℕ) × Data) → Members → Members
put_all [] found = found
put_all (m ∷ ms) found = put_all ms (put m.0.now m.1 found)

-- names of that length are marked, by a bit of the lengths
unfoldable pub is_marked : ℕ → List ℕ → Bool
is_marked lengths name = bit_at lengths (length name % 32) == 1

-- those members whose names are marked, put one after another into those that were there
abbrev pub put_marked : ℕ → List (Bor (List ℕ) × Data) → Members → Members
put_marked lengths [] found = found
put_marked lengths (m ∷ ms) found = put_marked lengths ms (cond (is_marked lengths m.0.now) (put m.0.now m.1 found) found)

-- one level, with each value inside already seen as its data
abbrev pub data_step : BorrowedValue-F Data → Data
data_step BorrowedValue-F.Null = null
data_step (BorrowedValue-F.Truth b) = boolean b
data_step (BorrowedValue-F.Number n) = number (unsigned n)
data_step (BorrowedValue-F.Text s) = string s.now
data_step (BorrowedValue-F.Array v) = array (items_of v.items)
data_step (BorrowedValue-F.Object lengths v) = object (put_marked lengths v.items no_members)

abbrev pub data_of : BorrowedValue → Data
data_of = fold-BorrowedValue Data data_step

abbrev pub members_of : List (Bor (List ℕ) × BorrowedValue) → Members
members_of ms = put_all (map (λ m. (m.0, data_of m.1)) ms) no_members

abbrev pub marked_of : ℕ → List (Bor (List ℕ) × BorrowedValue) → Members
marked_of lengths ms = put_marked lengths (map (λ m. (m.0, data_of m.1)) ms) no_members

-- the names of all members are marked
abbrev pub AllMarked : ℕ → List (Bor (List ℕ) × BorrowedValue) → Type 0
AllMarked lengths [] = ⊤
AllMarked lengths (m ∷ ms) = (is_marked lengths m.0.now ≡ true) × AllMarked lengths ms
