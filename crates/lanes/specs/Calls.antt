-- PROOF: the calls that wait in a lane, each with the number of its line
use Rattle.std.specs.Prelude.{ℕ, ◌+◌, ◌-◌, ◌^◌, min, List, [], ◌∷◌, ◌++◌, map}
use Rattle.std.specs.List.{flat_map}
use Rattle.lanes.specs.declared.calls.CallList.{CallList}
use Rattle.lanes.specs.declared.calls.Calls.{Calls}
use Rattle.lanes.specs.declared.calls.Entry.{Entry}
use Rattle.lanes.specs.declared.calls.Entry.TheVariants.{One, List as a_list}
use Rattle.lanes.specs.declared.calls.LineCall.{LineCall}

-- the number of the line that stands so many lines after the one with this number; none is greater than 2 ^ 64 - 1
abbrev pub number_at : ℕ → ℕ → ℕ
number_at first count = min (first + count) (2 ^ 64 - 1)

-- a call whose line counts from this number on
abbrev pub counted_from : ℕ → LineCall → LineCall
counted_from first c = record { line = number_at first c.line; call = c.call }

-- the calls of a list
abbrev pub listed : CallList → List LineCall
listed list = map (counted_from list.first) list.calls.items

abbrev pub entered : Entry → List LineCall
entered (One call) = call ∷ []
entered (a_list list) = listed list

-- those of the first list, and then what comes after it
abbrev pub waiting : Calls → List LineCall
waiting c = listed c.now ++ flat_map entered c.next.items
