-- MEANING: an object as a list of rows, in the order of their keys
use Rattle.std.specs.Prelude.{◌≡◌, ℕ, ◌==◌, List, [], ◌∷◌, Bool, true, false, ◌&&◌, if◌then◌else◌, bytes_eq, codes, map, Option, Some, None, option_map}
use Rattle.std.specs.Cmp.Lexicographic.{slice_cmp}
use Rattle.std.specs.Ordering.{nat_cmp, is_lt}
use Rattle.serde_json.specs.Data.{Data, number, unsigned, string, boolean, object, Members, no_members, member}
use Rattle.wf_event_values.specs.Run.{Run}
use Rattle.task_token.specs.RunTexts.{run_text}
use Rattle.wire_pages.specs.Pages.{Sheet, add_member}

-- a key, with its value where it has one
abbrev pub Row : Type 0
Row = List ℕ × Option Data

abbrev pub text : List ℕ → List ℕ → Row
text key t = (key, Some (string t))

abbrev pub count : List ℕ → ℕ → Row
count key n = (key, Some (number (unsigned n)))

abbrev pub flag : List ℕ → Bool → Row
flag key b = (key, Some (boolean b))

abbrev pub run : List ℕ → Run → Row
run key r = (key, Some (string (run_text r)))

abbrev pub whole : List ℕ → Data → Row
whole key d = (key, Some d)

abbrev pub if_text : List ℕ → Option (List ℕ) → Row
if_text key t = (key, option_map string t)

abbrev pub if_count : List ℕ → Option ℕ → Row
if_count key n = (key, option_map (λ x. number (unsigned x)) n)

-- a number, where it is not 0
abbrev pub unless_zero : ℕ → Option ℕ
unless_zero n = if n == 0 then None else Some n

abbrev pub if_run : List ℕ → Option Run → Row
if_run key r = (key, option_map (λ x. string (run_text x)) r)

abbrev pub with_row : List ℕ → Option Data → Members → Members
with_row key None ms = ms
with_row key (Some d) ms = member key d ms

-- the members that rows are
unfoldable pub members_of : List Row → Members
members_of [] = no_members
members_of (row ∷ rows) = with_row row.0 row.1 (members_of rows)

-- the object that rows are
abbrev pub object_of : List Row → Data
object_of rows = object (members_of rows)

-- what a row adds to a sheet
unfoldable pub add_row : Row → Sheet → Sheet
add_row (key, None) s = s
add_row (key, Some d) s = add_member key d s

-- what rows add, one after another
unfoldable pub add_rows : List Row → Sheet → Sheet
add_rows [] s = s
add_rows (row ∷ rows) s = add_rows rows (add_row row s)

-- the value under a key
abbrev pub lookup : List ℕ → List Row → Option Data
lookup key [] = None
lookup key (row ∷ rows) = if bytes_eq key row.0 then row.1 else lookup key rows

-- a key is below these rows' keys
abbrev pub below : List ℕ → List Row → Bool
below key [] = true
below key (row ∷ rows) = is_lt (slice_cmp nat_cmp key row.0) && below key rows

-- the keys rise
abbrev pub rise : List Row → Bool
rise [] = true
rise (row ∷ rows) = below row.0 rows && rise rows
