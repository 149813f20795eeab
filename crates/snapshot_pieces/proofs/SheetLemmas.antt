-- what the calls that write a piece add to a sheet
use Rattle.std.proofs.Common.{◌≡◌, ℕ, List, ap}
use Rattle.json.specs.Token.{begin_object, end_object, key}
use Rattle.wire_pages.specs.Pages.{Sheet, add, add_value, add_members, add_member}
use Rattle.wire_record_rows.specs.Rows.{Row, add_rows, members_of, object_of}
use Rattle.wire_record_rows.proofs.RowLemmas.{added}
use Rattle.snapshot_pieces.specs.Trees.{under}

-- rows between the brackets of an object
pub object_is : (rows : List Row) (s : Sheet) → add end_object (add_rows rows (add begin_object s)) ≡ add_value (object_of rows) s
unfolding add_value
object_is rows s = ap (add end_object) (added rows (add begin_object s))

-- rows of an object that is the one member of another
pub under_is : (name : List ℕ) (rows : List Row) (s : Sheet) → add end_object (add end_object (add_rows rows (add begin_object (add (key name) (add begin_object s))))) ≡ add_value (object_of (under name (object_of rows))) s
unfolding add_value add_members add_member members_of under
under_is name rows s = ap (λ t. add end_object (add end_object t)) (added rows (add begin_object (add (key name) (add begin_object s))))
