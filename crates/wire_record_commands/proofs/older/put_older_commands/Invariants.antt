use Rattle.std.proofs.Common.{◌≡◌, take}
use Rattle.json.specs.Token.{begin_array, key}
use Rattle.serde_json.specs.View.{items_of}
use Rattle.wire_pages.specs.Pages.{sheet_of, add, add_items}
use Rattle.wire_record_commands.specs.Older.{older_trees}
use Rattle.wire_record_commands.proofs.older.put_older_commands.Given as goal

abbrev pub invariant-loop-command : goal.invariant-loop-command
invariant-loop-command l = record {
  sheet : sheet_of l.page ≡ add_items (items_of (older_trees l.factors (take l.command-index l.commands))) (add begin_array (add (key l.fn.name) (sheet_of l.fn.page)));
  place : l.place ≡ l.command-index;
}
