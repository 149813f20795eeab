use Rattle.std.proofs.Common.{◌≡◌, None, map, take}
use Rattle.json.specs.Token.{begin_array, key}
use Rattle.serde_json.specs.View.{items_of}
use Rattle.wire_record_commands.specs.Trees.{command_tree}
use Rattle.wire_pages.specs.Pages.{sheet_of, add, add_items}
use Rattle.wire_record_commands.proofs.commands.put_commands.Given as goal

abbrev pub invariant-loop-command : goal.invariant-loop-command
invariant-loop-command l = sheet_of l.page ≡ add_items (items_of (map (command_tree None) (take l.command-index l.commands))) (add begin_array (add (key l.fn.name) (sheet_of l.fn.page)))
