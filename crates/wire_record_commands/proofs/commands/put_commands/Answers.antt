use Rattle.std.proofs.Common.{None, ap, ap₂, sym, ◌∙◌, take, map, get_or}
use Rattle.std.proofs.lemmas.List.{map_more}
use Rattle.json.specs.Token.{begin_array, key}
use Rattle.serde_json.specs.View.{items_of}
use Rattle.wire_record_commands.specs.Trees.{command_tree}
use Rattle.wire_pages.specs.Pages.{sheet_of, add, add_value, add_items}
use Rattle.wire_pages.proofs.Steps.{item_added}
use Rattle.wire_record_commands.proofs.commands.put_commands.Goals as goal

pub loop-command-preserved : goal.loop-command-preserved
loop-command-preserved c =
    let commands = c.args.commands.now in
    let i = c.loop-command.command-index in
    let start = add begin_array (add (key c.args.name.now) (sheet_of c.args.page.now)) in
    let more = ap (λ ds. add_items (items_of ds) start) (map_more (command_tree None) commands i c.command-item.result c.loop-command-test.true) ∙ item_added (map (command_tree None) (take i commands)) (command_tree None (get_or commands i c.command-item.result)) start in
    c.in_ok-put_command.ensures ∙ ap₂ (λ e s. add_value (command_tree None e) s) c.command-item.is c.loop-command.invariant ∙ sym more
