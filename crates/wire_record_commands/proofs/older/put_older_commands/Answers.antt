use Rattle.std.proofs.Common.{◌≡◌, ◌∙◌, Some, ap, ap₂, sym, arith, take, get_or}
use Rattle.json.specs.Token.{begin_array, key}
use Rattle.serde_json.specs.View.{items_of}
use Rattle.wire_pages.specs.Pages.{sheet_of, add, add_value, add_items}
use Rattle.wire_pages.proofs.Steps.{item_added}
use Rattle.wire_record_commands.specs.Trees.{command_tree}
use Rattle.wire_record_commands.specs.Older.{older_trees}
use Rattle.wire_record_commands.proofs.OlderBack.{trees_next}
use Rattle.wire_record_commands.proofs.older.put_older_commands.Goals as goal

pub loop-command-preserved : goal.loop-command-preserved
unfolding add_value
loop-command-preserved c =
    let fs = c.args.factors.now in
    let cs = c.args.commands.now in
    let i = c.loop-command.command-index in
    let d = c.command-item.result in
    let at : c.factor_at.result ≡ get_or fs i 0 = c.factor_at.ensures ∙ ap (λ k. get_or fs k 0) c.loop-command.invariant.place in
    let start = add begin_array (add (key c.args.name.now) (sheet_of c.args.page.now)) in
    let so_far = add_items (items_of (older_trees fs (take i cs))) start in
    let more = ap (λ ds. add_items (items_of ds) start) (trees_next fs cs i d c.loop-command-test.true)
    ∙ item_added (older_trees fs (take i cs)) (command_tree (Some (get_or fs i 0)) (get_or cs i d)) start in
    record {
      sheet = c.in_ok-put_command.ensures ∙ ap₂ (λ e s. add_value (command_tree (Some c.factor_at.result) e) s) c.command-item.is c.loop-command.invariant.sheet
          ∙ ap (λ n. add_value (command_tree (Some n) (get_or cs i d)) so_far) at ∙ sym more;
      place = omega (arith, c.loop-command.invariant.place);
    }
