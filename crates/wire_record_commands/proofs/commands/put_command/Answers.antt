use Rattle.json.specs.Token.{begin_object}
use Rattle.wire_pages.specs.Pages.{sheet_of, add, add_value}
use Rattle.wire_record_rows.proofs.RowLemmas.{added}
use Rattle.wire_record_commands.specs.Trees.{command_rows, command_tree}
use Rattle.wire_record_commands.proofs.commands.put_command.Goals as goal

pub returns : goal.returns
unfolding add_value command_tree
returns c =
    rw (← added (command_rows c.args.factor c.args.command.now) (add begin_object (sheet_of c.args.page.now)))
    (simp (c.in_ok-put_rows.ensures, c.in_ok-begin_object.ensures) at c.end_object.ensures)
