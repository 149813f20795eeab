use Rattle.std.proofs.Common.{codes}
use Rattle.json.specs.Token.{begin_object, key}
use Rattle.wire_pages.specs.Pages.{sheet_of, add, add_member}
use Rattle.wire_record_rows.proofs.RowLemmas.{added}
use Rattle.wire_record_commands.specs.Trees.{policy_rows}
use Rattle.wire_record_commands.proofs.put_policy.put_policy.Goals as goal

pub returns : goal.returns
unfolding add_member
returns c =
    rw (← added (policy_rows c.args.factor c.args.policy.now) (add begin_object (add (key (codes "retry")) (sheet_of c.args.page.now))))
    (simp (c.in_ok-key.ensures, c.in_ok-begin_object.ensures, c.in_ok-put_policy_rows.ensures) at c.end_object.ensures)
