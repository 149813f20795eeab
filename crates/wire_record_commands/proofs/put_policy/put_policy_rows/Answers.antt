use Rattle.wire_record_rows.specs.Rows.{add_row, add_rows}
use Rattle.wire_record_commands.specs.Trees.{policy_rows}
use Rattle.wire_record_commands.proofs.put_policy.put_policy_rows.Goals as goal

pub returns : goal.returns
unfolding add_row add_rows policy_rows
returns c = simp (c.in_ok-number.ensures, c.in_ok-put_if_number.ensures, c.in_ok-put_if_number-2.ensures, c.in_ok-number-2.ensures, c.in_ok-number-3.ensures, c.coefficient_unless.ensures, c.as_slice.ensures) at c.put_texts.ensures
