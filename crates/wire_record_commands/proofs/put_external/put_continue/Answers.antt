use Rattle.wire_record_rows.specs.Rows.{add_row, add_rows}
use Rattle.wire_record_commands.specs.Trees.{continue_rows}
use Rattle.wire_record_commands.proofs.put_external.put_continue.Goals as goal

pub returns : goal.returns
unfolding add_row add_rows continue_rows
returns c = simp (c.in_ok-text.ensures, c.in_ok-put_if_count.ensures, c.in_ok-put_if_id.ensures, c.in_ok-put_if_count-2.ensures, c.in_ok-text-2.ensures, c.as_str.ensures.value) at c.put_if_text.ensures
