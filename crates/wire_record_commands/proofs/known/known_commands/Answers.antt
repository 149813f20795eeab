use Rattle.wire_record_commands.specs.Limits.{IsCommand}
use Rattle.wire_record_commands.proofs.ListLemmas.{all_more}
use Rattle.wire_record_commands.proofs.known.known_commands.Goals as goal

pub loop-command-preserved : goal.loop-command-preserved
loop-command-preserved c = all_more IsCommand c.args.commands.now c.loop-command.command-index c.command-item.result c.loop-command-test.true c.loop-command.invariant (rw c.command-item.is at c.known_command.ensures)
