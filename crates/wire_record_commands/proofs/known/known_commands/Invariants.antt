use Rattle.std.proofs.Common.{take}
use Rattle.std.specs.List.{AllByRecursion}
use Rattle.wire_record_commands.specs.Limits.{IsCommand}
use Rattle.wire_record_commands.proofs.known.known_commands.Given as goal

abbrev pub invariant-loop-command : goal.invariant-loop-command
invariant-loop-command l = AllByRecursion IsCommand (take l.command-index l.commands)
