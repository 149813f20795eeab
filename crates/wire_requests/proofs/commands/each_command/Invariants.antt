use Rattle.std.proofs.Common.{drop}
use Rattle.wire_requests.specs.Commands.{command_of}
use Rattle.wire_fields.proofs.ElementLemmas.{Reading}
use Rattle.wire_requests.proofs.commands.each_command.Given as goal

abbrev pub invariant-loop-value : goal.invariant-loop-value
invariant-loop-value g l = Reading g.V.Tree.stands_for command_of l.values l.commands.items (drop l.value-index l.values)
