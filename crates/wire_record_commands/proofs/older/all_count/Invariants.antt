use Rattle.std.proofs.Common.{◌≡◌, take}
use Rattle.wire_record_commands.specs.Older.{all_count}
use Rattle.wire_record_commands.proofs.older.all_count.Given as goal

abbrev pub invariant-loop-command : goal.invariant-loop-command
invariant-loop-command l = record {
  all : l.all ≡ all_count l.factors (take l.command-index l.commands);
  place : l.place ≡ l.command-index;
}
