use Rattle.std.proofs.Common.{take}
use Rattle.std.specs.List.{AllByRecursion}
use Rattle.wire_record_commands.specs.Limits.{IsNumber}
use Rattle.snapshot_pieces.proofs.known.known_numbers.Given as goal

abbrev pub invariant-loop-number : goal.invariant-loop-number
invariant-loop-number l = AllByRecursion IsNumber (take l.number-index l.numbers)
