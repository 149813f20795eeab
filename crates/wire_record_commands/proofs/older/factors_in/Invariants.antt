use Rattle.std.proofs.Common.{◌≡◌, map, take}
use Rattle.wire_record_commands.specs.Older.{factor_in}
use Rattle.wire_record_commands.proofs.older.factors_in.Given as goal

abbrev pub invariant-loop-value : goal.invariant-loop-value
invariant-loop-value g l = l.factors.items ≡ map factor_in (map g.V.Tree.stands_for (take l.value-index l.values))
