use Rattle.std.proofs.Common.{drop}
use Rattle.wire_fields.specs.Kinds.{number_of}
use Rattle.wire_record_rows.specs.Keys.{keyed}
use Rattle.wire_fields.proofs.ElementLemmas.{Reading}
use Rattle.snapshot_pieces.proofs.values.each_number.Given as goal

abbrev pub invariant-loop-value : goal.invariant-loop-value
invariant-loop-value g l = Reading g.V.Tree.stands_for (keyed number_of l.key) l.values l.numbers.items (drop l.value-index l.values)
