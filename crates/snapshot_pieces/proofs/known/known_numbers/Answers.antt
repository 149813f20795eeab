use Rattle.wire_record_commands.proofs.ListLemmas.{all_more}
use Rattle.wire_record_commands.specs.Limits.{IsNumber}
use Rattle.snapshot_pieces.proofs.known.known_numbers.Goals as goal

pub loop-number-preserved : goal.loop-number-preserved
loop-number-preserved c = all_more IsNumber c.args.numbers.now c.loop-number.number-index _ c.loop-number-test.true c.loop-number.invariant c.known_number.ensures
