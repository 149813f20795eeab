use Rattle.wire_record_rows.proofs.Again.{reads_again}
use Rattle.wire_record_rows.proofs.plain_texts_read_again.Goals as goal

pub returns : goal.returns
returns c = reads_again
