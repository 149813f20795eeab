use Rattle.wire_record_rows.proofs.NoControl.{no_feed}
use Rattle.wire_record_rows.proofs.plain_texts_are_one_line.Goals as goal

pub returns : goal.returns
returns c = no_feed
