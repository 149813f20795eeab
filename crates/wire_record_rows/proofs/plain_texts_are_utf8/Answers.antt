use Rattle.wire_record_rows.proofs.Utf8Texts.{text_utf8}
use Rattle.wire_record_rows.proofs.plain_texts_are_utf8.Goals as goal

pub returns : goal.returns
returns c = text_utf8
