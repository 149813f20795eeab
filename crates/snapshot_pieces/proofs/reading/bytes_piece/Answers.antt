use Rattle.std.proofs.Common.{◌∙◌, sym}
use Rattle.std.proofs.lemmas.Result.{IfOk-weaker}
use Rattle.snapshot_pieces.proofs.PieceLemmas.{named_by_text, none_named}
use Rattle.snapshot_pieces.proofs.reading.bytes_piece.Goals as goal

pub returns-in-Ok-clause-named : goal.returns-in-Ok-clause-named
returns-in-Ok-clause-named c = IfOk-weaker c.text_piece.result _ _ (λ o e. e ∙ sym (named_by_text c.in-Ok.text.now c.args.bytes.now c.in-Ok.ensures.cases.0 c.in-Ok.ensures.cases.1)) c.text_piece.ensures.named

pub returns-in-Err-clause-named : goal.returns-in-Err-clause-named
returns-in-Err-clause-named c = sym (none_named c.args.bytes.now c.in-Err.ensures.cases.0)
