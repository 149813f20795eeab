use Rattle.std.proofs.Common.{◌∙◌, ap}
use Rattle.std.proofs.lemmas.Result.{IfOk-weaker}
use Rattle.base64.specs.Engines.{standard}
use Rattle.base64.specs.GeneralPurpose.{encode_of}
use Rattle.task_token.specs.TokenTexts.{token_text}
use Rattle.task_token.proofs.token.TaskToken.write.Goals as goal

pub returns : goal.returns
unfolding token_text
returns c = IfOk-weaker c.encode.result _ _ (λ s e. e ∙ ap (encode_of standard) c.bytes_of.ensures) c.encode.ensures.text
