use Rattle.std.proofs.Common.{◌∙◌, ap}
use Rattle.uuid.specs.Text.{hyphenated_text, lower}
use Rattle.task_token.specs.RunTexts.{run_text}
use Rattle.task_token.proofs.run.RunIdRunText.write.Goals as goal

pub returns : goal.returns
unfolding run_text
returns c = c.encode_lower.ensures.text ∙ ap (hyphenated_text lower) (c.hyphenated.ensures ∙ c.uuid_of.ensures)
