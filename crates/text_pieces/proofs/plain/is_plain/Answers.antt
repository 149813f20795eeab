use Rattle.json.proofs.Printed.Plain.{escape_on_plain}
use Rattle.text_pieces.proofs.plain.is_plain.Goals as goal

pub returns-then-text-gt16 : goal.returns-then-text-gt16
returns-then-text-gt16 c = escape_on_plain c.many_are_plain.result c.args.text.now c.many_are_plain.ensures

pub returns-else-text-gt16 : goal.returns-else-text-gt16
returns-else-text-gt16 c = escape_on_plain c.short_is_plain.result c.args.text.now c.short_is_plain.ensures
