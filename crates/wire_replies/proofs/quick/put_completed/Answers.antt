use Rattle.wire_replies.proofs.QuickLemmas.{completed}
use Rattle.wire_replies.proofs.quick.put_completed.Goals as goal

pub returns : goal.returns
returns c = completed c.args.line _ _ _ c.requires c.in_ok-put_number.ensures c.in_ok-put_last.ensures
