use Rattle.wire_replies.proofs.QuickLemmas.{signaled}
use Rattle.wire_replies.proofs.quick.put_signaled.Goals as goal

pub returns : goal.returns
returns c = signaled c.args.line _ _ _ c.requires c.in_ok-put_number.ensures c.in_ok-put_last.ensures
