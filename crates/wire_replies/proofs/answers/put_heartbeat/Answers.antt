use Rattle.wire_pages.specs.Pages.{add_members}
use Rattle.wire_replies.proofs.answers.put_heartbeat.Goals as goal

pub returns : goal.returns
unfolding add_members
returns c = simp c.in_ok-boolean.ensures at c.put_ok.ensures
