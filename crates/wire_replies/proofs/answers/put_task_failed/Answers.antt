use Rattle.wire_pages.specs.Pages.{add_members}
use Rattle.wire_replies.proofs.answers.put_task_failed.Goals as goal

pub returns : goal.returns
unfolding add_members
returns c = simp (c.in_ok-text.ensures, c.name.ensures) at c.put_ok.ensures
