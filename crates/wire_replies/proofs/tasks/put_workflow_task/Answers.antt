use Rattle.wire_pages.specs.Pages.{add_members}
use Rattle.wire_replies.specs.Tasks.{workflow_task_members}
use Rattle.wire_replies.proofs.tasks.put_workflow_task.Goals as goal

pub returns : goal.returns
unfolding add_members workflow_task_members
returns c =
    simp (c.in_ok-number.ensures, c.in_ok-number-2.ensures, c.in_ok-text.ensures, c.in_ok-run.ensures, c.in_ok-number-3.ensures, c.in_ok-put_token.ensures, c.from.ensures, c.as_str.ensures.value) at c.text-2.ensures
