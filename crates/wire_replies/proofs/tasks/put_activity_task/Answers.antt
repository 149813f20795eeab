use Rattle.std.proofs.Common.{◌≡◌, ℕ, List, codes, Option, Some, None, refl}
use Rattle.serde_json.specs.Data.{no_members, string, number, unsigned}
use Rattle.task_token.specs.RunTexts.{run_text}
use Rattle.task_token.specs.TokenTexts.{token_text}
use Rattle.wf_event_values.specs.declared.policies.TaskKind.TheVariants.{Activity}
use Rattle.service_model_types.specs.declared.answer.ActivityTask.{ActivityTask}
use Rattle.wire_pages.specs.Members.{optional, text_member}
use Rattle.wire_pages.specs.Pages.{Sheet, sheet_of, add_member, add_members}
use Rattle.wire_replies.specs.Answers.{line_member}
use Rattle.wire_replies.specs.Tasks.{activity_members, activity_task_members, token_of}
use Rattle.wire_replies.proofs.tasks.put_activity_task.Goals as goal

-- the details, where they are there, stand at their key
ordered : (line : ℕ) (t : ActivityTask) (details : Option (List ℕ)) (s : Sheet) → t.details ≡ details
    → add_members (activity_task_members t (line_member line)) s
    ≡ add_member (codes "workflow_id") (string t.workflow_id)
    (add_member (codes "token") (string (token_text (token_of Activity t.run t.scheduled t.attempt)))
    (add_member (codes "run") (string (run_text t.run)) (add_member (codes "ok") (string (codes "task"))
    (add_member (codes "line") (number (unsigned line)) (add_member (codes "input") (string t.input)
    (add_members (optional (text_member (codes "details")) details no_members)
    (add_member (codes "attempt") (number (unsigned t.attempt)) (add_member (codes "activity_type") (string t.activity_type)
    (add_member (codes "activity_id") (string t.activity_id) s)))))))))
unfolding add_members activity_task_members activity_members
ordered line t None s p = rw p refl
ordered line t (Some x) s p = rw p refl

pub returns : goal.returns
returns c =
    let t = c.args.task.now in
    rw (ordered c.args.line t t.details (sheet_of c.args.page.now) refl)
    (simp (c.in_ok-text.ensures, c.in_ok-text-2.ensures, c.in_ok-number.ensures, c.in_ok-optional_text.ensures, c.in_ok-text-3.ensures, c.in_ok-number-2.ensures, c.in_ok-text-4.ensures, c.in_ok-run.ensures, c.in_ok-put_token.ensures, c.from.ensures, c.as_str.ensures.value, c.as_str-2.ensures.value, c.as_str-3.ensures.value, c.as_str-4.ensures.value) at c.text-5.ensures)
