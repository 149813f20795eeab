use Rattle.std.proofs.Common.{◌≡◌, ◌∙◌, ap, codes, decimal, subst}
use Rattle.std.specs.Prelude.{string_bytes}
use Rattle.json.specs.Print.{escape}
use Rattle.task_token.specs.TokenTexts.{token_text}
use Rattle.text_pieces.proofs.PieceLemmas.{shown}
use Rattle.wire_replies.proofs.QuickLemmas.{task}
use Rattle.wire_replies.proofs.quick.put_task.Goals as goal

pub returns : goal.returns
returns c =
    let plain_token = subst (λ t. escape t ≡ t) c.as_bytes.ensures.value c.if-not-is_plain.ensures in
    let plain_run = subst (λ t. escape t ≡ t) (c.as_bytes-2.ensures.value ∙ c.write-run.ensures) c.if-not-is_plain-2.ensures in
    let plain_id = subst (λ t. escape t ≡ t) (c.as_bytes-3.ensures.value ∙ c.as_str-workflow_id.ensures.value) c.if-not-is_plain-3.ensures in
    task c.args.line c.args.task.now c.write_in-token.result.now _ _ _ _ _ _ _ _ (c.write_in-token.ensures ∙ ap token_text c.workflow_token-token.ensures) c.requires
    (shown (string_bytes c.args.page.now) (codes "{\"attempt\":") _ _ _ c.in_ok-put_number.ensures (ap decimal c.from.ensures)) c.in_ok-put_number-2.ensures
    (shown (string_bytes c.put_number-2.new.page) (codes ",\"ok\":\"task\",\"run\":\"") _ _ _ c.in_ok-put_both.ensures c.write-run.ensures) c.in_ok-put_number-3.ensures c.in_ok-put_both-2.ensures
    (shown (string_bytes c.put_both-2.new.page) (codes "\",\"workflow_id\":\"") _ _ _ c.in_ok-put_both-3.ensures c.as_str-workflow_id.ensures.value) c.in_ok-put_last.ensures plain_token plain_run plain_id
