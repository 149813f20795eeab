use Rattle.std.proofs.Common.{◌≡◌, ◌∙◌, codes, subst}
use Rattle.std.specs.Prelude.{string_bytes}
use Rattle.json.specs.Print.{escape}
use Rattle.text_pieces.proofs.PieceLemmas.{shown}
use Rattle.wire_replies.proofs.QuickLemmas.{started}
use Rattle.wire_replies.proofs.quick.put_started.Goals as goal

pub returns : goal.returns
returns c =
    let plain_run = subst (λ t. escape t ≡ t) (c.as_bytes.ensures.value ∙ c.write-run.ensures) c.if-not-is_plain.ensures in
    started c.args.line c.args.run _ _ _ _ c.requires c.in_ok-put_number.ensures
    (shown (string_bytes c.put_number.new.page) (codes ",\"ok\":\"started\",\"run\":\"") _ _ _ c.in_ok-put_both.ensures c.write-run.ensures) c.in_ok-put_last.ensures plain_run
