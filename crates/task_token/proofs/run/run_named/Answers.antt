use Rattle.std.proofs.Common.{◌≡◌, ◌∙◌, ap, sym, refl, true, false}
use Rattle.uuid.specs.Text.{hyphenated_text, lower}
use Rattle.task_token.specs.RunTexts.{run_text}
use Rattle.task_token.proofs.Runs.{nothing_named, is_named}
use Rattle.task_token.proofs.run.run_named.Goals as goal

pub returns-in_default : goal.returns-in_default
returns-in_default c = sym (nothing_named c.args.text.now (λ u. let bad : false ≡ true = c.in_default.ensures.ok.1 u in absurd cc))

pub returns-then-eq : goal.returns-then-eq
unfolding run_text
returns-then-eq c =
    let named = is_named c.args.text.now c.in-Ok.uuid c.encode_lower.result.now c.run_in-run.result c.eq.result c.in-Ok.ensures.bytes c.run_in-run.ensures
    (c.encode_lower.ensures.text ∙ ap (hyphenated_text lower) (c.hyphenated.ensures ∙ c.uuid_of.ensures)) c.eq.ensures in
    rw (named, c.if-eq.true) refl

pub returns-else-eq : goal.returns-else-eq
unfolding run_text
returns-else-eq c =
    let named = is_named c.args.text.now c.in-Ok.uuid c.encode_lower.result.now c.run_in-run.result c.eq.result c.in-Ok.ensures.bytes c.run_in-run.ensures
    (c.encode_lower.ensures.text ∙ ap (hyphenated_text lower) (c.hyphenated.ensures ∙ c.uuid_of.ensures)) c.eq.ensures in
    rw (named, c.if-eq.false) refl
