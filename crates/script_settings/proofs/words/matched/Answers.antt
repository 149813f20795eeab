use Rattle.std.proofs.Common.{◌∙◌, ap, rules, map}
use Rattle.std.proofs.lemmas.Result.{IfOk-weaker}
use Rattle.clap.specs.Simple.{app_of_fields}
use Rattle.clap.specs.Walk.{rule_of}
use Rattle.clap.specs.Words.{app_of, with_rule, found_of, rows_of}
use Rattle.script_settings.specs.CommandLine.{with_version}
use Rattle.script_settings.proofs.Matched.{built, is_matched, is_faulted}
use Rattle.script_settings.proofs.words.matched.Goals as goal

pub returns-clause-rows : goal.returns-clause-rows
returns-clause-rows c =
    let file = c.in_ok-command-12.ensures.shape (search rules) ∙ ap (with_rule (app_of c.in_ok-command-11.command)) (ap rule_of c.help.ensures ∙ c.new-2.ensures.rule) in
    let app = built _ _ _ _ _ _ _ _ _ _ _ _ _ (ap app_of_fields c.version-command.ensures ∙ ap with_version (ap app_of_fields c.about.ensures ∙ c.new.ensures.app)) c.in_ok-command.ensures c.in_ok-command-2.ensures c.in_ok-command-3.ensures c.in_ok-command-4.ensures c.in_ok-command-5.ensures c.in_ok-command-6.ensures c.in_ok-command-7.ensures c.in_ok-command-8.ensures c.in_ok-command-9.ensures c.in_ok-command-10.ensures c.in_ok-command-11.ensures file in
    IfOk-weaker c.try_get_matches_from.result _ _ (λ m h. is_matched (app_of c.in_ok-command-12.command) (map (λ w. w.now) c.args.words.now) (rows_of (found_of m)) app h) c.try_get_matches_from.ensures.matches

pub returns-clause-fails : goal.returns-clause-fails
returns-clause-fails c =
    let file = c.in_ok-command-12.ensures.shape (search rules) ∙ ap (with_rule (app_of c.in_ok-command-11.command)) (ap rule_of c.help.ensures ∙ c.new-2.ensures.rule) in
    let app = built _ _ _ _ _ _ _ _ _ _ _ _ _ (ap app_of_fields c.version-command.ensures ∙ ap with_version (ap app_of_fields c.about.ensures ∙ c.new.ensures.app)) c.in_ok-command.ensures c.in_ok-command-2.ensures c.in_ok-command-3.ensures c.in_ok-command-4.ensures c.in_ok-command-5.ensures c.in_ok-command-6.ensures c.in_ok-command-7.ensures c.in_ok-command-8.ensures c.in_ok-command-9.ensures c.in_ok-command-10.ensures c.in_ok-command-11.ensures file in
    is_faulted (app_of c.in_ok-command-12.command) (map (λ w. w.now) c.args.words.now) c.try_get_matches_from.result app c.try_get_matches_from.ensures.kinds
