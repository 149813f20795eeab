-- The command that is built is the one that is defined, and clap's clauses at it.
use Rattle.std.proofs.Common.{◌≡◌, ◌∙◌, ap, refl, subst, true, codes, List, Result}
use Rattle.clap.specs.Words.{App, FailsBy, Row, Text, fault_of, is_simple, is_simple_and_free, matches_of, new_app, new_rule, with_rule}
use Rattle.clap.specs.declared.error.Error.{Error}
use Rattle.clap.proofs.OnLiterals.{clap_on_literals}
use Rattle.script_settings.specs.CommandLine.{flag_rule, option_rule, wfserve, with_version, matches_in, faults_in}

is_simple-wfserve : is_simple wfserve ≡ true
unfolding wfserve option_rule flag_rule clap_on_literals
is_simple-wfserve = refl

is_simple_and_free-wfserve : is_simple_and_free wfserve ≡ true
unfolding wfserve option_rule flag_rule clap_on_literals
is_simple_and_free-wfserve = refl

pub built : (a0 a1 a2 a3 a4 a5 a6 a7 a8 a9 a10 a11 a12 : App) → a0 ≡ with_version (new_app (codes "wfserve")) → a1 ≡ with_rule a0 (option_rule (codes "shards"))
    → a2 ≡ with_rule a1 (option_rule (codes "passes")) → a3 ≡ with_rule a2 (option_rule (codes "service"))
    → a4 ≡ with_rule a3 (option_rule (codes "queues")) → a5 ≡ with_rule a4 (option_rule (codes "capacity"))
    → a6 ≡ with_rule a5 (option_rule (codes "retention")) → a7 ≡ with_rule a6 (option_rule (codes "load"))
    → a8 ≡ with_rule a7 (option_rule (codes "save")) → a9 ≡ with_rule a8 (option_rule (codes "snapshot"))
    → a10 ≡ with_rule a9 (option_rule (codes "journal")) → a11 ≡ with_rule a10 (flag_rule (codes "trace"))
    → a12 ≡ with_rule a11 (new_rule (codes "FILE")) → a12 ≡ wfserve
unfolding wfserve
built a0 a1 a2 a3 a4 a5 a6 a7 a8 a9 a10 a11 a12 e0 e1 e2 e3 e4 e5 e6 e7 e8 e9 e10 e11 e12 =
    let with_option = λ (n : Text) (a : App). with_rule a (option_rule n) in
    let five = e5 ∙ ap (with_option (codes "capacity")) (e4 ∙ ap (with_option (codes "queues")) (e3 ∙ ap (with_option (codes "service")) (e2 ∙ ap (with_option (codes "passes")) (e1 ∙ ap (with_option (codes "shards")) e0)))) in
    let eight = e8 ∙ ap (with_option (codes "save")) (e7 ∙ ap (with_option (codes "load")) (e6 ∙ ap (with_option (codes "retention")) five)) in
    let ten = e10 ∙ ap (with_option (codes "journal")) (e9 ∙ ap (with_option (codes "snapshot")) eight) in
    e12 ∙ ap (λ (a : App). with_rule a (new_rule (codes "FILE"))) (e11 ∙ ap (λ (a : App). with_rule a (flag_rule (codes "trace"))) ten)

pub is_matched : {X : Type 0} (a : App) (words : List Text) (rows : List Row) → a ≡ wfserve → (is_simple a ≡ true → (rows ≡ matches_of a words) × X) → rows ≡ matches_in words
unfolding matches_in
is_matched a words rows e h = (h (ap is_simple e ∙ is_simple-wfserve)).0 ∙ ap (λ (x : App). matches_of x words) e

pub is_faulted : {T : Type 0} (a : App) (words : List Text) (result : Result T Error) → a ≡ wfserve → (is_simple_and_free a ≡ true → FailsBy (fault_of a words) result) → FailsBy (faults_in words) result
unfolding faults_in
is_faulted a words result e h = subst (λ (x : App). FailsBy (fault_of x words) result) e (h (ap is_simple_and_free e ∙ is_simple_and_free-wfserve))
