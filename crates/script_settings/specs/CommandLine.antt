-- MEANING: The command line, as clap's definitions read it.
use Rattle.std.specs.Prelude.{◌≡◌, ℕ, ◌^◌, ◌<◌, Bool, false, true, List, codes, nat_eq, Some}
use Rattle.std.specs.Cmp.Lexicographic.{pointwise}
use Rattle.std.specs.Option.{MatchOption, option_map_or}
use Rattle.std.specs.Str.Parse.{IsNumeral, digits_value, without_leading_plus}
use Rattle.clap.specs.Words.{App, Kinds, Row, Rule, Text, fault_of, first_of, matches_of, new_app, new_rule, with_rule}
use Rattle.clap.specs.declared.builder.action.ArgAction.TheVariants.{SetTrue}

-- an option with a value
unfoldable pub option_rule : Text → Rule
option_rule name = record (new_rule name) { long = Some name }

-- an option without a value
unfoldable pub flag_rule : Text → Rule
flag_rule name = record (option_rule name) { action = Some SetTrue }

-- with `--version`, which is a flag of clap's own
abbrev pub with_version : App → App
with_version command = record command { top = record (command.top) { has_version = true } }

-- wfserve [--shards N] [--passes P] [--service K] [--queues NAMES] [--capacity C] [--retention MS] [--load DIR]
-- [--save DIR] [--snapshot DIR] [--journal DIR] [--trace] [--version] [FILE]
unfoldable pub wfserve : App
wfserve =
    let command = with_version (new_app (codes "wfserve")) in
    let command = with_rule command (option_rule (codes "shards")) in
    let command = with_rule command (option_rule (codes "passes")) in
    let command = with_rule command (option_rule (codes "service")) in
    let command = with_rule command (option_rule (codes "queues")) in
    let command = with_rule command (option_rule (codes "capacity")) in
    let command = with_rule command (option_rule (codes "retention")) in
    let command = with_rule command (option_rule (codes "load")) in
    let command = with_rule command (option_rule (codes "save")) in
    let command = with_rule command (option_rule (codes "snapshot")) in
    let command = with_rule command (option_rule (codes "journal")) in
    let command = with_rule command (flag_rule (codes "trace")) in
    with_rule command (new_rule (codes "FILE"))

-- clap's matches of the words
unfoldable pub matches_in : List Text → List Row
matches_in words = matches_of wfserve words

-- the kinds of fault that clap may find in the words; none where it takes them
unfoldable pub faults_in : List Text → Kinds
faults_in words = fault_of wfserve words

-- the text writes a number of 64 bits in decimal digits, a plus before them or not
abbrev pub IsNumber : Text → Type 0
IsNumber text = IsNumeral 10 (without_leading_plus text) × (digits_value 10 (without_leading_plus text) < 2 ^ 64)

-- the number that the text writes
abbrev pub number_in : Text → ℕ
number_in text = digits_value 10 (without_leading_plus text)

-- the number is the one given to the option, or the default where none was given
abbrev pub IsSetTo : ℕ → Text → List Row → ℕ → Type 0
IsSetTo default name rows number = MatchOption (first_of name rows) (number ≡ default) (λ text. IsNumber text × (number ≡ number_in text))

-- a text was given to the option, and it writes no number
abbrev pub HasNoNumber : Text → List Row → Type 0
HasNoNumber name rows = MatchOption (first_of name rows) ⊥ (λ text. ¬ (IsNumber text))

-- whether an option without a value was given: clap's value of it is `true` then
abbrev pub is_set : Text → List Row → Bool
is_set name rows = option_map_or (λ text. pointwise nat_eq text (codes "true")) (first_of name rows) false
