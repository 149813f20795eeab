use Rattle.std.proofs.Common.{◌≡◌, Some, option_map, sym, ap, ◌∙◌, rules}
use Rattle.json.specs.Json as json
use Rattle.json.specs.Reads.{token_of}
use Rattle.serde_json.specs.Data as tree
use Rattle.wire_trees.specs.Borrowed.{data_of}
use Rattle.wire_trees.specs.Reading.{scalar_of}
use Rattle.wire_trees.specs.declared.borrowed.BorrowedValue.{Text, Number, Truth, Null, the_lemmas}
use Rattle.wire_trees.proofs.reading.scalar.Goals as goal

pub returns-in-String : goal.returns-in-String
returns-in-String c =
    let seen : data_of (Text c.in-String.text) ≡ tree.string c.in-String.text.now = search (rules, the_lemmas) in
    (json.string c.in-String.text.now, ap (λ t. scalar_of (token_of t)) c.in-String.is, ap Some (sym seen))

pub returns-in-Some : goal.returns-in-Some
returns-in-Some c =
    let seen : data_of (Number c.in-Some.number) ≡ tree.number (tree.unsigned c.in-Some.number) = search (rules, the_lemmas) in
    (json.number c.in-Number.text.now, ap (λ t. scalar_of (token_of t)) c.in-Number.is, ap (option_map tree.number) c.in-Some.ensures ∙ ap Some (sym seen))

pub returns-in-Bool : goal.returns-in-Bool
returns-in-Bool c =
    let seen : data_of (Truth c.in-Bool.truth) ≡ tree.boolean c.in-Bool.truth = search (rules, the_lemmas) in
    (json.boolean c.in-Bool.truth, ap (λ t. scalar_of (token_of t)) c.in-Bool.is, ap Some (sym seen))

pub returns-in-Null : goal.returns-in-Null
returns-in-Null c =
    let seen : data_of Null ≡ tree.null = search (rules, the_lemmas) in
    (json.null, ap (λ t. scalar_of (token_of t)) c.in-Null.is, ap Some (sym seen))
