use Rattle.std.proofs.Common.{◌∙◌, sym, ap, true, Some}
use Rattle.std.specs.Prelude.{string_bytes}
use Rattle.std.specs.Option.{option_copied}
use Rattle.std.proofs.lemmas.Map.Text.{hash_set_updates_text}
use Rattle.indexmap.specs.IndexSet.{contains_text}
use Rattle.task_completion.proofs.NameLemmas.{covers-unnamed, covers-kept, covers-named}
use Rattle.task_completion.proofs.named.add_name.Goals as goal

pub returns-in_default-clause-more : goal.returns-in_default-clause-more
returns-in_default-clause-more c = λ rows h. covers-unnamed (contains_text c.args.names.now) rows c.args.row.now (sym c.name.ensures ∙ ap (λ o. option_copied o) c.in_default.is) h

pub returns-clause-kept : goal.returns-clause-kept
returns-clause-kept c = λ rows h.
    let text = string_bytes c.into_string.result in
    let adds = hash_set_updates_text text c.args.names.now c.insert.new.self true c.in_ok-insert.ensures.updates in
    covers-kept (contains_text c.insert.new.self) (contains_text c.args.names.now) text rows adds h

pub returns-clause-more : goal.returns-clause-more
returns-clause-more c = λ rows h.
    let text = string_bytes c.into_string.result in
    let adds = hash_set_updates_text text c.args.names.now c.insert.new.self true c.in_ok-insert.ensures.updates in
    let named = sym c.name.ensures ∙ ap (λ o. option_copied o) c.in-Some.is ∙ ap (λ n. Some n) (sym (c.into_string.ensures ∙ c.in_ok-clone.ensures.cases)) in
    covers-named (contains_text c.insert.new.self) (contains_text c.args.names.now) text rows c.args.row.now adds named h
