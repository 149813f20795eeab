use Rattle.std.proofs.Common.{◌∙◌, sym, ap, subst}
use Rattle.std.specs.Prelude.{option_map}
use Rattle.indexmap.specs.IndexSet.{contains_text}
use Rattle.task_completion.specs.Judging.{event_named}
use Rattle.task_completion.specs.NameCovers.{Covers, Covered}
use Rattle.task_completion.proofs.NameLemmas.{was-not}
use Rattle.task_completion.proofs.named.NamedRows.is_free.Goals as goal

pub returns-in-Some : goal.returns-in-Some
returns-in-Some c = λ free.
    let rows = c.self.inside.rows.items in
    let covers : Covers (contains_text c.in-Some.names) rows = subst (λ o. Covered (option_map (λ s. contains_text s) o) rows) c.in-Some.is c.self.invariant in
    let found = c.contains.ensures ∙ ap (contains_text c.in-Some.names) c.as_str.ensures.value in
    ap (event_named c.args.name.now) (sym c.self.view_is) ∙ covers c.args.name.now (sym found ∙ was-not c.contains.result free)
