use Rattle.std.proofs.Common.{rules, ◌≡◌, ◌∙◌, ap, not, filter, ◌==◌, Bool}
use Rattle.std.specs.Prelude.{option_map}
use Rattle.std.proofs.lemmas.Fn.{filter_same}
use Rattle.indexmap.specs.IndexSet.{contains_text}
use Rattle.mutable_state.specs.Readers.{UsedRow}
use Rattle.task_completion.proofs.NameLemmas.{covered-fewer}
use Rattle.task_completion.proofs.named.NamedRows.remove.Goals as goal

pub invariant_of-self : goal.invariant_of-self
invariant_of-self c =
    let q : UsedRow → Bool = λ r. not (r.event == c.args.event) in
    let rows = c.self.inside.rows.items in
    let kept : c.retain.new.self.items ≡ filter q rows = filter_same _ q _ (λ x b p h. search rules) _ _ c.retain.ensures.filtered in
    covered-fewer (option_map (λ s. contains_text s) c.self.inside.names) q rows c.retain.new.self.items kept c.self.invariant

pub returns : goal.returns
returns c =
    let q : UsedRow → Bool = λ r. not (r.event == c.args.event) in
    let kept : c.retain.new.self.items ≡ filter q c.self.inside.rows.items = filter_same _ q _ (λ x b p h. search rules) _ _ c.retain.ensures.filtered in
    kept ∙ ap (filter q) c.self.view_is
