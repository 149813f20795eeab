use Rattle.std.proofs.Common.{◌∙◌, sym, ap}
use Rattle.std.specs.Prelude.{option_map}
use Rattle.timeouts.specs.Firsts.{first_of}
use Rattle.timeouts.specs.Slots.{run_due, lesser_of_two}
use Rattle.timeouts.proofs.FirstLemmas.{first_of-append}
use Rattle.mutable_state.specs.Dues.{kept_dues, kept_activity_dues}
use Rattle.mutable_state.proofs.FirstLemmas.{named-first}
use Rattle.mutable_state.proofs.dues.first_row_due.Goals as goal

pub returns-clause-value : goal.returns-clause-value
returns-clause-value c =
    let es = c.args.history.now.lists.events in
    let o = c.args.row.now in
    c.first_of_two.ensures.value
    ∙ ap (λ x. lesser_of_two x (option_map run_due c.kept_due.result)) c.kept_activity_due.ensures
    ∙ ap (lesser_of_two (first_of 0 (kept_activity_dues es o))) c.kept_due.ensures
    ∙ sym (first_of-append 0 (kept_activity_dues es o) (kept_dues es o))

pub returns-clause-named : goal.returns-clause-named
returns-clause-named c =
    let es = c.args.history.now.lists.events in
    let o = c.args.row.now in
    named-first es o c.first_of_two.result
    (c.first_of_two.ensures.value
    ∙ ap (λ x. lesser_of_two x (option_map run_due c.kept_due.result)) c.kept_activity_due.ensures
    ∙ ap (lesser_of_two (first_of 0 (kept_activity_dues es o))) c.kept_due.ensures
    ∙ sym (first_of-append 0 (kept_activity_dues es o) (kept_dues es o)))
