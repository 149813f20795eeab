use Rattle.std.proofs.Common.{◌∙◌, ◌++◌, sym, ap}
use Rattle.std.specs.Prelude.{option_map}
use Rattle.wf_event_values.specs.declared.policies.DeadlineClass.TheVariants.{RunTimeout}
use Rattle.service_model.specs.Deadlines.{deadline_dues, due_after}
use Rattle.timeouts.specs.Firsts.{first_of}
use Rattle.timeouts.specs.Slots.{run_due, lesser_of_two}
use Rattle.timeouts.proofs.FirstLemmas.{first_of-append}
use Rattle.mutable_state.specs.Dues.{task_dues}
use Rattle.mutable_state.proofs.dues.first_own_due.Goals as goal

pub returns : goal.returns
returns c =
    let a = c.args.started.now in
    let n = c.args.ordinal in
    let whole = deadline_dues a.execution_deadline in
    let run = due_after c.args.begun a.run_timeout RunTimeout 1 in
    let both = c.first_of_two.ensures.value
    ∙ ap (λ o. lesser_of_two o (option_map run_due c.due_after-run.result)) c.execution_due.ensures
    ∙ ap (lesser_of_two (first_of n whole)) c.due_after-run.ensures
    ∙ sym (first_of-append n whole run) in
    c.first_of_two-2.ensures.value
    ∙ ap (λ o. lesser_of_two o (option_map run_due c.task_due-task.result)) both
    ∙ ap (lesser_of_two (first_of n (whole ++ run))) c.task_due-task.ensures
    ∙ sym (first_of-append n (whole ++ run) (task_dues a c.args.task))
