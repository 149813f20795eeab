use Rattle.std.proofs.Common.{◌∙◌, ap}
use Rattle.wf_event_values.specs.declared.policies.DeadlineClass.TheVariants.{ScheduleToStart}
use Rattle.service_model.specs.Deadlines.{due_after}
use Rattle.timeouts.specs.Firsts.{first_of}
use Rattle.mutable_state.proofs.dues.queued_due.Goals as goal

pub returns : goal.returns
returns c =
    c.due_after.ensures
    ∙ ap (λ m. first_of c.args.ordinal (due_after m c.args.activity.now.schedule_to_start ScheduleToStart c.args.event.now.id)) c.unwrap_or-since.ensures
