use Rattle.std.proofs.Common.{◌∙◌, sym, ap}
use Rattle.mutable_state.specs.Rooms.{task_behind}
use Rattle.mutable_state.specs.Tasks.{task_turned}
use Rattle.mutable_state.specs.declared.task.WorkflowTask.{WorkflowTask}
use Rattle.mutable_state.proofs.TaskLemmas.{phase-turned}
use Rattle.mutable_state.proofs.rooms.behind.Goals as goal

pub returns-in-Event : goal.returns-in-Event
returns-in-Event c =
    ap (λ (t : WorkflowTask). t.phase) (c.turned.ensures ∙ ap (λ t. task_turned t 0 c.zero.result c.args.task) c.turn_of.ensures)
    ∙ phase-turned c.in-Event.event.attributes 0 c.zero.result c.args.task
    ∙ ap (λ f. task_behind f c.args.task.phase) (sym c.in-Event.is)
