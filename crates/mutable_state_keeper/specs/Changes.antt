-- PROOF: what a step's change does to a run's state
use Rattle.std.specs.Prelude.{◌≡◌, false}
use Rattle.service_model.specs.Pending.{NoTask}
use Rattle.service_model.specs.RunState.{RunState, is_open}
use Rattle.mutable_state.specs.declared.change.StepFacts.{StepFacts}
use Rattle.mutable_state.specs.Steps.{after_step, FitStep}

-- the state after the facts of a change
abbrev pub after_change : StepFacts → RunState → RunState
after_change c s = after_step c.moment c.facts s

-- the facts of a change may come next
abbrev pub MayCome : StepFacts → RunState → Type 0
MayCome c s = FitStep c.moment s c.facts

-- a run that has closed has no workflow task
abbrev pub HasNoTaskOnceClosed : RunState → Type 0
HasNoTaskOnceClosed s = is_open s ≡ false → s.task ≡ NoTask
