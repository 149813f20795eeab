-- the start of a workflow task, and the tasks that hints and tokens name
use Rattle.std.proofs.Common.{◌≡◌, ℕ, Bool, true, false, ◌&&◌, [], ◌∷◌, refl}
use Rattle.wf_event.specs.declared.attributes.Attributes.TheVariants.{WorkflowTaskStarted}
use Rattle.wf_event.specs.Role.{role, opens, settles}
use Rattle.service_model_types.specs.declared.request.WaitingTask.{WaitingTask}
use Rattle.service_model_types.specs.declared.request.TakenTask.{TakenTask}
use Rattle.service_model.specs.Journal.{plain}
use Rattle.service_model.specs.Outcome.{Runs, run_at}
use Rattle.service_model.specs.Pending.{Task, NoTask, IsScheduled, IsStarted}
use Rattle.service_model.specs.RunState.{RunState, is_open}
use Rattle.service_model.specs.Tasks.{is_scheduled_task, is_started_task, is_last_task, waits_workflow, runs_workflow}
use Rattle.mutable_state.specs.Steps.{FitStep}

pub and-left : (a b : Bool) → (a && b) ≡ true → a ≡ true
and-left true b h = refl
and-left false b h = absurd (cc)

pub and-right : (a b : Bool) → (a && b) ≡ true → b ≡ true
and-right true b h = h
and-right false b h = absurd (cc)

is-scheduled : (t : Task) → is_scheduled_task t ≡ true → t ≡ IsScheduled
is-scheduled IsScheduled h = refl
is-scheduled NoTask h = absurd (cc)
is-scheduled IsStarted h = absurd (cc)

is-started : (t : Task) → is_started_task t ≡ true → t ≡ IsStarted
is-started IsStarted h = refl
is-started NoTask h = absurd (cc)
is-started IsScheduled h = absurd (cc)

-- the task that waits is scheduled
pub waiting-scheduled : (R : Runs) (h : WaitingTask) → waits_workflow R h ≡ true → (run_at R h.run).task ≡ IsScheduled
waiting-scheduled R h waits = is-scheduled (run_at R h.run).task (and-right _ (is_scheduled_task (run_at R h.run).task) (and-left _ (is_last_task (run_at R h.run) h.event h.attempt) waits))

-- the task that runs is started
pub running-started : (R : Runs) (t : TakenTask) → runs_workflow R t ≡ true → (run_at R t.run).task ≡ IsStarted
running-started R t runs = is-started (run_at R t.run).task (and-right _ (is_started_task (run_at R t.run).task) (and-left _ (is_last_task (run_at R t.run) t.event t.attempt) runs))

-- the start of a scheduled task may come
pub take-fits : (at scheduled : ℕ) (s : RunState) → is_open s ≡ true → s.task ≡ IsScheduled → FitStep at s (plain (WorkflowTaskStarted scheduled) ∷ [])
unfolding role opens settles
take-fits at scheduled s opened task = (record { open_run = opened; fits_role = (task, tt, refl); begins_none = refl; may_settle = tt; may_ask = refl; first_signal = refl }, tt)
