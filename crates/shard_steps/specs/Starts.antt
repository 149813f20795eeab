-- PROOF: how the runs begin that steps make
use Rattle.std.specs.Prelude.{◌≡◌, ℕ, List, ◌∷◌, [], None}
use Rattle.wf_event.specs.declared.attributes.Attributes.TheVariants.{WorkflowExecutionStarted}
use Rattle.wf_event.specs.declared.payloads.WorkflowExecutionStarted.{WorkflowExecutionStarted as StartedAttributes}
use Rattle.service_model_types.specs.declared.journal.Fact.{Fact}
use Rattle.service_model_types.specs.declared.request.SignalWithStart.{SignalWithStart}
use Rattle.service_model_types.specs.declared.request.Start.{Start}
use Rattle.service_model.specs.Outcome.{made_by}
use Rattle.service_model_types.specs.Limits.{used_task_timeout}
use Rattle.service_model.specs.RunState.{RunState}
use Rattle.service_model.specs.Signals.{signal_fact, start_in}
use Rattle.service_model.specs.Starts.{deadline_of, first_task}
use Rattle.mutable_state.specs.Steps.{begun, after_step, Place, FitFrom}
use Rattle.service_model.specs.Issued.{readied}
use Rattle.shard_steps.specs.declared.starts.Beginning.{Beginning}

-- what a start writes first in a run that is made at that moment
abbrev pub started_by : ℕ → Start → StartedAttributes
started_by moment q = record {
  workflow_id = q.workflow_id;
  workflow_type = q.workflow_type;
  task_queue = q.task_queue;
  input = q.input;
  run_timeout = q.run_timeout;
  task_timeout = used_task_timeout q.task_timeout;
  continued_from = None;
  parent = None;
  execution_deadline = deadline_of moment q.execution_timeout;
}

-- how the run of a start begins
abbrev pub beginning_of : ℕ → Start → Beginning
beginning_of moment q = record { started = started_by moment q; request_id = q.request_id; facts = first_task q.task_queue ∷ [] }

-- how a run begins that is signaled
abbrev pub signaled_beginning : ℕ → SignalWithStart → Beginning
signaled_beginning moment q = record {
  started = started_by moment (start_in q);
  request_id = q.request_id;
  facts = signal_fact q.request_id q.name q.signal_input ∷ first_task q.task_queue ∷ [];
}

-- all that the first step adds to a run that begins so
abbrev pub first_facts : Beginning → List Fact
first_facts b = made_by b.request_id (WorkflowExecutionStarted b.started) ∷ b.facts

-- the state of a run that began so
abbrev pub new_run : ℕ → Beginning → RunState
new_run at b = after_step at b.facts (begun at b.request_id b.started)

-- what follows the first event may come, and queues no attempt
pub record MayBegin (at : ℕ) (b : Beginning) : Type 0 where
  pub fits : (p : Place) → FitFrom p at (begun at b.request_id b.started) b.facts
  pub queues_none : readied b.facts ≡ None
