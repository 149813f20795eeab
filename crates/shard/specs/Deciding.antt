-- PROOF: what each request does to a shard, by what is known of it
use Rattle.std.specs.Prelude.{ℕ, ◌∷◌, [], List, Option, unwrap_or}
use Rattle.service_model_types.specs.declared.journal.Fact.{Fact}
use Rattle.service_model_types.specs.declared.request.SignalWithStart.{SignalWithStart}
use Rattle.service_model_types.specs.declared.request.Start.{Start}
use Rattle.service_model_types.specs.declared.request.Operation.{Operation}
use Rattle.service_model.specs.Outcome.{Outcome, Runs, latest_run}
use Rattle.service_model.specs.Service.{Issues, outcome_of}
use Rattle.service_model.specs.Starts.{started_fact, first_task, decision, by_decision}
use Rattle.service_model.specs.Signals.{signal_fact, start_in}
use Rattle.shard_issued.specs.Issuing.{next_waiting, count_waiting}
use Rattle.shard_issued.specs.Sending.{count_to, next_to}
use Rattle.shard_store.specs.ShardView.{ShardState}

-- what a start of a known queue does, by the workflow ID's latest run
abbrev pub decided_by : Runs → Start → Option ℕ → Outcome
decided_by R q latest_one =
    by_decision R (unwrap_or latest_one 0) (started_fact R.moment q ∷ first_task q.task_queue ∷ []) (decision R q latest_one)

abbrev pub decided : Runs → Start → Outcome
decided R q = decided_by R q (latest_run R.states q.workflow_id)

-- what a start with a signal writes in a new run
abbrev pub signaled_facts : ℕ → SignalWithStart → List Fact
signaled_facts moment q = started_fact moment (start_in q) ∷ signal_fact q.request_id q.name q.signal_input ∷ first_task q.task_queue ∷ []

-- what it does where the workflow ID has no open run, by the latest one
abbrev pub signaled_by : Runs → SignalWithStart → Option ℕ → Outcome
signaled_by R q latest_one = by_decision R (unwrap_or latest_one 0) (signaled_facts R.moment q) (decision R (start_in q) latest_one)

-- what requests are decided on at the step's moment
abbrev pub runs_known : ShardState → ℕ → Runs
runs_known s at = record { setup = s.setup; moment = at; states = s.runs }

-- how what waits of what it issued is read and counted
abbrev pub issues_known : ShardState → Issues
issues_known s = record {
  next_transfer = next_to s.setup s.outgoing;
  acknowledge = count_to s.setup s.outgoing;
  next_dispatch = next_waiting s.waiting;
  dispatched = count_waiting s.waiting;
}

-- what an operation does to a shard of which this is known, at the step's moment
abbrev pub outcome_in : ShardState → ℕ → Operation → Outcome
outcome_in s at o = outcome_of (runs_known s at) s.accepted (issues_known s) o
