-- PROOF: the attempt of an activity that a hint or a token names
use Rattle.std.specs.Prelude.{ℕ, ◌<◌, Bool, if◌then◌else◌, ◌&&◌, ◌==◌, List, Option, None, Some}
use Rattle.wf_event.specs.declared.attributes.Attributes.{Attributes}
use Rattle.wf_event.specs.declared.attributes.Attributes.TheVariants.{ActivityTaskCompleted, ActivityTaskFailed, ActivityTaskTimedOut, ActivityTaskCanceled}
use Rattle.wf_event.specs.declared.payloads.ActivityTaskScheduled.{ActivityTaskScheduled as ScheduledAttributes}
use Rattle.wf_event_values.specs.Run.{Run}
use Rattle.service_model_types.specs.declared.answer.ActivityTask.{ActivityTask}
use Rattle.service_model_types.specs.declared.request.WaitingTask.{WaitingTask}
use Rattle.service_model.specs.Completion.{is_running_phase}
use Rattle.service_model.specs.Deadlines.{scheduled_fields}
use Rattle.service_model.specs.Outcome.{Runs, has_run, run_at, run_id}
use Rattle.service_model.specs.Retry.{Verdict, GivesUp, RetriesAt}
use Rattle.service_model.specs.RunState.{ActivityRow, id_of}
use Rattle.service_model.specs.Tasks.{is_queued}

abbrev pub waits_at : ℕ → ActivityRow → Bool
waits_at attempt r = is_queued r.phase && (r.attempt == attempt)

-- the task of an attempt, where it waits
abbrev pub task_by : WaitingTask → Run → List ℕ → ActivityRow → Option ScheduledAttributes → Option ActivityTask
task_by h run id r None = None
task_by h run id r (Some a) =
    if waits_at h.attempt r then
    Some (record {
      activity_id = a.activity_id;
      activity_type = a.activity_type;
      attempt = h.attempt;
      details = r.details;
      input = a.input;
      run = run;
      scheduled = h.event;
      workflow_id = id;
    })
    else None

abbrev pub task_of : WaitingTask → Run → List ℕ → ActivityRow → Option ActivityTask
task_of h run id r = task_by h run id r (scheduled_fields r.opened.attributes)

-- the task of a pending activity's attempt, where it waits
abbrev pub task_for : Runs → WaitingTask → Option ActivityRow → Option ActivityTask
task_for R h None = None
task_for R h (Some r) = task_of h (run_id R.setup h.run) (id_of (run_at R h.run)) r

-- whether the shard of this number is this one, and has the run of that ordinal
abbrev pub has_run_of : Runs → ℕ → ℕ → Bool
has_run_of R shard run = (shard == R.setup.shard) && has_run R run

-- whether a worker has the attempt of this number
abbrev pub runs_at : ℕ → ActivityRow → Bool
runs_at attempt r = is_running_phase r.phase && (r.attempt == attempt)

-- which activity an event ends
abbrev pub ended_activity : Attributes → Option ℕ
ended_activity (ActivityTaskCompleted a) = Some a.scheduled
ended_activity (ActivityTaskFailed a) = Some a.scheduled
ended_activity (ActivityTaskTimedOut a) = Some a.scheduled
ended_activity (ActivityTaskCanceled a) = Some a.scheduled
ended_activity _ = None

-- no attempt follows the one of the last number
abbrev pub HasNext : ℕ → Verdict → Type 0
HasNext attempt (GivesUp state) = Unit {0}
HasNext attempt (RetriesAt ready) = attempt < 4294967295
