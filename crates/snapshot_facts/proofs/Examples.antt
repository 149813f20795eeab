-- states that runs come to, each restored by its facts, which pass the test one after another
use Rattle.std.proofs.Common.{ℕ, List, [], ◌∷◌, ◌++◌, Option, None, Some, false, refl}
use Rattle.wf_event.specs.declared.event.Event.{Event}
use Rattle.wf_event.specs.declared.attributes.Attributes.{Attributes}
use Rattle.wf_event.specs.declared.attributes.Attributes.TheVariants as event
use Rattle.wf_event.specs.declared.payloads.WorkflowExecutionStarted.{WorkflowExecutionStarted as StartedAttributes}
use Rattle.wf_event.specs.declared.payloads.ActivityTaskScheduled.{ActivityTaskScheduled as ScheduledAttributes}
use Rattle.wf_event.specs.Role.{role, opens, settles, closing_status}
use Rattle.wf_event_values.specs.declared.policies.CancelSource.TheVariants.{Client}
use Rattle.wf_event_values.specs.declared.policies.Status.TheVariants.{Running, TimedOut}
use Rattle.service_model_types.specs.declared.journal.NewEvent.{NewEvent}
use Rattle.service_model.specs.Pending.{Phase, IsQueued, IsRunning, IsWaiting, NoTask, IsScheduled, IsStarted}
use Rattle.service_model.specs.RunState.{RunState, ActivityRow}
use Rattle.buffered.specs.Buffers.{fires}
use Rattle.snapshot_facts.specs.Restored.{ComesBack}

-- a text of one letter
abbrev q : List ℕ
q = 113 ∷ []

abbrev e : ℕ → ℕ → Attributes → Event
e id at a = record { id = id; at = at; attributes = a }

abbrev h : ℕ → Attributes → NewEvent
h at a = record { at = at; attributes = a }

abbrev task : ℕ → Attributes
task n = event.WorkflowTaskScheduled (record { attempt = n; task_queue = q })

abbrev done : ℕ → ℕ → Attributes
done s t = event.WorkflowTaskCompleted (record { scheduled = s; started = t })

abbrev signal : Attributes
signal = event.WorkflowExecutionSignaled (record { name = q; input = [] })

abbrev timer : Attributes
timer = event.TimerStarted (record { timer_id = q; duration = 10 })

module _ (A : StartedAttributes) (F : ScheduledAttributes) where
  -- a run with nothing in use, and these after its first event
  abbrev plain_run : List Event → RunState
  plain_run es = record {
    shown = e 1 0 (event.WorkflowExecutionStarted A) ∷ es;
    held = [];
    beginning = Some (record { at = 0; attributes = A; request_id = Some q });
    status = Running;
    task = NoTask;
    signal_requests = [];
    cancel_request = None;
    activities = [];
    timers = [];
    children = [];
    signals = [];
    cancels = [];
  }

  abbrev first_task : List Event
  first_task = e 2 0 (task 1) ∷ e 3 5 (event.WorkflowTaskStarted 2) ∷ []

  -- a firing and a signal are buffered
  abbrev holding : RunState
  holding = record (plain_run (first_task ++ e 4 6 (done 2 3) ∷ e 5 6 timer ∷ e 6 7 (task 1) ∷ e 7 8 (event.WorkflowTaskStarted 6) ∷ [])) {
    held = h 16 (event.TimerFired (record { timer_id = q; started = 5 })) ∷ h 17 signal ∷ [];
    task = IsStarted;
    signal_requests = q ∷ [];
    timers = e 5 6 timer ∷ [];
  }

  pub holding-restored : ComesBack holding
  unfolding role opens settles closing_status fires
  holding-restored = (refl, refl)

  -- the firing was canceled, and the signal written, whose moment is before
  abbrev canceled : RunState
  canceled = record (plain_run (first_task ++ e 4 6 (done 2 3) ∷ e 5 6 timer ∷ e 6 7 (task 1) ∷ e 7 8 (event.WorkflowTaskStarted 6) ∷ e 8 20 (done 6 7) ∷ e 9 20 (event.TimerCanceled (record { timer_id = q; started = 5 })) ∷ e 10 17 signal ∷ e 11 20 (task 1) ∷ [])) {
    task = IsScheduled;
    signal_requests = q ∷ [];
  }

  pub canceled-restored : ComesBack canceled
  unfolding role opens settles closing_status fires
  canceled-restored = (refl, refl)

  -- the run timed out while its task was started: what was buffered was written before the closing event
  abbrev timed_out : RunState
  timed_out = record (plain_run (first_task ++ e 4 7 signal ∷ e 5 100 event.WorkflowExecutionTimedOut ∷ [])) {
    status = TimedOut;
    signal_requests = q ∷ [];
  }

  pub timed_out-restored : ComesBack timed_out
  unfolding role opens settles closing_status fires
  timed_out-restored = (refl, refl)

  -- a run with one activity in use
  abbrev with_activity : ActivityRow → List Event → RunState
  with_activity r es = record (plain_run (first_task ++ e 4 6 (done 2 3) ∷ e 5 6 (event.ActivityTaskScheduled F) ∷ es)) { activities = r ∷ [] }

  abbrev row : Phase → ℕ → Option ℕ → Option ℕ → Option ℕ → Option ℕ → Option (List ℕ) → ActivityRow
  row phase attempt ready taken sign ended details = record {
    opened = e 5 6 (event.ActivityTaskScheduled F);
    phase = phase;
    attempt = attempt;
    ready = ready;
    taken = taken;
    sign_of_life = sign;
    ended = ended;
    details = details;
    cancel_requested = false;
  }

  pub queued-restored : ComesBack (with_activity (row IsQueued 1 None None None None None) [])
  unfolding role opens settles closing_status fires
  queued-restored = (refl, refl)

  -- the third attempt is running, after a heartbeat
  pub running-restored : ComesBack (with_activity (row IsRunning 3 (Some 2500) (Some 2600) (Some 2700) (Some 1500) (Some q)) [])
  unfolding role opens settles closing_status fires
  running-restored = (refl, refl)

  -- it was taken after the heartbeat of the attempt before
  pub taken-restored : ComesBack (with_activity (row IsRunning 2 (Some 2500) (Some 2600) (Some 2600) (Some 1500) (Some q)) [])
  unfolding role opens settles closing_status fires
  taken-restored = (refl, refl)

  -- the third attempt waits to be tried, and one waits in its queue
  pub waiting-restored : ComesBack (with_activity (row IsWaiting 3 (Some 1100) (Some 1150) (Some 1160) (Some 1200) (Some q)) [])
  unfolding role opens settles closing_status fires
  waiting-restored = (refl, refl)

  pub ready-restored : ComesBack (with_activity (row IsQueued 3 (Some 3200) (Some 1150) (Some 1150) (Some 1200) None) [])
  unfolding role opens settles closing_status fires
  ready-restored = (refl, refl)

  -- the end of the activity is buffered while a task is started
  abbrev ending : RunState
  ending = record (with_activity (row IsRunning 1 None (Some 9) (Some 9) None None) (e 6 7 signal ∷ e 7 7 (task 1) ∷ e 8 8 (event.WorkflowTaskStarted 7) ∷ [])) {
    held = h 100 (event.ActivityTaskStarted (record { scheduled = 5; attempt = 1; taken = 9 })) ∷ h 100 (event.ActivityTaskCompleted (record { scheduled = 5; result_text = q })) ∷ [];
    task = IsStarted;
  }

  pub ending-restored : ComesBack ending
  unfolding role opens settles closing_status fires
  ending-restored = (refl, refl)

  -- a client asked the run to cancel
  abbrev asked : RunState
  asked = record (plain_run (e 2 0 (task 1) ∷ e 3 2 (event.WorkflowExecutionCancelRequested Client) ∷ [])) {
    task = IsScheduled;
    cancel_request = Some (record { by_whom = Client; request_id = Some q });
  }

  pub asked-restored : ComesBack asked
  unfolding role opens settles closing_status fires
  asked-restored = (refl, refl)
