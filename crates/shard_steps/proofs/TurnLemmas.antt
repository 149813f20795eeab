-- what a deadline that fires adds to its run may come
use Rattle.std.proofs.Common.{◌≡◌, ℕ, zero, suc, Bool, true, false, ◌==◌, ◌||◌, cond, List, [], ◌∷◌, refl, sym, ap, ◌∙◌, arith, Some, None}
use Rattle.std.proofs.lemmas.Bool.Decides.{nat_tests}
use Rattle.std.specs.Prelude.{slice_get, unwrap_or}
use Rattle.wf_event.specs.declared.event.Event.{Event}
use Rattle.wf_event.specs.declared.attributes.Attributes.TheVariants.{WorkflowExecutionTimedOut, TimerFired}
use Rattle.wf_event.specs.declared.role.Class.TheVariants.{Timer}
use Rattle.wf_event.specs.Role.{role, opens, settles, closing_status}
use Rattle.wf_event_values.specs.declared.policies.DeadlineClass.{DeadlineClass}
use Rattle.wf_event_values.specs.declared.policies.DeadlineClass.TheVariants.{ExecutionTimeout, RunTimeout, WorkflowTask, ScheduleToClose, ScheduleToStart, Heartbeat, StartToClose, RetryReady, UserTimer, Retention}
use Rattle.wf_event_values.specs.declared.policies.TimeoutKind.TheVariants.{ScheduleToClose as ToClose, ScheduleToStart as ToStart, Heartbeat as NoHeartbeat, StartToClose as ToEnd}
use Rattle.service_model_types.specs.declared.journal.Fact.{Fact}
use Rattle.service_model.specs.Deadlines.{dues}
use Rattle.service_model.specs.Journal.{plain}
use Rattle.service_model.specs.Outcome.{is_no_task, schedule_task}
use Rattle.service_model.specs.Pending.{Task, NoTask, IsScheduled, IsStarted}
use Rattle.service_model.specs.RunState.{RunState, is_open, pending}
use Rattle.service_model.specs.Tasks.{pending_row}
use Rattle.service_model.specs.TimerTurns.{RunDue, fire, is_retention, timer_name}
use Rattle.mutable_state.specs.Steps.{IsFirst, FitsEvent, FitStep, has_id}
use Rattle.timeouts.specs.Firsts.{of_run, HasTimer}
use Rattle.timeouts.specs.Slots.{IsOneOf}
use Rattle.timeouts.proofs.ClassLemmas.{due-open, due-retry, due-task, due-timer}
use Rattle.shard_steps.proofs.ActivityTurnLemmas.{attempt-fits, closed-fits, ready-fits}

-- the run's own timeout, also while a workflow task is started
over-fits : (at retention : ℕ) (s : RunState) (d : RunDue) → is_retention d.at.class ≡ false → IsOneOf d (of_run d.run (dues retention s)) → FitStep at s (plain WorkflowExecutionTimedOut ∷ [])
unfolding role opens settles
over-fits at retention s d class is = (record { open_run = due-open retention s d.run d class is; fits_role = (tt, refl); begins_none = refl; may_settle = tt; may_ask = refl; first_signal = refl }, tt)

-- the timeout of a started workflow task, and its next attempt
task-fits : (at retention : ℕ) (s : RunState) (d : RunDue) → d.at.class ≡ WorkflowTask → IsOneOf d (of_run d.run (dues retention s)) → FitStep at s (fire s at d.at.event WorkflowTask)
unfolding role opens settles fire closing_status
task-fits at retention s d class is =
    let opened = due-open retention s d.run d (ap is_retention class) is in (
      record { open_run = opened; fits_role = (due-task retention s d.run d class is, tt); begins_none = refl; may_settle = tt; may_ask = refl; first_signal = refl },
      (record { open_run = opened; fits_role = (refl, refl); begins_none = refl; may_settle = tt; may_ask = refl; first_signal = refl }, tt),
    )

has-at : (es : List Event) (k : ℕ) (e : Event) → slice_get es k ≡ Some e → has_id e.id es ≡ true
has-at [] k e there = absurd (cc)
has-at (x ∷ es) zero e there = ap (λ (y : Event). has_id y.id (x ∷ es)) (sym (ap (λ o. unwrap_or o x) there)) ∙ ap (λ b. b || has_id x.id es) (itself x.id)
  where
    itself : (n : ℕ) → (n == n) ≡ true
    itself n = grind (arith, nat_tests)
has-at (x ∷ es) (suc k) e there = by_test (x.id == e.id) (has-at es k e there)
  where
    by_test : (b : Bool) → has_id e.id es ≡ true → (b || has_id e.id es) ≡ true
    by_test true rest = refl
    by_test false rest = rest

-- the firing of a pending timer, and a workflow task where there is none
timer-fits : (at retention : ℕ) (s : RunState) (d : RunDue) → d.at.class ≡ UserTimer → IsOneOf d (of_run d.run (dues retention s)) → FitStep at s (fire s at d.at.event UserTimer)
unfolding role opens settles fire closing_status
timer-fits at retention s d class is = by_task s.task refl
  where
    opened : is_open s ≡ true
    opened = due-open retention s d.run d (ap is_retention class) is

    has : HasTimer s d.at.event
    has = due-timer retention s d.run d class is

    pending_one : has_id d.at.event (pending Timer s) ≡ true
    pending_one = ap (λ n. has_id n (pending Timer s)) (sym has.named) ∙ has-at (pending Timer s) has.place has.event has.there

    now : (more : List Fact) → FitsEvent IsFirst s None (TimerFired (record { timer_id = timer_name s d.at.event; started = d.at.event })) more
    now more = record { open_run = opened; fits_role = tt; begins_none = refl; may_settle = pending_one; may_ask = refl; first_signal = refl }

    by_task : (t : Task) → s.task ≡ t → FitStep at s (plain (TimerFired (record { timer_id = timer_name s d.at.event; started = d.at.event })) ∷ cond (is_no_task t) (plain (schedule_task s 1) ∷ []) [])
    by_task NoTask same = (now (plain (schedule_task s 1) ∷ []), (record { open_run = opened; fits_role = (same, refl); begins_none = refl; may_settle = tt; may_ask = refl; first_signal = refl }, tt))
    by_task IsScheduled same = (now [], tt)
    by_task IsStarted same = (now [], tt)

-- whatever the deadline, where it is one of the run's
pub fire-fits : (at retention : ℕ) (s : RunState) (d : RunDue) → IsOneOf d (of_run d.run (dues retention s)) → FitStep at s (fire s at d.at.event d.at.class)
unfolding fire
fire-fits at retention s d is = by_class d.at.class refl
  where
    opened : (k : DeadlineClass) → d.at.class ≡ k → is_retention k ≡ false → is_open s ≡ true
    opened k class other = due-open retention s d.run d (ap is_retention class ∙ other) is

    by_class : (k : DeadlineClass) → d.at.class ≡ k → FitStep at s (fire s at d.at.event k)
    by_class ExecutionTimeout class = over-fits at retention s d (ap is_retention class) is
    by_class RunTimeout class = over-fits at retention s d (ap is_retention class) is
    by_class WorkflowTask class = task-fits at retention s d class is
    by_class ScheduleToClose class = closed-fits at s d.at.event ToClose (pending_row s d.at.event) (opened _ class refl) refl
    by_class ScheduleToStart class = closed-fits at s d.at.event ToStart (pending_row s d.at.event) (opened _ class refl) refl
    by_class Heartbeat class = attempt-fits at s d.at.event NoHeartbeat (pending_row s d.at.event) (opened _ class refl) refl
    by_class StartToClose class = attempt-fits at s d.at.event ToEnd (pending_row s d.at.event) (opened _ class refl) refl
    by_class RetryReady class = ready-fits at d.at.event s (opened _ class refl) (due-retry retention s d.run d class is)
    by_class UserTimer class = timer-fits at retention s d class is
    by_class Retention class = tt
