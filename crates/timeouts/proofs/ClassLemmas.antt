-- of which classes a run's deadlines are
use Rattle.std.proofs.Common.{◌≡◌, ℕ, suc, ◌+◌, inl, inr, Bool, true, false, cond, List, [], ◌∷◌, ◌++◌, refl, sym, ap, ◌∙◌, subst}
use Rattle.std.specs.Prelude.{Option, Some, None, find, flat_map, ◌==◌, ◌&&◌, unwrap_or, slice_get}
use Rattle.std.specs.List.{AllByRecursion}
use Rattle.wf_event.specs.declared.event.Event.{Event}
use Rattle.wf_event.specs.declared.attributes.Attributes.{Attributes}
use Rattle.wf_event.specs.declared.attributes.Attributes.TheVariants.{TimerStarted}
use Rattle.wf_event.specs.declared.payloads.TimerStarted.{TimerStarted as TimerFields}
use Rattle.wf_event.specs.declared.payloads.ActivityTaskScheduled.{ActivityTaskScheduled as ScheduledAttributes}
use Rattle.wf_event.specs.declared.role.Class.TheVariants.{Timer}
use Rattle.wf_event_values.specs.declared.policies.DeadlineClass.{DeadlineClass}
use Rattle.wf_event_values.specs.declared.policies.DeadlineClass.TheVariants.{ExecutionTimeout, RunTimeout, WorkflowTask, ScheduleToClose, ScheduleToStart, Heartbeat, StartToClose, RetryReady, UserTimer, Retention}
use Rattle.service_model.specs.Deadlines.{Due, closed_dues, dues, is_closing_event, retention_dues, due_after, deadline_dues, execution_dues, run_timeout_dues, workflow_task_dues, task_timeout, activity_dues, row_dues, by_phase, timer_dues, pending_rows, scheduled_fields}
use Rattle.service_model.specs.Pending.{Phase, IsQueued, IsRunning, IsWaiting, Task, NoTask, IsScheduled, IsStarted}
use Rattle.service_model.specs.RunState.{RunState, ActivityRow, Beginning, is_open, is_open_status, is_there, last_task, pending}
use Rattle.service_model.specs.TimerTurns.{RunDue, is_retention}
use Rattle.timeouts.specs.Firsts.{of_run, HasTimer, HasActivity}
use Rattle.timeouts.specs.Slots.{IsOneOf}

-- the deadlines of a run that is open
abbrev pub open_dues : RunState → List Due
open_dues s = execution_dues s.beginning ++ run_timeout_dues s.beginning ++ workflow_task_dues s s.task ++ flat_map activity_dues (pending_rows s) ++ flat_map timer_dues (pending Timer s)

module _ (P : Due → Type 0) where
  Are : List Due → Type 0
  Are ds = AllByRecursion P ds

  -- so is each deadline of a class
  OfClass : DeadlineClass → Type 0
  OfClass class = (due event : ℕ) → P (record { due = due; class = class; event = event })

  both : (xs ys : List Due) → Are xs → Are ys → Are (xs ++ ys)
  unfolding Are
  both [] ys a b = b
  both (x ∷ xs) ys a b = (a.0, both xs ys a.1 b)

  after : (moment duration : ℕ) (class : DeadlineClass) (event : ℕ) → P (record { due = moment + duration; class = class; event = event }) → Are (due_after moment duration class event)
  unfolding Are
  after moment duration class event h = by_test (duration == 0)
    where
      by_test : (b : Bool) → AllByRecursion P (cond b [] (record { due = moment + duration; class = class; event = event } ∷ []))
      by_test true = tt
      by_test false = (h, tt)

  flat : {A : Type 0} (f : A → List Due) (xs : List A) → ((k : ℕ) (x : A) → slice_get xs k ≡ Some x → Are (f x)) → Are (flat_map f xs)
  unfolding Are
  flat f [] h = tt
  flat f (x ∷ xs) h = both (f x) (flat_map f xs) (h 0 x refl) (flat f xs (λ k y there. h (suc k) y there))

  one : (n : ℕ) (ds : List Due) (d : RunDue) → Are ds → IsOneOf d (of_run n ds) → P d.at
  unfolding Are
  one n [] d h is = absurd is
  one n (x ∷ ds) d h (inl is) = subst (λ (y : RunDue). P y.at) (sym is) h.0
  one n (x ∷ ds) d h (inr rest) = one n ds d h.1 rest

  -- so is each deadline of a class that an activity has
  OfRow : DeadlineClass → ActivityRow → Type 0
  OfRow class r = (due : ℕ) → P (record { due = due; class = class; event = r.opened.id })

  phases : (r : ActivityRow) (a : ScheduledAttributes) → OfRow ScheduleToStart r → OfRow Heartbeat r → OfRow StartToClose r → OfRow RetryReady r → (p : Phase) → Are (by_phase r a p)
  unfolding Are OfRow
  phases r a queued beat running ready IsQueued = after (unwrap_or r.ready r.opened.at) a.schedule_to_start ScheduleToStart r.opened.id (queued _)
  phases r a queued beat running ready IsRunning =
      both (due_after (unwrap_or r.sign_of_life r.opened.at) a.heartbeat Heartbeat r.opened.id) (due_after (unwrap_or r.taken r.opened.at) a.start_to_close StartToClose r.opened.id)
      (after (unwrap_or r.sign_of_life r.opened.at) a.heartbeat Heartbeat r.opened.id (beat _)) (after (unwrap_or r.taken r.opened.at) a.start_to_close StartToClose r.opened.id (running _))
  phases r a queued beat running ready IsWaiting = (ready _, tt)

  activities : (r : ActivityRow) → OfRow ScheduleToClose r → OfRow ScheduleToStart r → OfRow Heartbeat r → OfRow StartToClose r → OfRow RetryReady r → Are (activity_dues r)
  unfolding Are OfRow
  activities r close queued beat running ready = by_fields (scheduled_fields r.opened.attributes)
    where
      by_fields : (o : Option ScheduledAttributes) → AllByRecursion P (row_dues r o)
      by_fields None = tt
      by_fields (Some a) = both (due_after r.opened.at a.schedule_to_close ScheduleToClose r.opened.id) (by_phase r a r.phase) (after r.opened.at a.schedule_to_close ScheduleToClose r.opened.id (close _)) (phases r a queued beat running ready r.phase)

  timers : (e : Event) → ((a : TimerFields) (due : ℕ) → e.attributes ≡ TimerStarted a → P (record { due = due; class = UserTimer; event = e.id })) → Are (timer_dues e)
  unfolding Are
  timers e user = by_kind e.attributes refl
    where
      by_kind : (a : Attributes) → e.attributes ≡ a → AllByRecursion P (timer_dues (record { id = e.id; at = e.at; attributes = a }))
      by_kind (TimerStarted a) is = after e.at a.duration UserTimer e.id (user a _ is)
      by_kind _ is = tt

  whole : OfClass ExecutionTimeout → (o : Option Beginning) → Are (execution_dues o)
  unfolding Are OfClass
  whole over None = tt
  whole over (Some b) = by_deadline b.attributes.execution_deadline
    where
      by_deadline : (o : Option ℕ) → AllByRecursion P (deadline_dues o)
      by_deadline None = tt
      by_deadline (Some due) = (over due 1, tt)

  own : OfClass RunTimeout → (o : Option Beginning) → Are (run_timeout_dues o)
  unfolding Are OfClass
  own over None = tt
  own over (Some b) = after b.at b.attributes.run_timeout RunTimeout 1 (over _ _)

  task : (s : RunState) (t : Task) → (t ≡ IsStarted → OfClass WorkflowTask) → Are (workflow_task_dues s t)
  unfolding Are OfClass
  task s IsStarted over = after (last_task s).at (task_timeout s) WorkflowTask (last_task s).scheduled (over refl _ _)
  task s NoTask over = tt
  task s IsScheduled over = tt

  closed : (retention : ℕ) (s : RunState) → OfClass Retention → Are (closed_dues retention s)
  unfolding Are OfClass
  closed retention s kept = by_event (is_there s) (find is_closing_event s.shown)
    where
      by_event : (b : Bool) (o : Option Event) → AllByRecursion P (cond b (retention_dues retention o) [])
      by_event false o = tt
      by_event true None = tt
      by_event true (Some e) = after e.at retention Retention e.id (kept _ _)

  opens : (s : RunState) → OfClass ExecutionTimeout → OfClass RunTimeout → (s.task ≡ IsStarted → OfClass WorkflowTask) → Are (flat_map activity_dues (pending_rows s)) → Are (flat_map timer_dues (pending Timer s)) → Are (open_dues s)
  opens s whole_over over task_over rows timer_rows =
      both (execution_dues s.beginning ++ run_timeout_dues s.beginning ++ workflow_task_dues s s.task ++ flat_map activity_dues (pending_rows s)) (flat_map timer_dues (pending Timer s))
      (both (execution_dues s.beginning ++ run_timeout_dues s.beginning ++ workflow_task_dues s s.task) (flat_map activity_dues (pending_rows s))
      (both (execution_dues s.beginning ++ run_timeout_dues s.beginning) (workflow_task_dues s s.task)
      (both (execution_dues s.beginning) (run_timeout_dues s.beginning) (whole whole_over s.beginning) (own over s.beginning)) (task s s.task task_over)) rows)
      timer_rows

  all-dues : (retention : ℕ) (s : RunState) → OfClass ExecutionTimeout → OfClass RunTimeout → (s.task ≡ IsStarted → OfClass WorkflowTask) → Are (flat_map activity_dues (pending_rows s)) → Are (flat_map timer_dues (pending Timer s)) → OfClass Retention → Are (dues retention s)
  unfolding Are dues
  all-dues retention s whole_over over task_over rows timer_rows kept = by_test (is_open s)
    where
      by_test : (b : Bool) → AllByRecursion P (cond b (open_dues s) (closed_dues retention s))
      by_test false = closed retention s kept
      by_test true = opens s whole_over over task_over rows timer_rows

-- a run with a deadline of another class is open
pub due-open : (retention : ℕ) (s : RunState) (n : ℕ) (d : RunDue) → is_retention d.at.class ≡ false → IsOneOf d (of_run n (dues retention s)) → is_open s ≡ true
unfolding dues Are OfClass
due-open retention s n d class is = by_test (is_open s) is
  where
    P : Due → Type 0
    P x = is_retention x.class ≡ false → ⊥

    by_test : (b : Bool) → IsOneOf d (of_run n (cond b (open_dues s) (closed_dues retention s))) → b ≡ true
    by_test true h = refl
    by_test false h = absurd (one P n (closed_dues retention s) d (closed P retention s (λ due event other. absurd (cc))) h class)

-- a run with a deadline is there
pub due-there : (retention : ℕ) (s : RunState) (n : ℕ) (d : RunDue) → IsOneOf d (of_run n (dues retention s)) → is_there s ≡ true
unfolding dues
due-there retention s n d is = by_test (is_there s) refl is
  where
    by_test : (b : Bool) → is_there s ≡ b → IsOneOf d (of_run n (dues retention s)) → is_there s ≡ true
    by_test true e h = e
    by_test false e h = absurd (subst (λ t. IsOneOf d (of_run n (cond (t && is_open_status s.status) (open_dues s) (cond t (retention_dues retention (find is_closing_event s.shown)) [])))) e h)

-- a run that has closed is kept no longer than so
abbrev pub retention_due : ℕ → ℕ → Event → RunDue
retention_due retention n e = record { run = n; at = record { due = e.at + retention; class = Retention; event = e.id } }

-- the end of a retention is that of a run that has closed
pub record IsEndOf (retention n : ℕ) (s : RunState) (d : RunDue) : Type 0 where
  pub over : is_open s ≡ false
  pub event : Event
  pub closing : find is_closing_event s.shown ≡ Some event
  pub some : (retention == 0) ≡ false
  pub is : d ≡ retention_due retention n event

pub due-closed : (retention : ℕ) (s : RunState) (n : ℕ) (d : RunDue) → is_retention d.at.class ≡ true → IsOneOf d (of_run n (dues retention s)) → IsEndOf retention n s d
unfolding dues Are OfClass OfRow
due-closed retention s n d class is = by_open (is_open s) refl is
  where
    P : Due → Type 0
    P x = is_retention x.class ≡ true → ⊥

    none : (c : DeadlineClass) → is_retention c ≡ false → (due event : ℕ) → is_retention c ≡ true → ⊥
    none c h due event e = let clash : true ≡ false = sym e ∙ h in cc

    by_some : is_open s ≡ false → (e : Event) → find is_closing_event s.shown ≡ Some e → (b : Bool) → (retention == 0) ≡ b → IsOneOf d (of_run n (cond b [] (record { due = e.at + retention; class = Retention; event = e.id } ∷ []))) → IsEndOf retention n s d
    by_some over e closing true some h = absurd h
    by_some over e closing false some (inl is) = record { over = over; event = e; closing = closing; some = some; is = is }
    by_some over e closing false some (inr rest) = absurd rest

    by_event : is_open s ≡ false → (b : Bool) (o : Option Event) → find is_closing_event s.shown ≡ o → IsOneOf d (of_run n (cond b (retention_dues retention o) [])) → IsEndOf retention n s d
    by_event over false o closing h = absurd h
    by_event over true None closing h = absurd h
    by_event over true (Some e) closing h = by_some over e closing (retention == 0) refl h

    by_open : (b : Bool) → is_open s ≡ b → IsOneOf d (of_run n (cond b (open_dues s) (closed_dues retention s))) → IsEndOf retention n s d
    by_open true opened h =
        let rows = flat P activity_dues (pending_rows s) (λ _ r _. activities P r (λ due. none ScheduleToClose refl due r.opened.id) (λ due. none ScheduleToStart refl due r.opened.id) (λ due. none Heartbeat refl due r.opened.id) (λ due. none StartToClose refl due r.opened.id) (λ due. none RetryReady refl due r.opened.id)) in
        let users = flat P timer_dues (pending Timer s) (λ _ e _. timers P e (λ _ due _. none UserTimer refl due e.id)) in
        absurd (one P n (open_dues s) d (opens P s (none ExecutionTimeout refl) (none RunTimeout refl) (λ _. none WorkflowTask refl) rows users) h class)
    by_open false over h = by_event over (is_there s) (find is_closing_event s.shown) refl h

is_task_class : DeadlineClass → Bool
is_task_class WorkflowTask = true
is_task_class _ = false

-- a worker has the workflow task that has a deadline
pub due-task : (retention : ℕ) (s : RunState) (n : ℕ) (d : RunDue) → d.at.class ≡ WorkflowTask → IsOneOf d (of_run n (dues retention s)) → s.task ≡ IsStarted
unfolding is_task_class Are OfClass OfRow
due-task retention s n d class is =
    let P : Due → Type 0 = λ x. is_task_class x.class ≡ true → s.task ≡ IsStarted in
    let none : (c : DeadlineClass) → is_task_class c ≡ false → (due event : ℕ) → is_task_class c ≡ true → s.task ≡ IsStarted = λ c h _ _ e. absurd (let clash : true ≡ false = sym e ∙ h in cc) in
    one P n (dues retention s) d (all-dues P retention s (none ExecutionTimeout refl) (none RunTimeout refl) (λ started _ _ _. started)
    (flat P activity_dues (pending_rows s) (λ _ r _. activities P r (λ due. none ScheduleToClose refl due r.opened.id) (λ due. none ScheduleToStart refl due r.opened.id) (λ due. none Heartbeat refl due r.opened.id) (λ due. none StartToClose refl due r.opened.id) (λ due. none RetryReady refl due r.opened.id)))
    (flat P timer_dues (pending Timer s) (λ _ e _. timers P e (λ _ due _. none UserTimer refl due e.id))) (none Retention refl)) is (ap is_task_class class)

is_timer_class : DeadlineClass → Bool
is_timer_class UserTimer = true
is_timer_class _ = false

-- the timer is pending that has a deadline
pub due-timer : (retention : ℕ) (s : RunState) (n : ℕ) (d : RunDue) → d.at.class ≡ UserTimer → IsOneOf d (of_run n (dues retention s)) → HasTimer s d.at.event
unfolding is_timer_class Are OfClass OfRow
due-timer retention s n d class is =
    let P : Due → Type 0 = λ x. is_timer_class x.class ≡ true → HasTimer s x.event in
    let none : (c : DeadlineClass) → is_timer_class c ≡ false → (due event : ℕ) → is_timer_class c ≡ true → HasTimer s event = λ c h _ _ e. absurd (let clash : true ≡ false = sym e ∙ h in cc) in
    one P n (dues retention s) d (all-dues P retention s (none ExecutionTimeout refl) (none RunTimeout refl) (λ _. none WorkflowTask refl)
    (flat P activity_dues (pending_rows s) (λ _ r _. activities P r (λ due. none ScheduleToClose refl due r.opened.id) (λ due. none ScheduleToStart refl due r.opened.id) (λ due. none Heartbeat refl due r.opened.id) (λ due. none StartToClose refl due r.opened.id) (λ due. none RetryReady refl due r.opened.id)))
    (flat P timer_dues (pending Timer s) (λ k e there. timers P e (λ a _ starts _. record { place = k; event = e; timer = a; there = there; named = refl; starts = starts }))) (none Retention refl)) is (ap is_timer_class class)

is_retry_class : DeadlineClass → Bool
is_retry_class RetryReady = true
is_retry_class _ = false

-- the activity is pending whose next attempt has a deadline
pub due-retry : (retention : ℕ) (s : RunState) (n : ℕ) (d : RunDue) → d.at.class ≡ RetryReady → IsOneOf d (of_run n (dues retention s)) → HasActivity s d.at.event
unfolding is_retry_class Are OfClass OfRow
due-retry retention s n d class is =
    let P : Due → Type 0 = λ x. is_retry_class x.class ≡ true → HasActivity s x.event in
    let none : (c : DeadlineClass) → is_retry_class c ≡ false → (due event : ℕ) → is_retry_class c ≡ true → HasActivity s event = λ c h _ _ e. absurd (let clash : true ≡ false = sym e ∙ h in cc) in
    one P n (dues retention s) d (all-dues P retention s (none ExecutionTimeout refl) (none RunTimeout refl) (λ _. none WorkflowTask refl)
    (flat P activity_dues (pending_rows s) (λ k r there. activities P r (λ due. none ScheduleToClose refl due r.opened.id) (λ due. none ScheduleToStart refl due r.opened.id) (λ due. none Heartbeat refl due r.opened.id) (λ due. none StartToClose refl due r.opened.id) (λ _ _. record { place = k; row = r; there = there; named = refl })))
    (flat P timer_dues (pending Timer s) (λ _ e _. timers P e (λ _ due _. none UserTimer refl due e.id))) (none Retention refl)) is (ap is_retry_class class)
