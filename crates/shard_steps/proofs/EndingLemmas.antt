-- the end of an activity
use Rattle.std.proofs.Common.{◌≡◌, ℕ, ◌+◌, ◌<◌, Bool, true, false, cond, not, ◌&&◌, ◌||◌, ◌==◌, ◌≤◌, List, [], ◌∷◌, ◌++◌, append-nil, length, refl, sym, ap, ◌∙◌, subst, arith, nat_le, Option, Some, None}
use Rattle.std.proofs.lemmas.Bool.{eqb-true}
use Rattle.std.proofs.lemmas.Bool.Decides.{nat_tests}
use Rattle.std.specs.Prelude.{filter, find, map, unwrap_or, option_map}
use Rattle.wf_event.specs.declared.event.Event.{Event}
use Rattle.wf_event.specs.declared.attributes.Attributes.{Attributes}
use Rattle.wf_event.specs.declared.attributes.Attributes.TheVariants.{WorkflowTaskScheduled, ActivityTaskStarted, ActivityTaskCompleted, ActivityTaskFailed, ActivityTaskTimedOut, ActivityTaskCanceled}
use Rattle.wf_event.specs.declared.payloads.ActivityTaskStarted.{ActivityTaskStarted as StartedFields}
use Rattle.wf_event.specs.declared.payloads.WorkflowTaskScheduled.{WorkflowTaskScheduled as ScheduledTask}
use Rattle.wf_event.specs.declared.payloads.ActivityTaskScheduled.{ActivityTaskScheduled as ScheduledAttributes}
use Rattle.wf_event.specs.declared.payloads.PolicyFields.{PolicyFields}
use Rattle.wf_event.specs.declared.role.Class.TheVariants.{Activity}
use Rattle.wf_event.specs.Role.{role, opens, settles, closing_status}
use Rattle.wf_event_values.specs.declared.policies.RetryState.TheVariants.{CancelRequested, NonRetryableFailure, MaximumAttemptsReached, Timeout}
use Rattle.service_model_types.specs.declared.journal.Fact.{Fact}
use Rattle.service_model_types.specs.declared.journal.NewEvent.{NewEvent}
use Rattle.service_model_types.specs.declared.journal.Note.{Note}
use Rattle.service_model_types.specs.declared.journal.Note.TheVariants.{Taken, Ended, Ready, Beat}
use Rattle.service_model_types.specs.declared.request.FailActivity.{FailActivity}
use Rattle.service_model.specs.Activities.{attempt_started, by_verdict, fail_activity, fail_at, fail_fields, running_attempt, verdict_at}
use Rattle.service_model.specs.Deadlines.{scheduled_fields}
use Rattle.service_model.specs.Journal.{plain}
use Rattle.service_model.specs.Outcome.{Runs, is_no_task, noted, outside}
use Rattle.service_model.specs.Pending.{Task, NoTask, IsScheduled, IsStarted, is_settled, is_settling}
use Rattle.service_model.specs.Retry.{Ending, FailedAttempt, Verdict, GivesUp, RetriesAt, is_non_retryable, is_within, verdict, wait}
use Rattle.service_model.specs.RunState.{RunState, ActivityRow, row_of, used, pending, is_open, held_attributes, queue_of}
use Rattle.service_model.specs.Tasks.{pending_row}
use Rattle.mutable_state.specs.Steps.{IsFirst, IsLater, MayEnd, MayQueue, Place, FitsEvent, FitFrom, FitStep, has_id, with_event, with_new, buffer_of, used_with, row_id, new_row}
use Rattle.shard_steps.specs.Attempts.{ended_activity, HasNext}

below : (k : ℕ) → k ≤ 4294967295 → (k == 4294967295) ≡ false → k < 4294967295
below k few h = grind (arith, nat_tests, few)

pub is-itself : (n : ℕ) → (n == n) ≡ true
is-itself n = grind (arith, nat_tests)

pub are-same : (m n : ℕ) → (m == n) ≡ true → m ≡ n
are-same m n h = grind (arith, nat_tests)

pub or-right : (a b : Bool) → b ≡ true → (a || b) ≡ true
or-right true b h = refl
or-right false b h = h

-- the row of an activity is under its event's id
pub row-named : (id : ℕ) (rows : List ActivityRow) (r : ActivityRow) → find (λ (x : ActivityRow). x.opened.id == id) rows ≡ Some r → r.opened.id ≡ id
row-named id [] r h = absurd (cc)
row-named id (x ∷ rows) r h = by_test (x.opened.id == id) refl h (row-named id rows r)
  where
    by_test : (b : Bool) → (x.opened.id == id) ≡ b → cond b (Some x) (find (λ (y : ActivityRow). y.opened.id == id) rows) ≡ Some r → (find (λ (y : ActivityRow). y.opened.id == id) rows ≡ Some r → r.opened.id ≡ id) → r.opened.id ≡ id
    by_test true is g again = let same : x ≡ r = ap (λ o. unwrap_or o x) g in ap (λ (y : ActivityRow). y.opened.id) (sym same) ∙ are-same x.opened.id id is
    by_test false is g again = again g

-- the activities of these rows that nothing settles
abbrev unsettled : List Attributes → List ActivityRow → List Event
unsettled held rows = filter (λ (e : Event). not (is_settled Activity e.id held)) (map (λ (r : ActivityRow). r.opened) rows)

row-pending : (id : ℕ) (held : List Attributes) (rows : List ActivityRow) (r : ActivityRow) → is_settled Activity id held ≡ false → find (λ (x : ActivityRow). x.opened.id == id) rows ≡ Some r → has_id id (unsettled held rows) ≡ true
row-pending id held [] r free h = absurd (cc)
row-pending id held (x ∷ rows) r free h = by_test (x.opened.id == id) refl h (row-pending id held rows r free)
  where
    rest : List Event
    rest = unsettled held rows

    more : (b : Bool) → has_id id rest ≡ true → has_id id (cond b (x.opened ∷ rest) rest) ≡ true
    more true g = or-right (x.opened.id == id) (has_id id rest) g
    more false g = g

    by_test : (b : Bool) → (x.opened.id == id) ≡ b → cond b (Some x) (find (λ (y : ActivityRow). y.opened.id == id) rows) ≡ Some r → (find (λ (y : ActivityRow). y.opened.id == id) rows ≡ Some r → has_id id rest ≡ true) → has_id id (cond (not (is_settled Activity x.opened.id held)) (x.opened ∷ rest) rest) ≡ true
    by_test true is g again =
        let not_settled : not (is_settled Activity x.opened.id held) ≡ true = ap (λ k. not (is_settled Activity k held)) (are-same x.opened.id id is) ∙ ap not free in
        ap (λ b. has_id id (cond b (x.opened ∷ rest) rest)) not_settled ∙ ap (λ c. c || has_id id rest) is
    by_test false is g again = more (not (is_settled Activity x.opened.id held)) (again g)

pub pending-named : (id : ℕ) (s : RunState) (r : ActivityRow) → pending_row s id ≡ Some r → (r.opened.id ≡ id) × (has_id id (pending Activity s) ≡ true)
pending-named id s r h = by_test (is_settled Activity id (held_attributes s)) refl h
  where
    by_test : (b : Bool) → is_settled Activity id (held_attributes s) ≡ b → cond b None (find (λ (x : ActivityRow). x.opened.id == id) s.activities) ≡ Some r → (r.opened.id ≡ id) × (has_id id (pending Activity s) ≡ true)
    by_test true is g = absurd (cc)
    by_test false is g = (row-named id s.activities r g, row-pending id (held_attributes s) s.activities r is g)

-- an attempt's start that is buffered settles nothing
settled-more : (id : ℕ) (held : List NewEvent) (at : ℕ) (a : StartedFields) → is_settled Activity id (map (λ (e : NewEvent). e.attributes) (held ++ record { at = at; attributes = ActivityTaskStarted a } ∷ [])) ≡ is_settled Activity id (map (λ (e : NewEvent). e.attributes) held)
unfolding settles
settled-more id [] at a = refl
settled-more id (e ∷ held) at a = ap (λ b. is_settling Activity id (settles e.attributes) || b) (settled-more id held at a)

still-unsettled : (held : List NewEvent) (at : ℕ) (a : StartedFields) (es : List Event) → filter (λ (e : Event). not (is_settled Activity e.id (map (λ (x : NewEvent). x.attributes) (held ++ record { at = at; attributes = ActivityTaskStarted a } ∷ [])))) es ≡ filter (λ (e : Event). not (is_settled Activity e.id (map (λ (x : NewEvent). x.attributes) held))) es
still-unsettled held at a [] = refl
still-unsettled held at a (e ∷ es) =
    let later : List Event = filter (λ (y : Event). not (is_settled Activity y.id (map (λ (x : NewEvent). x.attributes) (held ++ record { at = at; attributes = ActivityTaskStarted a } ∷ [])))) es in
    ap (λ b. cond (not b) (e ∷ later) later) (settled-more e.id held at a) ∙ ap (λ l. cond (not (is_settled Activity e.id (map (λ (x : NewEvent). x.attributes) held))) (e ∷ l) l) (still-unsettled held at a es)

-- the start of an attempt leaves pending what was
started-pending : (at : ℕ) (s : RunState) (a : StartedFields) → pending Activity (with_event at None (ActivityTaskStarted a) s) ≡ pending Activity s
unfolding role opens settles
started-pending at s a = by_task s.task
  where
    event : NewEvent
    event = record { at = at; attributes = ActivityTaskStarted a }

    by_task : (t : Task) →
        filter (λ (e : Event). not (is_settled Activity e.id (map (λ (x : NewEvent). x.attributes) (with_new t (record { at = at; attributes = ActivityTaskStarted a }) (buffer_of s)).held)))
        (map (λ (r : ActivityRow). r.opened) (used_with Activity row_id new_row t s.held (record { id = length (with_new t (record { at = at; attributes = ActivityTaskStarted a }) (buffer_of s)).events; at = at; attributes = ActivityTaskStarted a }) s.activities)) ≡ pending Activity s
    by_task NoTask = ap (λ (rows : List ActivityRow). unsettled (held_attributes s) rows) (append-nil s.activities)
    by_task IsScheduled = ap (λ (rows : List ActivityRow). unsettled (held_attributes s) rows) (append-nil s.activities)
    by_task IsStarted = still-unsettled s.held at a (map (λ (r : ActivityRow). r.opened) s.activities)

-- the event that ends a pending activity may come
last-comes : (p : Place) (s : RunState) (last : Attributes) (id : ℕ) (more : List Fact) → is_open s ≡ true → has_id id (pending Activity s) ≡ true → ended_activity last ≡ Some id → FitsEvent p s None last more
unfolding role opens settles
last-comes p s (ActivityTaskCompleted a) id more opened there ends =
    record { open_run = opened; fits_role = tt; begins_none = refl; may_settle = ap (λ n. has_id n (pending Activity s)) (ap (λ o. unwrap_or o 0) ends) ∙ there; may_ask = refl; first_signal = refl }
last-comes p s (ActivityTaskFailed a) id more opened there ends =
    record { open_run = opened; fits_role = tt; begins_none = refl; may_settle = ap (λ n. has_id n (pending Activity s)) (ap (λ o. unwrap_or o 0) ends) ∙ there; may_ask = refl; first_signal = refl }
last-comes p s (ActivityTaskTimedOut a) id more opened there ends =
    record { open_run = opened; fits_role = tt; begins_none = refl; may_settle = ap (λ n. has_id n (pending Activity s)) (ap (λ o. unwrap_or o 0) ends) ∙ there; may_ask = refl; first_signal = refl }
last-comes p s (ActivityTaskCanceled a) id more opened there ends =
    record { open_run = opened; fits_role = tt; begins_none = refl; may_settle = ap (λ n. has_id n (pending Activity s)) (ap (λ o. unwrap_or o 0) ends) ∙ there; may_ask = refl; first_signal = refl }
last-comes p s _ id more opened there ends = absurd (cc)

-- after it the run is open, and its workflow task stands where it stood
open-after : (at : ℕ) (s : RunState) (last : Attributes) (id : ℕ) → ended_activity last ≡ Some id → (is_open (with_event at None last s) ≡ is_open s) × ((with_event at None last s).task ≡ s.task)
unfolding role closing_status
open-after at s (ActivityTaskCompleted a) id ends = (refl, refl)
open-after at s (ActivityTaskFailed a) id ends = (refl, refl)
open-after at s (ActivityTaskTimedOut a) id ends = (refl, refl)
open-after at s (ActivityTaskCanceled a) id ends = (refl, refl)
open-after at s _ id ends = absurd (cc)

-- it may come, and after it a workflow task where there is none
last-fits : (p : Place) (at : ℕ) (s : RunState) (last : Attributes) (id : ℕ) (w : ScheduledTask) (t : Task) → s.task ≡ t → is_open s ≡ true → has_id id (pending Activity s) ≡ true → ended_activity last ≡ Some id → FitFrom p at s (plain last ∷ cond (is_no_task t) (plain (WorkflowTaskScheduled w) ∷ []) [])
unfolding role opens settles
last-fits p at s last id w NoTask is opened there ends =
    let after = open-after at s last id ends in
    (last-comes p s last id (plain (WorkflowTaskScheduled w) ∷ []) opened there ends, (record { open_run = after.0 ∙ opened; fits_role = (after.1 ∙ is, refl); begins_none = refl; may_settle = tt; may_ask = refl; first_signal = refl }, tt))
last-fits p at s last id w IsScheduled is opened there ends = (last-comes p s last id [] opened there ends, tt)
last-fits p at s last id w IsStarted is opened there ends = (last-comes p s last id [] opened there ends, tt)

-- so may the events that end a pending activity, of which an attempt may have run
pub ending-fits : (at : ℕ) (s : RunState) (r : ActivityRow) (last : Attributes) (id : ℕ) (runs : Bool) → is_open s ≡ true → has_id id (pending Activity s) ≡ true → ended_activity last ≡ Some id → FitStep at s (outside s (cond runs (attempt_started r ∷ []) [] ++ plain last ∷ []))
unfolding role opens settles closing_status
ending-fits at s r last id false opened there ends = last-fits IsFirst at s last id (record { attempt = 1; task_queue = queue_of s }) s.task refl opened there ends
ending-fits at s r last id true opened there ends =
    let fields : StartedFields = record { scheduled = r.opened.id; attempt = r.attempt; taken = unwrap_or r.taken 0 } in
    let later : has_id id (pending Activity (with_event at None (ActivityTaskStarted fields) s)) ≡ true = ap (λ es. has_id id es) (started-pending at s fields) ∙ there in (
      record { open_run = opened; fits_role = tt; begins_none = refl; may_settle = tt; may_ask = refl; first_signal = refl },
      last-fits IsLater at (with_event at None (ActivityTaskStarted fields) s) last id (record { attempt = 1; task_queue = queue_of s }) s.task refl opened later ends,
    )

-- a note on a pending activity may come
has-used : (id : ℕ) (held : List Attributes) (es : List Event) → has_id id (filter (λ (e : Event). not (is_settled Activity e.id held)) es) ≡ true → has_id id es ≡ true
has-used id held [] h = h
has-used id held (e ∷ es) h = by_test (not (is_settled Activity e.id held)) h (has-used id held es)
  where
    rest : List Event
    rest = filter (λ (x : Event). not (is_settled Activity x.id held)) es

    by_both : (b : Bool) → (b || has_id id rest) ≡ true → (has_id id rest ≡ true → has_id id es ≡ true) → (b || has_id id es) ≡ true
    by_both true g again = refl
    by_both false g again = again g

    by_test : (b : Bool) → has_id id (cond b (e ∷ rest) rest) ≡ true → (has_id id rest ≡ true → has_id id es ≡ true) → has_id id (e ∷ es) ≡ true
    by_test true g again = by_both (e.id == id) g again
    by_test false g again = or-right (e.id == id) (has_id id es) (again g)

-- nothing that settles a pending activity is buffered
pending-free : (id : ℕ) (held : List Attributes) (es : List Event) → has_id id (filter (λ (e : Event). not (is_settled Activity e.id held)) es) ≡ true → is_settled Activity id held ≡ false
pending-free id held [] h = absurd (cc)
pending-free id held (e ∷ es) h = by_test (is_settled Activity e.id held) refl h (pending-free id held es)
  where
    rest : List Event
    rest = filter (λ (x : Event). not (is_settled Activity x.id held)) es

    by_id : (b : Bool) → (e.id == id) ≡ b → is_settled Activity e.id held ≡ false → (b || has_id id rest) ≡ true → (has_id id rest ≡ true → is_settled Activity id held ≡ false) → is_settled Activity id held ≡ false
    by_id true same free g again = subst (λ k. is_settled Activity k held ≡ false) (eqb-true e.id id same) free
    by_id false same free g again = again g

    by_test : (b : Bool) → is_settled Activity e.id held ≡ b → has_id id (cond (not b) (e ∷ rest) rest) ≡ true → (has_id id rest ≡ true → is_settled Activity id held ≡ false) → is_settled Activity id held ≡ false
    by_test true is g again = again g
    by_test false is g again = by_id (e.id == id) refl is g again

may-queue : (n : Note) (id : ℕ) (s : RunState) → is_settled Activity id (held_attributes s) ≡ false → MayQueue n id s []
may-queue Taken id s free = tt
may-queue Ended id s free = tt
may-queue Ready id s free = (free, refl)
may-queue (Beat text) id s free = tt

pub note-fits : (at id : ℕ) (s : RunState) (n : Note) → is_open s ≡ true → has_id id (pending Activity s) ≡ true → MayEnd n id s → FitStep at s (noted id n ∷ [])
note-fits at id s n opened there may =
    let free = pending-free id (held_attributes s) (used Activity s) there in
    (record { open_run = opened; in_use = has-used id (held_attributes s) (used Activity s) there; may_queue = may-queue n id s free; may_end = may }, tt)

-- a pending activity is the one of its event
pub pending-of : (s : RunState) (id : ℕ) (r : ActivityRow) → pending_row s id ≡ Some r → row_of s id ≡ Some r
pending-of s id r h = by_test (is_settled Activity id (held_attributes s)) h
  where
    by_test : (b : Bool) → cond b None (row_of s id) ≡ Some r → row_of s id ≡ Some r
    by_test true g = absurd (cc)
    by_test false g = g

-- no attempt follows the one of the last number
abbrev pub NotLast : ℕ → Verdict → Type 0
NotLast k (GivesUp state) = Unit {0}
NotLast k (RetriesAt ready) = (k == 4294967295) ≡ false

pub not-last : (p : PolicyFields) (ending : Ending) (cancel : Bool) (k moment : ℕ) (deadline : Option ℕ) → NotLast k (verdict p ending cancel k moment deadline)
unfolding verdict
not-last p ending cancel k moment deadline = by_cancel cancel
  where
    by_last : (some last : Bool) → (k == 4294967295) ≡ last → (b : Bool) → NotLast k (cond (some || last) (GivesUp MaximumAttemptsReached) (cond b (RetriesAt (moment + wait p k)) (GivesUp Timeout)))
    by_last true last is b = tt
    by_last false true is b = tt
    by_last false false is true = is
    by_last false false is false = tt

    judged : Verdict
    judged = cond ((not (p.attempts == 0) && nat_le p.attempts k) || (k == 4294967295)) (GivesUp MaximumAttemptsReached) (cond (is_within (moment + wait p k) deadline) (RetriesAt (moment + wait p k)) (GivesUp Timeout))

    by_end : (b : Bool) → NotLast k (cond b (GivesUp NonRetryableFailure) judged)
    by_end true = tt
    by_end false = by_last (not (p.attempts == 0) && nat_le p.attempts k) (k == 4294967295) refl (is_within (moment + wait p k) deadline)

    by_cancel : (b : Bool) → NotLast k (cond b (GivesUp CancelRequested) (cond (is_non_retryable p ending) (GivesUp NonRetryableFailure) judged))
    by_cancel true = tt
    by_cancel false = by_end (is_non_retryable p ending)

-- so the attempt after one that is tried again has a number
pub has-next : (p : PolicyFields) (ending : Ending) (cancel : Bool) (k moment : ℕ) (deadline : Option ℕ) → k ≤ 4294967295 → HasNext k (verdict p ending cancel k moment deadline)
has-next p ending cancel k moment deadline few = by_verdict_of (verdict p ending cancel k moment deadline) (not-last p ending cancel k moment deadline)
  where
    by_verdict_of : (v : Verdict) → NotLast k v → HasNext k v
    by_verdict_of (GivesUp state) h = tt
    by_verdict_of (RetriesAt ready) h = below k few h

-- a failure goes on as its verdict says
pub failed-by : (R : Runs) (q : FailActivity) (r : ActivityRow) (v : Verdict) → running_attempt R q.task ≡ Some r → Some v ≡ option_map (λ (a : ScheduledAttributes). verdict_at r a (FailedAttempt q.error_type q.non_retryable) R.moment) (scheduled_fields r.opened.attributes) → fail_activity R q ≡ by_verdict R q r v
unfolding fail_activity
failed-by R q r v found judged = ap (λ o. fail_at R q o) found ∙ by_fields (scheduled_fields r.opened.attributes) judged
  where
    by_fields : (o : Option ScheduledAttributes) → Some v ≡ option_map (λ (a : ScheduledAttributes). verdict_at r a (FailedAttempt q.error_type q.non_retryable) R.moment) o → fail_fields R q r o ≡ by_verdict R q r v
    by_fields None h = absurd (cc)
    by_fields (Some a) h = ap (λ o. by_verdict R q r (unwrap_or o v)) (sym h)
