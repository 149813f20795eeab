-- a run's deadlines, and the first of them
use Rattle.std.proofs.Common.{◌≡◌, ℕ, ◌+◌, ◌<◌, Bool, true, false, cond, ◌&&◌, List, [], ◌∷◌, ◌++◌, refl, sym, ap, ◌∙◌, append-nil, append_assoc, take, get_or, IsSome, Bor, length}
use Rattle.std.proofs.lemmas.List.{take_more}
use Rattle.std.specs.List.{cons_option}
use Rattle.std.specs.Option.{option_copied}
use Rattle.std.specs.Prelude.{Option, Some, None, find, option_map, filter, flat_map, slice_get, unwrap_or}
use Rattle.wf_event.specs.declared.event.Event.{Event}
use Rattle.wf_event.specs.declared.attributes.Attributes.{Attributes}
use Rattle.wf_event.specs.declared.attributes.Attributes.TheVariants.{WorkflowExecutionStarted}
use Rattle.wf_event.specs.declared.payloads.WorkflowExecutionStarted.{WorkflowExecutionStarted as StartedAttributes}
use Rattle.wf_event_values.specs.declared.policies.DeadlineClass.TheVariants.{RunTimeout, WorkflowTask as TaskTimeout}
use Rattle.wf_event.specs.declared.role.Class.TheVariants.{Activity, Timer}
use Rattle.service_model_types.specs.declared.journal.CancelRequest.{CancelRequest}
use Rattle.service_model.specs.Deadlines.{Due, closed_dues, deadline_dues, dues, due_after, execution_dues, is_closing_event, retention_dues, run_timeout_dues, workflow_task_dues, task_timeout, activity_dues, timer_dues, pending_rows}
use Rattle.service_model.specs.TimerTurns.{least}
use Rattle.service_model.specs.RunState.{RunState, ActivityRow, Beginning, LastTask, beginning_by, is_open, is_there, last_task, pending}
use Rattle.wf_event_values.specs.declared.policies.Status.{Status}
use Rattle.buffered.specs.Buffers.{Buffer, event_at}
use Rattle.timeouts.specs.declared.due.Due.{Due as Kept}
use Rattle.timeouts.specs.Firsts.{first_of}
use Rattle.timeouts.specs.Slots.{run_due, lesser_of_two}
use Rattle.timeouts.proofs.FirstLemmas.{first_of-append}
use Rattle.mutable_state.specs.Dues.{own_dues, task_dues, dues_of, kept_dues, pending_timer_dues, activity_dues_of, kept_activity_dues, pending_activity_dues}
use Rattle.mutable_state.specs.declared.open.Open.{Open}
use Rattle.mutable_state.specs.Opens.{is_of, is_unmarked, unmarked, used_in, rows_in, AgreesWith}
use Rattle.mutable_state.specs.Noted.{kept_row}
use Rattle.mutable_state.specs.declared.task.WorkflowTask.{WorkflowTask}
use Rattle.service_model_types.specs.declared.phase.TaskPhase.TheVariants as kept
use Rattle.service_model_types.specs.declared.phase.TaskPhase.{TaskPhase}
use Rattle.mutable_state.specs.Tasks.{numbers_in}
use Rattle.mutable_state.specs.RunView.{beginning_in, state_in}
use Rattle.mutable_state.proofs.KeptLemmas.{used-unmarked, rows-unmarked}

-- a run begins at the moment of its first event
begun-by : (at : ℕ) (request : Option (List ℕ)) (a : Attributes) → IsSome (beginning_by at request a) → option_map (λ (b : Beginning). b.at) (beginning_by at request a) ≡ Some at
begun-by at request (WorkflowExecutionStarted a) h = refl
begun-by at request _ h = absurd (cc)

pub begun-first : (request : Option (List ℕ)) (events : List Event) (e : Event) → slice_get events 0 ≡ Some e → IsSome (beginning_in request events) → option_map (λ (b : Beginning). b.at) (beginning_in request events) ≡ Some e.at
begun-first request [] e there h = absurd (cc)
begun-first request (x ∷ events) e there h = begun-by x.at request x.attributes h ∙ ap (λ o. Some (unwrap_or (option_map (λ (y : Event). y.at) o) 0)) there

pub some-first : (request : Option (List ℕ)) (events : List Event) (o : Option (Bor Event)) → IsSome (beginning_in request events) → option_copied o ≡ slice_get events 0 → IsSome o
some-first request [] o h is = absurd (cc)
some-first request (x ∷ events) None h is = absurd (cc)
some-first request (x ∷ events) (Some e) h is = refl

-- the timeout of the task, by its numbers
task-part : (s : RunState) (a : StartedAttributes) (t : WorkflowTask) (p : TaskPhase) → t.phase ≡ p → p ≡ s.task → numbers_in t ≡ last_task s → task_timeout s ≡ a.task_timeout → workflow_task_dues s s.task ≡ task_dues a (record t { phase = p })
task-part s a t kept.None is same numbers timeout = ap (workflow_task_dues s) (sym same)
task-part s a t kept.Scheduled is same numbers timeout = ap (workflow_task_dues s) (sym same)
task-part s a t kept.Started is same numbers timeout =
    ap (workflow_task_dues s) (sym same)
    ∙ ap (λ (l : LastTask). due_after l.at (task_timeout s) TaskTimeout l.scheduled) (sym numbers)
    ∙ ap (λ d. due_after t.started_at d TaskTimeout t.scheduled) timeout

own-parts : (s : RunState) (o : Option Beginning) (begun : ℕ) (a : StartedAttributes) → s.beginning ≡ o → option_map (λ (b : Beginning). b.at) o ≡ Some begun → option_map (λ (b : Beginning). b.attributes) o ≡ Some a →
    (run_timeout_dues s.beginning ≡ due_after begun a.run_timeout RunTimeout 1) × (task_timeout s ≡ a.task_timeout) × (execution_dues s.beginning ≡ deadline_dues a.execution_deadline)
own-parts s None begun a is at carries = absurd (cc)
own-parts s (Some b) begun a is at carries =
    let same : b.at ≡ begun = cc in
    let what : b.attributes ≡ a = cc in (
      ap run_timeout_dues is ∙ ap (λ n. due_after n b.attributes.run_timeout RunTimeout 1) same ∙ ap (λ (x : StartedAttributes). due_after begun x.run_timeout RunTimeout 1) what,
      ap (λ x. unwrap_or (option_map (λ (c : Beginning). c.attributes.task_timeout) x) 0) is ∙ ap (λ (x : StartedAttributes). x.task_timeout) what,
      ap execution_dues is ∙ ap (λ (x : StartedAttributes). deadline_dues x.execution_deadline) what,
    )

-- an open run's deadlines: its own, those of its pending activities and those of its pending timers
pub dues-parts : (retention : ℕ) (s : RunState) (begun : ℕ) (a : StartedAttributes) (t : WorkflowTask) → is_open s ≡ true → option_map (λ (b : Beginning). b.at) s.beginning ≡ Some begun → option_map (λ (b : Beginning). b.attributes) s.beginning ≡ Some a →
    t.phase ≡ s.task → numbers_in t ≡ last_task s → dues retention s ≡ own_dues begun a t ++ flat_map activity_dues (pending_rows s) ++ pending_timer_dues s
unfolding dues
dues-parts retention s begun a t opened at carries phase numbers =
    let parts = own-parts s s.beginning begun a refl at carries in
    let activities : List Due = flat_map activity_dues (pending_rows s) in
    let whole : List Due = deadline_dues a.execution_deadline in
    ap (λ b. cond b (execution_dues s.beginning ++ run_timeout_dues s.beginning ++ workflow_task_dues s s.task ++ activities ++ pending_timer_dues s) (closed_dues retention s)) opened
    ∙ ap (λ (l : List Due). l ++ run_timeout_dues s.beginning ++ workflow_task_dues s s.task ++ activities ++ pending_timer_dues s) parts.2
    ∙ ap (λ (l : List Due). whole ++ l ++ workflow_task_dues s s.task ++ activities ++ pending_timer_dues s) parts.0
    ∙ ap (λ (l : List Due). whole ++ due_after begun a.run_timeout RunTimeout 1 ++ l ++ activities ++ pending_timer_dues s) (task-part s a t t.phase refl phase numbers parts.1)

-- and the first of them
pub dues-firsts : (retention : ℕ) (s : RunState) (n begun : ℕ) (a : StartedAttributes) (t : WorkflowTask) → is_open s ≡ true → option_map (λ (b : Beginning). b.at) s.beginning ≡ Some begun → option_map (λ (b : Beginning). b.attributes) s.beginning ≡ Some a →
    t.phase ≡ s.task → numbers_in t ≡ last_task s →
    first_of n (dues retention s) ≡ lesser_of_two (first_of n (own_dues begun a t)) (lesser_of_two (first_of n (pending_activity_dues s)) (first_of n (pending_timer_dues s)))
dues-firsts retention s n begun a t opened at carries phase numbers =
    ap (first_of n) (dues-parts retention s begun a t opened at carries phase numbers ∙ append_assoc (own_dues begun a t) (pending_activity_dues s) (pending_timer_dues s))
    ∙ first_of-append n (own_dues begun a t) (pending_activity_dues s ++ pending_timer_dues s)
    ∙ ap (lesser_of_two (first_of n (own_dues begun a t))) (first_of-append n (pending_activity_dues s) (pending_timer_dues s))

-- a turn of a loop that looks for the first of the deadlines of some things
pub first-turn : {X : Type 0} (n : ℕ) (f : X → List Due) (xs : List X) (i : ℕ) (d : X) (before here after : Option Kept) → i < length xs →
    option_map run_due before ≡ first_of n (flat_map f (take i xs)) → option_map run_due here ≡ first_of n (f (get_or xs i d)) → option_map run_due after ≡ lesser_of_two (option_map run_due before) (option_map run_due here) →
    option_map run_due after ≡ first_of n (flat_map f (take (i + 1) xs))
first-turn n f xs i d before here after there so_far found is =
    is ∙ ap (λ o. lesser_of_two o (option_map run_due here)) so_far ∙ ap (lesser_of_two (first_of n (flat_map f (take i xs)))) found
    ∙ sym (first_of-append n (flat_map f (take i xs)) (f (get_or xs i d)))
    ∙ ap (first_of n) (sym (ap (flat_map f) (take_more xs i d there) ∙ flat-push f (take i xs) (get_or xs i d)))
  where
    flat-push : {X : Type 0} (f : X → List Due) (ys : List X) (y : X) → flat_map f (ys ++ y ∷ []) ≡ flat_map f ys ++ f y
    flat-push f [] y = append-nil (f y)
    flat-push f (z ∷ ys) y = ap (λ l. f z ++ l) (flat-push f ys y) ∙ sym (append_assoc (f z) (flat_map f ys) (f y))

-- the deadlines of those things that pass a test
pub flat-filter : {X : Type 0} (p : X → Bool) (f : X → List Due) (xs : List X) → flat_map (λ x. cond (p x) (f x) []) xs ≡ flat_map f (filter p xs)
flat-filter p f [] = refl
flat-filter p f (x ∷ xs) = by_test (p x) (flat-filter p f xs)
  where
    by_test : (b : Bool) → flat_map (λ x. cond (p x) (f x) []) xs ≡ flat_map f (filter p xs) → cond b (f x) [] ++ flat_map (λ x. cond (p x) (f x) []) xs ≡ flat_map f (cond b (x ∷ filter p xs) (filter p xs))
    by_test true again = ap (λ l. f x ++ l) again
    by_test false again = again

-- what is kept has the deadlines of what is pending
kept-read : (es : List Event) (os : List Open) → flat_map (kept_dues es) os ≡ flat_map timer_dues (used_in Timer (unmarked os) es)
kept-read es [] = refl
kept-read es (o ∷ os) = by_test (is_unmarked o) (is_of Timer o) refl (event_at o.opener.event es) refl (kept-read es os)
  where
    by_test : (b t : Bool) → is_of Timer o ≡ t → (r : Option Event) → event_at o.opener.event es ≡ r → flat_map (kept_dues es) os ≡ flat_map timer_dues (used_in Timer (unmarked os) es) →
        cond (b && t) (dues_of r) [] ++ flat_map (kept_dues es) os ≡ flat_map timer_dues (used_in Timer (cond b (o ∷ unmarked os) (unmarked os)) es)
    by_test true true is None at again = again ∙ ap (λ q. flat_map timer_dues (cons_option q (used_in Timer (unmarked os) es))) (sym (ap (λ t. cond t (event_at o.opener.event es) None) is ∙ at))
    by_test true true is (Some e) at again = ap (λ l. timer_dues e ++ l) again ∙ ap (λ q. flat_map timer_dues (cons_option q (used_in Timer (unmarked os) es))) (sym (ap (λ t. cond t (event_at o.opener.event es) None) is ∙ at))
    by_test true false is r at again = again ∙ ap (λ q. flat_map timer_dues (cons_option q (used_in Timer (unmarked os) es))) (sym (ap (λ t. cond t (event_at o.opener.event es) None) is))
    by_test false t is r at again = again

rows-read : (es : List Event) (os : List Open) → flat_map (kept_activity_dues es) os ≡ flat_map activity_dues (rows_in (unmarked os) es)
rows-read es [] = refl
rows-read es (o ∷ os) = by_test (is_unmarked o) (is_of Activity o) refl (event_at o.opener.event es) refl (rows-read es os)
  where
    row : Option Event → List ActivityRow
    row q = cons_option (option_map (kept_row o.notes) q) (rows_in (unmarked os) es)

    by_test : (b t : Bool) → is_of Activity o ≡ t → (r : Option Event) → event_at o.opener.event es ≡ r → flat_map (kept_activity_dues es) os ≡ flat_map activity_dues (rows_in (unmarked os) es) →
        cond (b && t) (activity_dues_of o.notes r) [] ++ flat_map (kept_activity_dues es) os ≡ flat_map activity_dues (rows_in (cond b (o ∷ unmarked os) (unmarked os)) es)
    by_test true true is None at again = again ∙ ap (λ q. flat_map activity_dues (row q)) (sym (ap (λ t. cond t (event_at o.opener.event es) None) is ∙ at))
    by_test true true is (Some e) at again = ap (λ l. activity_dues (kept_row o.notes e) ++ l) again ∙ ap (λ q. flat_map activity_dues (row q)) (sym (ap (λ t. cond t (event_at o.opener.event es) None) is ∙ at))
    by_test true false is r at again = again ∙ ap (λ q. flat_map activity_dues (row q)) (sym (ap (λ t. cond t (event_at o.opener.event es) None) is))
    by_test false t is r at again = again

pub kept-activity-dues : (b : Buffer) (request : Option (List ℕ)) (cancel : Option CancelRequest) (status : Status) (t : WorkflowTask) (keys : List (List ℕ)) (os : List Open) → AgreesWith b os → flat_map (kept_activity_dues b.events) os ≡ pending_activity_dues (state_in b request cancel status t keys os)
kept-activity-dues b request cancel status t keys os h = rows-read b.events os ∙ ap (flat_map activity_dues) (rows-unmarked b.held os b.events h.marks)

pub kept-dues : (b : Buffer) (request : Option (List ℕ)) (cancel : Option CancelRequest) (status : Status) (t : WorkflowTask) (keys : List (List ℕ)) (os : List Open) → AgreesWith b os → flat_map (kept_dues b.events) os ≡ pending_timer_dues (state_in b request cancel status t keys os)
kept-dues b request cancel status t keys os h = kept-read b.events os ∙ ap (flat_map timer_dues) (used-unmarked Timer b.held os b.events h.marks)

-- a run that has closed has its retention alone
pub dues-closed : (retention : ℕ) (s : RunState) → is_there s ≡ true → is_open s ≡ false → dues retention s ≡ retention_dues retention (find is_closing_event s.shown)
unfolding dues
dues-closed retention s there closed =
    let kept : List Due = retention_dues retention (find is_closing_event s.shown) in
    ap (λ b. cond b (execution_dues s.beginning ++ run_timeout_dues s.beginning ++ workflow_task_dues s s.task ++ flat_map activity_dues (pending_rows s) ++ flat_map timer_dues (pending Timer s)) (closed_dues retention s)) closed
    ∙ ap (λ b. cond b kept []) there

-- a retention of 0 gives no deadline
pub kept-for-ever : (n : ℕ) (o : Option Event) → first_of n (retention_dues 0 o) ≡ None
unfolding least
kept-for-ever n None = refl
kept-for-ever n (Some e) = refl
