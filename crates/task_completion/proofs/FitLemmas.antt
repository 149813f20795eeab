-- the facts of commands that are judged without a fault may come
use Rattle.std.proofs.Common.{◌≡◌, ℕ, ◌+◌, ◌≤◌, Bool, true, false, not, cond, ◌&&◌, ◌||◌, ◌==◌, List, [], ◌∷◌, ◌++◌, length, refl, sym, ap, ◌∙◌, subst, arith, Option, Some, None, append_assoc, append-nil, length-append}
use Rattle.std.specs.Prelude.{filter, map, is_some, unwrap_or, Result, Ok, Err}
use Rattle.std.specs.List.{list_any}
use Rattle.wf_event.specs.declared.event.Event.{Event}
use Rattle.wf_event.specs.declared.attributes.Attributes.{Attributes}
use Rattle.wf_event.specs.declared.attributes.Attributes.TheVariants.{WorkflowExecutionCompleted, WorkflowExecutionFailed, WorkflowExecutionCanceled, WorkflowExecutionContinuedAsNew, WorkflowTaskCompleted, MarkerRecorded, ActivityTaskCancelRequested, ActivityTaskCanceled, TimerStarted, TimerCanceled}
use Rattle.wf_event.specs.declared.role.Class.{Class}
use Rattle.wf_event.specs.declared.role.Class.TheVariants.{Activity, Timer, Child, Signal, Cancel}
use Rattle.wf_event.specs.declared.role.Opener.{Opener}
use Rattle.wf_event.specs.Role.{Role, TaskSchedules, TaskStarts, TaskEnds, Closes, TimerFires, TimerCancels, ComesFromOutside, Follows, role, is_closing_role, opens, settles, closing_status, schedules_task}
use Rattle.wf_event_values.specs.Run.{Run}
use Rattle.wf_event_values.specs.declared.policies.Cause.{Cause}
use Rattle.wf_event_values.specs.declared.policies.Cause.TheVariants.{UnhandledCommand, CommandAfterClose, BadScheduleActivityAttributes, ScheduleActivityDuplicateId, PendingActivitiesLimitExceeded, BadRequestCancelActivityAttributes, StartTimerDuplicateId, BadContinueAsNewAttributes, BadStartChildExecutionAttributes, PendingChildWorkflowsLimitExceeded, PendingSignalsLimitExceeded, PendingRequestCancelLimitExceeded}
use Rattle.wf_command.specs.declared.command.Command.{Command}
use Rattle.wf_command.specs.declared.command.Command.TheVariants.{ScheduleActivityTask, RequestCancelActivityTask, StartTimer, CancelTimer, RecordMarker, CompleteWorkflowExecution, FailWorkflowExecution, CancelWorkflowExecution, ContinueAsNewWorkflowExecution, StartChildWorkflowExecution, SignalExternalWorkflowExecution, RequestCancelExternalWorkflowExecution}
use Rattle.wf_command.specs.declared.command.ScheduleActivityTask.{ScheduleActivityTask as ScheduleActivity}
use Rattle.wf_command.specs.declared.command.StartChild.{StartChild}
use Rattle.wf_command.specs.declared.command.SignalExternal.{SignalExternal}
use Rattle.wf_command.specs.declared.command.RequestCancelExternal.{RequestCancelExternal}
use Rattle.wf_command.specs.Check.{attributes_fault}
use Rattle.service_model_types.specs.declared.content.Setup.{Setup}
use Rattle.service_model_types.specs.declared.journal.Fact.{Fact}
use Rattle.service_model_types.specs.declared.journal.NewEvent.{NewEvent}
use Rattle.service_model.specs.Journal.{plain}
use Rattle.service_model.specs.Pending.{NoTask, IsStarted, task_of, is_opening, is_settling, is_settled}
use Rattle.service_model.specs.RunState.{RunState, signal_request_by, used, pending, held_attributes, is_open, is_open_status, is_there, queue_of, type_of, last_task}
use Rattle.service_model.specs.Signals.{was_signaled}
use Rattle.service_model.specs.Outcome.{schedule_task}
use Rattle.service_model_types.specs.Routing.{knows_queue}
use Rattle.service_model.specs.Tasks.{is_started_task}
use Rattle.service_model.specs.Completion.{Judged, judge, judge_all, judge_fields_good, go_on, goes_on, after_check, fault_if, gives, cancel_timer, in_use_so_far, in_use_named, has_name, is_full, is_settled_so_far, was_asked_to_cancel, is_attempt_running, cancels_at_once, cancel_facts, is_some_held, is_cancel_of_activity, completed_task}
use Rattle.buffered.specs.Buffers.{pushed, flushed, fires}
use Rattle.mutable_state.specs.Steps.{buffer_of, carried, unheld_by, with_new, with_event, unsettled, used_with, left_by, opened_by, event_id, itself, has_id, MaySettle, may_ask, is_start, Place, IsFirst, IsBehindEnd, place_after, FitsRole, FitsEvent, FitFrom, FitStep}
use Rattle.mutable_state.specs.Readers.{IsGrounded}
use Rattle.mutable_state.proofs.JournalLemmas.{used-more}
use Rattle.mutable_state.proofs.OpenLemmas.{any-push, filter-map, left-is, nat-same, same-as}
use Rattle.buffered.specs.Courses.{cancels_timer}
use Rattle.task_completion.specs.Judging.{IsSoFar, scheduled_by}
use Rattle.task_completion.specs.Outward.{child_asked, external_signal, external_cancel}
use Rattle.task_completion.proofs.SoFarLemmas.{next_event, Comes, uses-more, so-far-more, so-far-none, left-settled, comes-pending, comes-quiet, comes-cancel, id-low, found-in, used-ids, length-push, all-in-use}
use Rattle.mutable_state.proofs.SoFarLemmas.{settled-more}

-- a run in the course of a completion, after the task's end and the facts so far
record Now (s : RunState) (F : List Attributes) (t : RunState) : Type 0 where
  so_far : IsSoFar s F
  still_open : list_any (λ a. is_closing_role (role a)) F ≡ false
  open_run : is_open t ≡ true
  none : t.task ≡ NoTask
  shown : length t.shown ≡ length s.shown + 1 + length F
  used_ids : (c : Class) → map event_id (used c t) ≡ map event_id (in_use_so_far c s F)
  held_less : (c : Class) (id : ℕ) → is_settled c id (held_attributes t) ≡ true → is_settled c id (held_attributes s) ≡ true

ids-any : (id : ℕ) (es : List Event) → has_id id es ≡ list_any (λ n. n == id) (map event_id es)
ids-any id [] = refl
ids-any id (e ∷ es) = ap (λ b. (e.id == id) || b) (ids-any id es)

same-ids : (id : ℕ) (xs ys : List Event) → map event_id xs ≡ map event_id ys → has_id id xs ≡ has_id id ys
same-ids id xs ys h = ids-any id xs ∙ ap (list_any (λ n. n == id)) h ∙ sym (ids-any id ys)

map-append : (xs ys : List Event) → map event_id (xs ++ ys) ≡ map event_id xs ++ map event_id ys
map-append [] ys = refl
map-append (x ∷ xs) ys = ap (λ l. x.id ∷ l) (map-append xs ys)

left-ids : (c : Class) (o : Option Opener) (xs : List Event) → map event_id (left_by c event_id o xs) ≡ filter (λ n. not (is_settling c n o)) (map event_id xs)
left-ids c o xs = ap (map event_id) (left-is c event_id o xs) ∙ sym (filter-map (λ n. not (is_settling c n o)) event_id xs)

opened-ids : (c : Class) (d e : Event) → d.id ≡ e.id → d.attributes ≡ e.attributes → map event_id (opened_by c itself d) ≡ map event_id (opened_by c itself e)
opened-ids c d e id is = ap (λ a. map event_id (cond (is_opening c (opens a)) (d ∷ []) [])) is ∙ one (is_opening c (opens e.attributes))
  where
    one : (b : Bool) → map event_id (cond b (d ∷ []) []) ≡ map event_id (cond b (e ∷ []) [])
    one true = ap (λ n. n ∷ []) id
    one false = refl

-- an event of a command that neither closes the run nor is a workflow task's
record IsPlain (a : Attributes) : Type 0 where
  stays : is_closing_role (role a) ≡ false
  schedules : schedules_task (role a) ≡ false
  turns : task_of (role a) ≡ None
  status : closing_status a ≡ None
  starts : is_start a ≡ false
  signals : signal_request_by None a ≡ None
  fits : (p : Place) (t : RunState) (more : List Fact) → is_started_task t.task ≡ false → FitsRole p (role a) t more

used-next : (at : ℕ) (a : Attributes) (t : RunState) (c : Class) → t.task ≡ NoTask → IsPlain a →
    used c (with_event at None a t) ≡ left_by c event_id (settles a) (used c t) ++ opened_by c itself (record { id = length (with_event at None a t).shown; at = at; attributes = a })
used-next at a t c none is =
    let e : Event = record { id = length (with_event at None a t).shown; at = at; attributes = a } in
    used-more at None a t c
    ∙ ap (λ k. used_with c event_id itself k t.held e (used c t)) none
    ∙ ap (λ b. cond b [] (left_by c event_id (settles a) (cond (schedules_task (role a) || false) (unsettled c event_id t.held (used c t)) (used c t)) ++ opened_by c itself e)) is.stays
    ∙ ap (λ b. left_by c event_id (settles a) (cond (b || false) (unsettled c event_id t.held (used c t)) (used c t)) ++ opened_by c itself e) is.schedules

shown-next : (at : ℕ) (a : Attributes) (t : RunState) → t.task ≡ NoTask → IsPlain a → length (with_event at None a t).shown ≡ length t.shown + 1
shown-next at a t none is =
    let new : NewEvent = record { at = at; attributes = a } in
    ap (λ k. length (with_new k new (buffer_of t)).events) none
    ∙ ap (λ b. length (cond (b || false) (pushed (flushed (buffer_of t)) new) (pushed (unheld_by (role a) (buffer_of t)) new)).events) is.schedules
    ∙ by_role new (role a)
  where
    by_role : (new : NewEvent) (r : Role) → length (pushed (unheld_by r (buffer_of t)) new).events ≡ length t.shown + 1
    by_role new (TimerCancels k) = length-append t.shown _
    by_role new _ = length-append t.shown _

-- no more is buffered
unheld-less : (c : Class) (id started : ℕ) (l : List NewEvent) → is_settled c id (carried (filter (λ (e : NewEvent). not (fires started e.attributes)) l)) ≡ true → is_settled c id (carried l) ≡ true
unheld-less c id started l h = left-settled c id (λ a. not (fires started a)) (carried l) (ap (is_settled c id) (filter-map (λ a. not (fires started a)) (λ (e : NewEvent). e.attributes) l) ∙ h)

held-next : (at : ℕ) (a : Attributes) (t : RunState) (c : Class) (id : ℕ) → t.task ≡ NoTask → IsPlain a → is_settled c id (held_attributes (with_event at None a t)) ≡ true → is_settled c id (held_attributes t) ≡ true
held-next at a t c id none is h =
    let new : NewEvent = record { at = at; attributes = a } in
    by_role new (role a)
    (sym (ap (λ k. is_settled c id (carried (with_new k new (buffer_of t)).held)) none
    ∙ ap (λ b. is_settled c id (carried (cond (b || false) (pushed (flushed (buffer_of t)) new) (pushed (unheld_by (role a) (buffer_of t)) new)).held)) is.schedules) ∙ h)
  where
    by_role : (new : NewEvent) (r : Role) → is_settled c id (carried (pushed (unheld_by r (buffer_of t)) new).held) ≡ true → is_settled c id (carried t.held) ≡ true
    by_role new (TimerCancels k) h = unheld-less c id k t.held h
    by_role new _ h = h

now-more : (at : ℕ) (s : RunState) (F : List Attributes) (a : Attributes) (t : RunState) → IsGrounded s → Now s F t → IsPlain a → Comes s F a → Now s (F ++ a ∷ []) (with_event at None a t)
now-more at s F a t g now is comes =
    let t' = with_event at None a t in
    let shown = shown-next at a t now.none is in
    let e : Event = record { id = length t'.shown; at = at; attributes = a } in
    let push = length-push F a in
    record {
      so_far = so-far-more s F a now.so_far comes;
      still_open = any-push (λ x. is_closing_role (role x)) F a ∙ ap (λ b. b || is_closing_role (role a)) now.still_open ∙ is.stays;
      open_run = ap (λ o. is_there t && is_open_status (unwrap_or o t.status)) is.status ∙ now.open_run;
      none = ap (λ b. cond b NoTask (unwrap_or (task_of (role a)) t.task)) is.stays ∙ ap (λ o. unwrap_or o t.task) is.turns ∙ now.none;
      shown = let old = now.shown in omega (arith, shown, old, push);
      used_ids = λ c.
          ap (map event_id) (used-next at a t c now.none is)
          ∙ map-append (left_by c event_id (settles a) (used c t)) (opened_by c itself e)
          ∙ ap (λ l. l ++ map event_id (opened_by c itself e)) (left-ids c (settles a) (used c t) ∙ ap (filter (λ n. not (is_settling c n (settles a)))) (now.used_ids c) ∙ sym (left-ids c (settles a) (in_use_so_far c s F)))
          ∙ ap (λ l. map event_id (left_by c event_id (settles a) (in_use_so_far c s F)) ++ l) (opened-ids c e (next_event s F a) (let old = now.shown in omega (arith, shown, old)) refl)
          ∙ sym (map-append (left_by c event_id (settles a) (in_use_so_far c s F)) (opened_by c itself (next_event s F a)))
          ∙ ap (map event_id) (sym (uses-more c s F a g now.so_far comes));
      held_less = λ c id h. now.held_less c id (held-next at a t c id now.none is h);
    }

fits-plain : (s : RunState) (F : List Attributes) (a : Attributes) (t : RunState) (more : List Fact) → Now s F t → IsPlain a → MaySettle (role a) (settles a) t → may_ask a t ≡ true → FitsEvent IsBehindEnd t None a more
fits-plain s F a t more now is may asks = record {
  open_run = now.open_run;
  fits_role = is.fits IsBehindEnd t more (ap is_started_task now.none);
  begins_none = is.starts;
  may_settle = may;
  may_ask = asks;
  first_signal = ap (was_signaled t.signal_requests) is.signals;
}

-- the events of the commands that are served

plain-marker : (name details : List ℕ) → IsPlain (MarkerRecorded (record { name = name; details = details }))
unfolding role closing_status
plain-marker name details = record { stays = refl; schedules = refl; turns = refl; status = refl; starts = refl; signals = refl; fits = λ p t more h. h }

plain-timer : (name : List ℕ) (duration : ℕ) → IsPlain (TimerStarted (record { timer_id = name; duration = duration }))
unfolding role closing_status
plain-timer name duration = record { stays = refl; schedules = refl; turns = refl; status = refl; starts = refl; signals = refl; fits = λ p t more h. h }

plain-cancel : (name : List ℕ) (started : ℕ) → IsPlain (TimerCanceled (record { timer_id = name; started = started }))
unfolding role closing_status
plain-cancel name started = record { stays = refl; schedules = refl; turns = refl; status = refl; starts = refl; signals = refl; fits = λ p t more h. h }

plain-scheduled : (c : ScheduleActivity) → IsPlain (scheduled_by c)
unfolding role closing_status
plain-scheduled c = record { stays = refl; schedules = refl; turns = refl; status = refl; starts = refl; signals = refl; fits = λ p t more h. h }

plain-child : (c : StartChild) → IsPlain (child_asked c)
unfolding role closing_status
plain-child c = record { stays = refl; schedules = refl; turns = refl; status = refl; starts = refl; signals = refl; fits = λ p t more h. h }

plain-signal : (c : SignalExternal) → IsPlain (external_signal c)
unfolding role closing_status
plain-signal c = record { stays = refl; schedules = refl; turns = refl; status = refl; starts = refl; signals = refl; fits = λ p t more h. h }

plain-request : (c : RequestCancelExternal) → IsPlain (external_cancel c)
unfolding role closing_status
plain-request c = record { stays = refl; schedules = refl; turns = refl; status = refl; starts = refl; signals = refl; fits = λ p t more h. h }

plain-asked : (id : ℕ) → IsPlain (ActivityTaskCancelRequested id)
unfolding role closing_status
plain-asked id = record { stays = refl; schedules = refl; turns = refl; status = refl; starts = refl; signals = refl; fits = λ p t more h. h }

plain-ended : (id : ℕ) (details : List ℕ) → IsPlain (ActivityTaskCanceled (record { scheduled = id; details = details }))
unfolding role closing_status
plain-ended id details = record { stays = refl; schedules = refl; turns = refl; status = refl; starts = refl; signals = refl; fits = λ p t more h. tt }

-- whether an event closes the run as a command does
abbrev closes_by_command : Attributes → Bool
closes_by_command (WorkflowExecutionCompleted r) = true
closes_by_command (WorkflowExecutionFailed m) = true
closes_by_command (WorkflowExecutionCanceled d) = true
closes_by_command (WorkflowExecutionContinuedAsNew c) = true
closes_by_command _ = false

fits-close : (s : RunState) (F : List Attributes) (a : Attributes) (t : RunState) → Now s F t → closes_by_command a ≡ true → FitsEvent IsBehindEnd t None a []
unfolding role settles
fits-close s F (WorkflowExecutionCompleted r) t now h = record { open_run = now.open_run; fits_role = (ap is_started_task now.none, refl); begins_none = refl; may_settle = tt; may_ask = refl; first_signal = refl }
fits-close s F (WorkflowExecutionFailed m) t now h = record { open_run = now.open_run; fits_role = (ap is_started_task now.none, refl); begins_none = refl; may_settle = tt; may_ask = refl; first_signal = refl }
fits-close s F (WorkflowExecutionCanceled d) t now h = record { open_run = now.open_run; fits_role = (ap is_started_task now.none, refl); begins_none = refl; may_settle = tt; may_ask = refl; first_signal = refl }
fits-close s F (WorkflowExecutionContinuedAsNew c) t now h = record { open_run = now.open_run; fits_role = (ap is_started_task now.none, refl); begins_none = refl; may_settle = tt; may_ask = refl; first_signal = refl }
fits-close s F _ t now h = absurd (cc)

close-closes : (a : Attributes) → closes_by_command a ≡ true → is_closing_role (role a) ≡ true
unfolding role
close-closes (WorkflowExecutionCompleted r) h = refl
close-closes (WorkflowExecutionFailed m) h = refl
close-closes (WorkflowExecutionCanceled d) h = refl
close-closes (WorkflowExecutionContinuedAsNew c) h = refl
close-closes _ h = absurd (cc)

pub fits-schedule : (attempt : ℕ) (whose t : RunState) (p : Place) → is_open t ≡ true → t.task ≡ NoTask → FitsEvent p t None (schedule_task whose attempt) []
unfolding role settles
fits-schedule attempt whose t p opened none = record { open_run = opened; fits_role = (none, refl); begins_none = refl; may_settle = tt; may_ask = refl; first_signal = refl }

stays-behind : (r : Role) → place_after r IsBehindEnd ≡ IsBehindEnd
stays-behind TaskEnds = refl
stays-behind TaskSchedules = refl
stays-behind TaskStarts = refl
stays-behind Closes = refl
stays-behind ComesFromOutside = refl
stays-behind Follows = refl
stays-behind (TimerFires k) = refl
stays-behind (TimerCancels k) = refl

-- the rest of the facts G may come after the facts F, and then a task, where the run goes on
abbrev Goes : ℕ → RunState → List Attributes → List Attributes → RunState → Type 0
Goes at s G F t = (rest : List Attributes) × (G ≡ F ++ rest) × FitFrom IsBehindEnd at t (map plain (rest ++ cond (goes_on s G) (schedule_task s 1 ∷ []) []))

goes-plain : (at : ℕ) (s : RunState) (G F : List Attributes) (a : Attributes) (t : RunState) → Now s F t → IsPlain a → MaySettle (role a) (settles a) t → may_ask a t ≡ true → Goes at s G (F ++ a ∷ []) (with_event at None a t) → Goes at s G F t
goes-plain at s G F a t now is may asks again =
    let (rest, all, fit) = again in
    let tail = rest ++ cond (goes_on s G) (schedule_task s 1 ∷ []) [] in
    (a ∷ rest, all ∙ append_assoc F (a ∷ []) rest, (fits-plain s F a t (map plain tail) now is may asks, subst (λ p. FitFrom p at (with_event at None a t) (map plain tail)) (sym (stays-behind (role a))) fit))

-- nothing comes after the end of the run
closed-stops : (setup : Setup) (next : Run) (s : RunState) (H G : List Attributes) (cs : List Command) → list_any (λ a. is_closing_role (role a)) H ≡ true → judge_all setup next s H cs ≡ Ok G → H ≡ G
unfolding judge_all judge
closed-stops setup next s H G [] closed h = cc
closed-stops setup next s H G (c ∷ cs) closed h =
    absurd (let e = ap (λ b. go_on (fault_if b CommandAfterClose (after_check (attributes_fault c) (judge_fields_good setup next s H c))) (λ facts. judge_all setup next s (H ++ facts) cs)) (sym closed) ∙ h in cc)

goes-close : (at : ℕ) (setup : Setup) (next : Run) (s : RunState) (G F : List Attributes) (a : Attributes) (t : RunState) (cs : List Command) → Now s F t → closes_by_command a ≡ true → judge_all setup next s (F ++ a ∷ []) cs ≡ Ok G → Goes at s G F t
goes-close at setup next s G F a t cs now closes h =
    let p : Attributes → Bool = λ x. is_closing_role (role x) in
    let closed : list_any p (F ++ a ∷ []) ≡ true = any-push p F a ∙ ap (λ b. b || p a) now.still_open ∙ close-closes a closes in
    let all = closed-stops setup next s (F ++ a ∷ []) G cs closed h in
    let stops : goes_on s G ≡ false = ap (goes_on s) (sym all) ∙ ap (λ b. not b && (is_some_held s (F ++ a ∷ []) || list_any is_cancel_of_activity (F ++ a ∷ []))) closed in
    (a ∷ [], sym all, subst (λ b. FitFrom IsBehindEnd at t (map plain (a ∷ cond b (schedule_task s 1 ∷ []) []))) (sym stops) (fits-close s F a t now closes, tt))

-- a fault where a test is true isn't there
no-fault : (b : Bool) (cause : Cause) (rest : Judged) (more : List Attributes → Judged) (G : List Attributes) → go_on (fault_if b cause rest) more ≡ Ok G → (b ≡ false) × (go_on rest more ≡ Ok G)
no-fault true cause rest more G h = absurd (cc)
no-fault false cause rest more G h = (refl, h)

no-check : (r : Result (Unit {0}) Cause) (rest : Judged) (more : List Attributes → Judged) (G : List Attributes) → go_on (after_check r rest) more ≡ Ok G → go_on rest more ≡ Ok G
no-check (Ok u) rest more G h = h
no-check (Err cause) rest more G h = absurd (cc)

may-cancel : (s : RunState) (F : List Attributes) (name : List ℕ) (e : Event) (t : RunState) → Now s F t → in_use_named Timer name s F ≡ Some e → (e.id ≤ length s.shown + 1 + length F) × (has_id e.id (used Timer t) ≡ true)
may-cancel s F name e t now h =
    let f = found-in (length s.shown + 1 + length F) (λ x. has_name name x.attributes) (in_use_so_far Timer s F) e (used-ids Timer s F now.so_far) h in
    (f.0, same-ids e.id (used Timer t) (in_use_so_far Timer s F) (now.used_ids Timer) ∙ f.1)

goes-cancel : (at : ℕ) (setup : Setup) (next : Run) (s : RunState) (G F : List Attributes) (t : RunState) (cs : List Command) (name : List ℕ) → IsGrounded s → Now s F t →
    ((F' : List Attributes) (t' : RunState) → Now s F' t' → judge_all setup next s F' cs ≡ Ok G → Goes at s G F' t') →
    (o : Option Event) → in_use_named Timer name s F ≡ o → go_on (cancel_timer name o) (λ facts. judge_all setup next s (F ++ facts) cs) ≡ Ok G → Goes at s G F t
unfolding role settles
goes-cancel at setup next s G F t cs name g now again None found h = absurd (cc)
goes-cancel at setup next s G F t cs name g now again (Some e) found h =
    let may = may-cancel s F name e t now found in
    let a = TimerCanceled (record { timer_id = name; started = e.id }) in
    let is = plain-cancel name e.id in
    goes-plain at s G F a t now is may.1 refl (again (F ++ a ∷ []) (with_event at None a t) (now-more at s F a t g now is (comes-cancel s F name e.id g may.0)) h)

-- an activity is asked to cancel

has-left : (q : ℕ → Bool) (id : ℕ) (es : List Event) → q id ≡ true → has_id id es ≡ true → has_id id (filter (λ (e : Event). q e.id) es) ≡ true
has-left q id [] is h = absurd (cc)
has-left q id (e ∷ es) is h = by_test (e.id == id) refl h (has-left q id es is)
  where
    by_test : (b : Bool) → (e.id == id) ≡ b → (b || has_id id es) ≡ true → (has_id id es ≡ true → has_id id (filter (λ (x : Event). q x.id) es) ≡ true) → has_id id (filter (λ (x : Event). q x.id) (e ∷ es)) ≡ true
    by_test true same g again =
        ap (λ b. has_id id (cond b (e ∷ filter (λ (x : Event). q x.id) es) (filter (λ (x : Event). q x.id) es))) (ap q (nat-same e.id id same) ∙ is)
        ∙ ap (λ b. b || has_id id (filter (λ (x : Event). q x.id) es)) same
    by_test false same g again = kept (q e.id) (again g)
      where
        or-true : (b : Bool) → (b || true) ≡ true
        or-true true = refl
        or-true false = refl

        kept : (b : Bool) → has_id id (filter (λ (x : Event). q x.id) es) ≡ true → has_id id (cond b (e ∷ filter (λ (x : Event). q x.id) es) (filter (λ (x : Event). q x.id) es)) ≡ true
        kept true k = ap (λ b. (e.id == id) || b) k ∙ or-true (e.id == id)
        kept false k = k

not-true : (b : Bool) → (b ≡ true → ⊥) → b ≡ false
not-true true h = absurd (h refl)
not-true false h = refl

-- what is in use so far, and what nothing settles
in-use-there : (s : RunState) (F : List Attributes) (t : RunState) (c : Class) (id : ℕ) → Now s F t → list_any (λ (e : Event). e.id == id) (in_use_so_far c s F) ≡ true → has_id id (used c t) ≡ true
in-use-there s F t c id now h = same-ids id (used c t) (in_use_so_far c s F) (now.used_ids c) ∙ h

pending-there : (s : RunState) (F : List Attributes) (t : RunState) (c : Class) (id : ℕ) → Now s F t → has_id id (used c t) ≡ true → is_settled c id (held_attributes s) ≡ false → has_id id (pending c t) ≡ true
pending-there s F t c id now there free =
    let low : is_settled c id (held_attributes t) ≡ false = not-true (is_settled c id (held_attributes t)) (λ k. let e = sym (now.held_less c id k) ∙ free in absurd (cc)) in
    has-left (λ n. not (is_settled c n (held_attributes t))) id (used c t) (ap not low) there

-- it is canceled at once, where no attempt is running
goes-asked : (at : ℕ) (setup : Setup) (next : Run) (s : RunState) (G F : List Attributes) (t : RunState) (cs : List Command) (id : ℕ) → IsGrounded s → Now s F t →
    ((F' : List Attributes) (t' : RunState) → Now s F' t' → judge_all setup next s F' cs ≡ Ok G → Goes at s G F' t') →
    list_any (λ (e : Event). e.id == id) (in_use_so_far Activity s F) ≡ true → (b : Bool) → (b ≡ true → is_settled_so_far Activity id s F ≡ false) → judge_all setup next s (F ++ cancel_facts id b) cs ≡ Ok G → Goes at s G F t
unfolding role settles opens
goes-asked at setup next s G F t cs id g now again there false free h =
    let a = ActivityTaskCancelRequested id in
    let is = plain-asked id in
    goes-plain at s G F a t now is tt (in-use-there s F t Activity id now there) (again (F ++ a ∷ []) (with_event at None a t) (now-more at s F a t g now is (comes-quiet s F a refl refl)) h)
goes-asked at setup next s G F t cs id g now again there true free h =
    let a = ActivityTaskCancelRequested id in
    let b = ActivityTaskCanceled (record { scheduled = id; details = [] }) in
    let is = plain-asked id in
    let ends = plain-ended id [] in
    let t' = with_event at None a t in
    let F' = F ++ a ∷ [] in
    let now' = now-more at s F a t g now is (comes-quiet s F a refl refl) in
    let still : is_settled_so_far Activity id s F' ≡ false = settled-more Activity id s F a ∙ or-false (is_settled_so_far Activity id s F) ∙ free refl in
    let used_there : has_id id (used Activity t') ≡ true = ap (has_id id) (used-next at a t Activity now.none is ∙ append-nil (used Activity t)) ∙ in-use-there s F t Activity id now there in
    let low = id-low Activity id s F now.so_far there in
    let push = length-push F a in
    let comes = comes-pending s F' b refl (λ c n k. let same = same-as c n (record { class = Activity; event = id }) k in
    (ap (λ d. is_settled_so_far d n s F') same.class_is ∙ ap (λ m. is_settled_so_far Activity m s F') same.id_is ∙ still, subst (λ m. m ≤ length s.shown + 1 + length F') (sym same.id_is) (omega (arith, low, push)))) in
    goes-plain at s G F a t now is tt (in-use-there s F t Activity id now there)
    (goes-plain at s G F' b t' now' ends (pending-there s F' t' Activity id now' used_there (left-free (is_settled Activity id (held_attributes s)) (is_settled Activity id F') still)) refl
    (again (F' ++ b ∷ []) (with_event at None b t') (now-more at s F' b t' g now' ends comes) (ap (λ l. judge_all setup next s l cs) (append_assoc F (a ∷ []) (b ∷ [])) ∙ h)))
  where
    or-false : (b : Bool) → (b || false) ≡ b
    or-false true = refl
    or-false false = refl

    left-free : (x y : Bool) → (x || y) ≡ false → x ≡ false
    left-free true y k = absurd (cc)
    left-free false y k = refl

goes-request : (at : ℕ) (setup : Setup) (next : Run) (s : RunState) (G F : List Attributes) (t : RunState) (cs : List Command) (id : ℕ) → IsGrounded s → Now s F t →
    ((F' : List Attributes) (t' : RunState) → Now s F' t' → judge_all setup next s F' cs ≡ Ok G → Goes at s G F' t') →
    (not (list_any (λ (e : Event). e.id == id) (in_use_so_far Activity s F)) || was_asked_to_cancel id s F) ≡ false → judge_all setup next s (F ++ cancel_facts id (cancels_at_once id s F)) cs ≡ Ok G → Goes at s G F t
goes-request at setup next s G F t cs id g now again free h =
    goes-asked at setup next s G F t cs id g now again (there (list_any (λ (e : Event). e.id == id) (in_use_so_far Activity s F)) (was_asked_to_cancel id s F) free) (cancels_at_once id s F)
    (λ k. unsettled_one (is_settled_so_far Activity id s F) (not (is_attempt_running s id)) k) h
  where
    there : (x y : Bool) → (not x || y) ≡ false → x ≡ true
    there true y k = refl
    there false y k = absurd (cc)

    unsettled_one : (x y : Bool) → (not x && y) ≡ true → x ≡ false
    unsettled_one true y k = absurd (cc)
    unsettled_one false y k = refl

-- something is asked of another workflow
goes-asked-outward : (at : ℕ) (setup : Setup) (next : Run) (s : RunState) (G F : List Attributes) (t : RunState) (cs : List Command) (d : Class) (limit : Cause) (a : Attributes) → IsGrounded s → Now s F t →
    ((F' : List Attributes) (t' : RunState) → Now s F' t' → judge_all setup next s F' cs ≡ Ok G → Goes at s G F' t') →
    IsPlain a → settles a ≡ None → cancels_timer (role a) ≡ false → may_ask a t ≡ true → MaySettle (role a) (settles a) t → go_on (fault_if (is_full d s F) limit (gives a)) (λ facts. judge_all setup next s (F ++ facts) cs) ≡ Ok G → Goes at s G F t
goes-asked-outward at setup next s G F t cs d limit a g now again is none stays asks may h =
    let room = no-fault (is_full d s F) limit (gives a) (λ facts. judge_all setup next s (F ++ facts) cs) G h in
    goes-plain at s G F a t now is may asks (again (F ++ a ∷ []) (with_event at None a t) (now-more at s F a t g now is (comes-quiet s F a stays none)) room.1)

-- one command, and the rest
goes-one : (at : ℕ) (setup : Setup) (next : Run) (s : RunState) (G F : List Attributes) (t : RunState) (cs : List Command) → IsGrounded s → Now s F t →
    ((F' : List Attributes) (t' : RunState) → Now s F' t' → judge_all setup next s F' cs ≡ Ok G → Goes at s G F' t') →
    (command : Command) → go_on (after_check (attributes_fault command) (judge_fields_good setup next s F command)) (λ facts. judge_all setup next s (F ++ facts) cs) ≡ Ok G → Goes at s G F t
unfolding judge_fields_good role settles
goes-one at setup next s G F t cs g now again (RecordMarker m) h =
    let a = MarkerRecorded (record { name = m.name; details = m.details }) in
    let is = plain-marker m.name m.details in
    goes-plain at s G F a t now is tt refl (again (F ++ a ∷ []) (with_event at None a t) (now-more at s F a t g now is (comes-quiet s F a refl refl)) h)
goes-one at setup next s G F t cs g now again (ScheduleActivityTask c) h =
    let a = scheduled_by c in
    let is = plain-scheduled c in
    let more : List Attributes → Judged = λ facts. judge_all setup next s (F ++ facts) cs in
    let few : Judged = fault_if (is_full Activity s F) PendingActivitiesLimitExceeded (gives a) in
    let free : Judged = fault_if (is_some (in_use_named Activity c.activity_id s F)) ScheduleActivityDuplicateId few in
    let good = no-check (attributes_fault (ScheduleActivityTask c)) (fault_if (not (knows_queue setup c.task_queue)) BadScheduleActivityAttributes free) more G h in
    let known = no-fault (not (knows_queue setup c.task_queue)) BadScheduleActivityAttributes free more G good in
    let unused = no-fault (is_some (in_use_named Activity c.activity_id s F)) ScheduleActivityDuplicateId few more G known.1 in
    let room = no-fault (is_full Activity s F) PendingActivitiesLimitExceeded (gives a) more G unused.1 in
    goes-plain at s G F a t now is tt refl (again (F ++ a ∷ []) (with_event at None a t) (now-more at s F a t g now is (comes-quiet s F a refl refl)) room.1)
goes-one at setup next s G F t cs g now again (RequestCancelActivityTask id) h =
    let free = no-fault (not (list_any (λ (e : Event). e.id == id) (in_use_so_far Activity s F)) || was_asked_to_cancel id s F) BadRequestCancelActivityAttributes (Ok (cancel_facts id (cancels_at_once id s F))) (λ facts. judge_all setup next s (F ++ facts) cs) G h in
    goes-request at setup next s G F t cs id g now again free.0 free.1
goes-one at setup next s G F t cs g now again (StartTimer c) h =
    let a = TimerStarted (record { timer_id = c.timer_id; duration = c.duration }) in
    let is = plain-timer c.timer_id c.duration in
    let more : List Attributes → Judged = λ facts. judge_all setup next s (F ++ facts) cs in
    let good = no-check (attributes_fault (StartTimer c)) (fault_if (is_some (in_use_named Timer c.timer_id s F)) StartTimerDuplicateId (gives a)) more G h in
    let free = no-fault (is_some (in_use_named Timer c.timer_id s F)) StartTimerDuplicateId (gives a) more G good in
    goes-plain at s G F a t now is tt refl (again (F ++ a ∷ []) (with_event at None a t) (now-more at s F a t g now is (comes-quiet s F a refl refl)) free.1)
goes-one at setup next s G F t cs g now again (CancelTimer name) h = goes-cancel at setup next s G F t cs name g now again (in_use_named Timer name s F) refl h
goes-one at setup next s G F t cs g now again (CompleteWorkflowExecution r) h =
    goes-close at setup next s G F (WorkflowExecutionCompleted r) t cs now refl (no-fault (is_some_held s F) UnhandledCommand (gives (WorkflowExecutionCompleted r)) (λ facts. judge_all setup next s (F ++ facts) cs) G h).1
goes-one at setup next s G F t cs g now again (FailWorkflowExecution m) h =
    goes-close at setup next s G F (WorkflowExecutionFailed m) t cs now refl (no-fault (is_some_held s F) UnhandledCommand (gives (WorkflowExecutionFailed m)) (λ facts. judge_all setup next s (F ++ facts) cs) G h).1
goes-one at setup next s G F t cs g now again (CancelWorkflowExecution d) h =
    goes-close at setup next s G F (WorkflowExecutionCanceled d) t cs now refl (no-fault (is_some_held s F) UnhandledCommand (gives (WorkflowExecutionCanceled d)) (λ facts. judge_all setup next s (F ++ facts) cs) G h).1
goes-one at setup next s G F t cs g now again (ContinueAsNewWorkflowExecution c) h =
    let a = WorkflowExecutionContinuedAsNew (record { new_run = next; workflow_type = unwrap_or c.workflow_type (type_of s); task_queue = unwrap_or c.task_queue (queue_of s); input = c.input }) in
    let more : List Attributes → Judged = λ facts. judge_all setup next s (F ++ facts) cs in
    let known = no-fault (not (knows_queue setup (unwrap_or c.task_queue (queue_of s)))) BadContinueAsNewAttributes (fault_if (is_some_held s F) UnhandledCommand (gives a)) more G h in
    goes-close at setup next s G F a t cs now refl (no-fault (is_some_held s F) UnhandledCommand (gives a) more G known.1).1
goes-one at setup next s G F t cs g now again (StartChildWorkflowExecution c) h =
    let more : List Attributes → Judged = λ facts. judge_all setup next s (F ++ facts) cs in
    let few : Judged = fault_if (is_full Child s F) PendingChildWorkflowsLimitExceeded (gives (child_asked c)) in
    let known = no-fault (not (knows_queue setup c.task_queue)) BadStartChildExecutionAttributes few more G h in
    goes-asked-outward at setup next s G F t cs Child PendingChildWorkflowsLimitExceeded (child_asked c) g now again (plain-child c) refl refl refl tt known.1
goes-one at setup next s G F t cs g now again (SignalExternalWorkflowExecution c) h = goes-asked-outward at setup next s G F t cs Signal PendingSignalsLimitExceeded (external_signal c) g now again (plain-signal c) refl refl refl tt h
goes-one at setup next s G F t cs g now again (RequestCancelExternalWorkflowExecution c) h = goes-asked-outward at setup next s G F t cs Cancel PendingRequestCancelLimitExceeded (external_cancel c) g now again (plain-request c) refl refl refl tt h

goes-none : (at : ℕ) (s : RunState) (F : List Attributes) (t : RunState) → Now s F t → (b : Bool) → goes_on s F ≡ b → Goes at s F F t
goes-none at s F t now true is = ([], sym (append-nil F), subst (λ b. FitFrom IsBehindEnd at t (map plain (cond b (schedule_task s 1 ∷ []) []))) (sym is) (fits-schedule 1 s t IsBehindEnd now.open_run now.none, tt))
goes-none at s F t now false is = ([], sym (append-nil F), subst (λ b. FitFrom IsBehindEnd at t (map plain (cond b (schedule_task s 1 ∷ []) []))) (sym is) tt)

goes : (at : ℕ) (setup : Setup) (next : Run) (s : RunState) (G : List Attributes) → IsGrounded s → (commands : List Command) (F : List Attributes) (t : RunState) → Now s F t → judge_all setup next s F commands ≡ Ok G → Goes at s G F t
unfolding judge_all judge
goes at setup next s G g [] F t now h = let is : F ≡ G = cc in subst (λ H. Goes at s H F t) is (goes-none at s F t now (goes_on s F) refl)
goes at setup next s G g (command ∷ cs) F t now h =
    goes-one at setup next s G F t cs g now (λ F' t' n e. goes at setup next s G g cs F' t' n e) command
    (ap (λ b. go_on (fault_if b CommandAfterClose (after_check (attributes_fault command) (judge_fields_good setup next s F command))) (λ facts. judge_all setup next s (F ++ facts) cs)) (sym now.still_open) ∙ h)

-- the end of a started task
end-fits : (scheduled started : ℕ) (more : List Fact) (s : RunState) → is_open s ≡ true → s.task ≡ IsStarted → FitsEvent IsFirst s None (WorkflowTaskCompleted (record { scheduled = scheduled; started = started })) more
unfolding role settles
end-fits scheduled started more s opened task = record { open_run = opened; fits_role = (task, tt); begins_none = refl; may_settle = tt; may_ask = refl; first_signal = refl }

now-first : (at scheduled started : ℕ) (s : RunState) → IsGrounded s → is_open s ≡ true → s.task ≡ IsStarted → Now s [] (with_event at None (WorkflowTaskCompleted (record { scheduled = scheduled; started = started })) s)
unfolding role opens settles closing_status in_use_so_far
now-first at scheduled started s g opened task =
    let a = WorkflowTaskCompleted (record { scheduled = scheduled; started = started }) in
    record {
      so_far = so-far-none s g;
      still_open = refl;
      open_run = opened;
      none = refl;
      shown = ap (λ k. length (with_new k (record { at = at; attributes = a }) (buffer_of s)).events) task ∙ length-append s.shown _ ∙ (let e : length s.shown + 1 ≡ length s.shown + 1 + 0 = omega arith in e);
      held_less = λ c id h. sym (ap (λ k. is_settled c id (carried (with_new k (record { at = at; attributes = a }) (buffer_of s)).held)) task) ∙ h;
      used_ids = λ c. ap (map event_id) (used-more at None a s c ∙ ap (λ k. used_with c event_id itself k s.held (record { id = length (with_event at None a s).shown; at = at; attributes = a }) (used c s)) task ∙ append-nil (used c s) ∙ sym (all-in-use c s));
    }

-- what a completion adds to its run may come
pub completed-fits : (at : ℕ) (setup : Setup) (next : Run) (s : RunState) (commands : List Command) (F : List Attributes) → IsGrounded s → is_open s ≡ true → s.task ≡ IsStarted → judge_all setup next s [] commands ≡ Ok F →
    FitStep at s (map plain (completed_task s F))
unfolding role completed_task
completed-fits at setup next s commands F g opened task h =
    let t = last_task s in
    let (rest, all, fit) = goes at setup next s F g commands [] (with_event at None (WorkflowTaskCompleted (record { scheduled = t.scheduled; started = t.started })) s) (now-first at t.scheduled t.started s g opened task) h in
    let tail = F ++ cond (goes_on s F) (schedule_task s 1 ∷ []) [] in (
      end-fits t.scheduled t.started (map plain tail) s opened task,
      subst (λ l. FitFrom IsBehindEnd at (with_event at None (WorkflowTaskCompleted (record { scheduled = t.scheduled; started = t.started })) s) (map plain (l ++ cond (goes_on s F) (schedule_task s 1 ∷ []) []))) (sym all) fit,
    )
