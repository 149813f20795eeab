-- what each request's definition does to runs may be done, whatever is asked
use Rattle.std.proofs.Common.{◌≡◌, ℕ, ◌-◌, ◌<◌, zero, suc, Bool, true, false, cond, List, [], ◌∷◌, length, refl, sym, ap, ◌∙◌, subst, arith, Option, Some, None, Ok, Err, slice_set, IfSome}
use Rattle.std.specs.Prelude.{codes, map, nat_le, nat_lt, not, option_map, unwrap_or, ◌&&◌, ◌==◌}
use Rattle.wf_event_values.specs.Run.{Run}
use Rattle.wf_event_values.specs.declared.policies.CancelSource.TheVariants.{Parent as ByParent, External as ByExternal}
use Rattle.wf_event_values.specs.declared.policies.Cause.TheVariants.{WorkflowAlreadyExists, WorkflowWorkerUnhandledFailure}
use Rattle.wf_event_values.specs.declared.policies.ParentClosePolicy.{ParentClosePolicy}
use Rattle.wf_event_values.specs.declared.policies.ParentClosePolicy.TheVariants as policy
use Rattle.wf_event_values.specs.declared.policies.TaskKind.{TaskKind}
use Rattle.wf_event_values.specs.declared.policies.TaskKind.TheVariants.{Workflow, Activity}
use Rattle.wf_event.specs.declared.attributes.Attributes.{Attributes}
use Rattle.wf_event.specs.declared.attributes.Attributes.TheVariants.{WorkflowExecutionCancelRequested, WorkflowExecutionSignaled, WorkflowExecutionTerminated, WorkflowTaskStarted, ActivityTaskCompleted, ActivityTaskFailed, ActivityTaskCanceled, ChildWorkflowExecutionStarted, StartChildWorkflowExecutionFailed}
use Rattle.wf_event.specs.declared.payloads.ActivityTaskScheduled.{ActivityTaskScheduled as ScheduledAttributes}
use Rattle.wf_event.specs.declared.role.Class.{Class}
use Rattle.wf_event.specs.declared.role.Class.TheVariants as class
use Rattle.wf_command.specs.declared.command.ContinueAsNew.{ContinueAsNew}
use Rattle.service_model_types.specs.Routing.{knows_queue, shard_of}
use Rattle.service_model_types.specs.declared.answer.Acknowledged.{Acknowledged as Acknowledgement}
use Rattle.service_model_types.specs.declared.answer.Acknowledged.TheVariants.{Acknowledged, Already, OutOfOrder as NotInOrder}
use Rattle.service_model_types.specs.declared.answer.Answer.{Answer}
use Rattle.service_model_types.specs.declared.content.Content.{Content}
use Rattle.service_model_types.specs.declared.content.Outgoing.{Outgoing}
use Rattle.service_model_types.specs.declared.content.Setup.{Setup}
use Rattle.service_model_types.specs.declared.journal.CancelRequest.{CancelRequest}
use Rattle.service_model_types.specs.declared.journal.Fact.{Fact}
use Rattle.service_model_types.specs.declared.journal.Note.TheVariants.{Beat, Ended, Taken}
use Rattle.service_model_types.specs.declared.request.Acknowledge.{Acknowledge}
use Rattle.service_model_types.specs.declared.request.ActivityText.{ActivityText}
use Rattle.service_model_types.specs.declared.request.CompleteWorkflowTask.{CompleteWorkflowTask}
use Rattle.service_model_types.specs.declared.request.FailActivity.{FailActivity}
use Rattle.service_model_types.specs.declared.request.FailWorkflowTask.{FailWorkflowTask}
use Rattle.service_model_types.specs.declared.request.Operation.{Operation}
use Rattle.service_model_types.specs.declared.request.Operation.TheVariants as operation
use Rattle.service_model_types.specs.declared.request.Read.{Read}
use Rattle.service_model_types.specs.declared.request.RequestCancel.{RequestCancel}
use Rattle.service_model_types.specs.declared.request.Signal.{Signal}
use Rattle.service_model_types.specs.declared.request.SignalWithStart.{SignalWithStart}
use Rattle.service_model_types.specs.declared.request.Start.{Start}
use Rattle.service_model_types.specs.declared.request.TakenTask.{TakenTask}
use Rattle.service_model_types.specs.declared.request.Terminate.{Terminate}
use Rattle.service_model_types.specs.declared.request.WaitingTask.{WaitingTask}
use Rattle.service_model_types.specs.declared.transfer.CancelExternalTransfer.{CancelExternalTransfer}
use Rattle.service_model_types.specs.declared.transfer.CloseChild.{CloseChild as CloseChildContent}
use Rattle.service_model_types.specs.declared.transfer.Delivery.{Delivery}
use Rattle.service_model_types.specs.declared.transfer.Delivery.TheVariants.{Accepted as IsNext, AlreadyDelivered, OutOfOrder}
use Rattle.service_model_types.specs.declared.transfer.SignalExternalTransfer.{SignalExternalTransfer}
use Rattle.service_model_types.specs.declared.transfer.StartChildTransfer.{StartChildTransfer}
use Rattle.service_model_types.specs.declared.transfer.Transfer.{Transfer}
use Rattle.service_model_types.specs.declared.transfer.TransferContent.{TransferContent}
use Rattle.service_model_types.specs.declared.transfer.TransferContent.TheVariants as content
use Rattle.service_model.specs.Activities.{beat_at, by_verdict, cancel_activity, cancel_running, close_deadline, complete_activity, complete_at, ends_activity, fail_activity, fail_at, fail_fields, heartbeat, keep_running, running_attempt, verdict_at}
use Rattle.service_model.specs.Aging.{AreAged, IsOldestRun}
use Rattle.service_model.specs.Cancels.{cancel_found, cancel_open, is_client, is_same_or_absent, request_cancel, terminate, terminate_at}
use Rattle.service_model.specs.Completion.{Judged, completed_task, judge_all}
use Rattle.service_model.specs.Counts.{acknowledge, acknowledgement_of, acknowledges, by_acknowledgement, dispatched, next_dispatch, next_transfer}
use Rattle.service_model.specs.Deadlines.{scheduled_fields}
use Rattle.service_model.specs.Deliveries.{accepted_from, answers_pending, asked_before, by_delivery, cancel_external, child_closed_event, close_by_policy, close_child, comes_from, deliver, delivery_of, effect, external_class, external_event, is_child_of, is_for_shard, own_run, pending_asked, pending_id, signal_external, start_child}
use Rattle.service_model.specs.IdPolicy.{Decision, New, Same, Existing, TerminateThenNew, Refused, decide}
use Rattle.service_model.specs.Journal.{latest, plain}
use Rattle.service_model.specs.Outcome.{Outcome, Added, Counting, CountsDispatch, AcknowledgesTo, Runs, adds, answered, has_run, if_some, keep_open, latest_run, named_run, next_ordinal, on_shard, open_run, outside, run_at, run_id, takes_away}
use Rattle.service_model.specs.Pending.{Task, NoTask, IsScheduled, IsStarted}
use Rattle.service_model.specs.Reads.{history, history_at, describe, describe_at}
use Rattle.service_model.specs.Retry.{FailedAttempt, Verdict, GivesUp, RetriesAt}
use Rattle.service_model.specs.RunState.{ActivityRow, Beginning, RunState, id_of, is_open, is_there, no_run, parent_of, pending}
use Rattle.service_model.specs.Service.{outcome, runs_of}
use Rattle.service_model.specs.Signals.{signal, signal_at, signal_fact, signal_or_start, start_in, signal_with_start, signals, was_signaled}
use Rattle.service_model.specs.Starts.{by_decision, decision, first_task, start}
use Rattle.service_model.specs.Tasks.{complete_judged, complete_workflow_task, continue_part, continued, fail_workflow_task, pending_row, runs_workflow, start_task, started_behind, take_by_kind, take_fields, take_row, waits_activity, waits_workflow}
use Rattle.service_model.specs.TimerTurns.{RunDue, all_dues, due_now, fire, fire_due, fired, is_retention, least, timer_turn}
use Rattle.service_model.proofs.ThereLemmas.{open-there, none-there}
use Rattle.mutable_state.specs.Readers.{IsGrounded}
use Rattle.mutable_state.specs.Steps.{FitStep, IsNotLast, after_step, has_id}
use Rattle.timeouts.proofs.AgeLemmas.{oldest-goes}
use Rattle.timeouts.proofs.FirstLemmas.{due-of-run}
use Rattle.task_completion.proofs.EndLemmas.{failed-fits}
use Rattle.task_completion.proofs.FitLemmas.{completed-fits}
use Rattle.shard_steps.specs.Attempts.{ended_activity}
use Rattle.shard_steps.specs.Starts.{MayBegin, beginning_of, first_facts, signaled_beginning}
use Rattle.shard_steps.specs.declared.starts.Beginning.{Beginning as NewBeginning}
use Rattle.shard_steps.proofs.ClosingLemmas.{completed-behind, continues-close, terminated-behind}
use Rattle.shard_steps.proofs.EndingLemmas.{NotLast, ending-fits, note-fits, not-last, pending-named, pending-of}
use Rattle.shard_steps.proofs.StartLemmas.{cancel-fits, decides-new, decides-open, first-fits, signal-fits, signaled-fits, terminate-fits}
use Rattle.shard_steps.proofs.TaskLemmas.{running-started, take-fits, waiting-scheduled}
use Rattle.shard_steps.proofs.TurnLemmas.{fire-fits}
use Rattle.shard_store.specs.Fitting.{IsFree, state_at}
use Rattle.shard_store.specs.Open.{HasClosed, IsOneOpen}
use Rattle.shard_store.proofs.OpenLemmas.{closed-alone, free-closed, latest-named, latest-there}
use Rattle.shard_deliveries.specs.Accepting.{IsFromOutside}
use Rattle.shard_deliveries.specs.Children.{child_beginning, is_free_for}
use Rattle.shard_deliveries.proofs.ChildLemmas.{child-free}
use Rattle.shard_deliveries.proofs.FitLemmas.{asked-waits, cancel-comes, child-closed-comes, child-failed-comes, child-started-comes, external-comes, outside-fits, signal-comes}

-- ---- what may be done

-- what of a run is so that stands for a journal: a run that has closed has no workflow task, and uses nothing
pub record IsUsable (s : RunState) : Type 0 where
  pub grounded : IsGrounded s
  pub no_task : is_there s ≡ true → is_open s ≡ false → s.task ≡ NoTask
  pub open_use : (c : Class) (id : ℕ) → is_there s ≡ true → has_id id (pending c s) ≡ true → is_open s ≡ true

abbrev pub AreUsable : Runs → Type 0
AreUsable R = (n : ℕ) → IsUsable (run_at R n)

-- the runs once a step has added to one
abbrev pub states_added : Runs → Option Added → List RunState
states_added R None = R.states
states_added R (Some a) = slice_set R.states (a.run - 1) (after_step R.moment a.facts (run_at R a.run))

abbrev pub AddedMay : Runs → Option Added → Type 0
AddedMay R None = Unit {0}
AddedMay R (Some a) = FitStep R.moment (run_at R a.run) a.facts

-- a run that may begin so, and stands beside no open one of its workflow ID
pub record IsNew (R : Runs) (a : Option Added) (facts : List Fact) : Type 0 where
  pub beginning : NewBeginning
  pub is : facts ≡ first_facts beginning
  pub begins : MayBegin R.moment beginning
  pub free : IsOneOpen R.states → HasClosed (states_added R a) beginning.started.workflow_id

abbrev pub CreatedMay : Runs → Option Added → Option (List Fact) → Type 0
CreatedMay R a None = Unit {0}
CreatedMay R a (Some facts) = IsNew R a facts

-- a run that is deleted goes before the younger ones of its workflow ID, and nothing else is done
abbrev pub RemovedMay : Runs → Option Added → Option (List Fact) → Option ℕ → Type 0
RemovedMay R a c None = Unit {0}
RemovedMay R a c (Some n) = (a ≡ None) × (c ≡ None) × ((last : ℕ) → IsOneOpen R.states → AreAged last R.states → IsOldestRun R.states (n - 1))

pub record MayDo (R : Runs) (o : Outcome) : Type 0 where
  pub added : AddedMay R o.added
  pub created : CreatedMay R o.added o.created
  pub removed : RemovedMay R o.added o.created o.removed

may : {R : Runs} {o : Outcome} → AddedMay R o.added → CreatedMay R o.added o.created → RemovedMay R o.added o.created o.removed → MayDo R o
may h k g = record { added = h; created = k; removed = g }

either : {R : Runs} {x y : Outcome} (b : Bool) → MayDo R x → MayDo R y → MayDo R (cond b x y)
either true h k = h
either false h k = k

guarded : {R : Runs} {x y : Outcome} (b : Bool) → (b ≡ true → MayDo R x) → MayDo R y → MayDo R (cond b x y)
guarded true h k = h refl
guarded false h k = k

here : (R : Runs) (id : List ℕ) (o : Outcome) → MayDo R o → MayDo R (on_shard R.setup id o)
here R id o h = either (shard_of R.setup id == R.setup.shard) h (may tt tt tt)

same-some : {A : Type 0} (x y : A) → Some x ≡ Some y → x ≡ y
same-some x y e = cc

first-true : (a b : Bool) → (a && b) ≡ true → a ≡ true
first-true true b h = refl
first-true false b h = absurd (cc h)

second-true : (a b : Bool) → (a && b) ≡ true → b ≡ true
second-true true b h = h
second-true false b h = absurd (cc h)

has-there : (R : Runs) (n : ℕ) → has_run R n ≡ true → is_there (run_at R n) ≡ true
has-there R n h = second-true (nat_le 1 n && nat_le n (length R.states)) (is_there (run_at R n)) h

kept-open : (R : Runs) (o : Option ℕ) (n : ℕ) → keep_open R o ≡ Some n → is_open (run_at R n) ≡ true
kept-open R None n e = absurd (cc e)
kept-open R (Some m) n e = by_test (is_open (run_at R m)) refl e
  where
    by_test : (b : Bool) → is_open (run_at R m) ≡ b → if_some b m ≡ Some n → is_open (run_at R n) ≡ true
    by_test true opened e = subst (λ k. is_open (run_at R k) ≡ true) (same-some m n e) opened
    by_test false opened e = absurd (cc e)

-- a run that is there stands in the list
in-range : (runs : List RunState) (k : ℕ) → is_there (state_at runs k) ≡ true → k < length runs
unfolding no_run
in-range [] k there = absurd (let f = none-there.0 in cc (f, there))
in-range (s ∷ runs) zero there = omega arith
in-range (s ∷ runs) (suc k) there = let l = in-range runs k there in omega (arith, l)

-- a run with a workflow task is open
open-by-task : (s : RunState) (t : Task) → IsUsable s → is_there s ≡ true → s.task ≡ t → (t ≡ NoTask → ⊥) → is_open s ≡ true
open-by-task s t ready there is some = by_test (is_open s) refl
  where
    by_test : (b : Bool) → is_open s ≡ b → b ≡ true
    by_test true e = refl
    by_test false e = absurd (some (sym is ∙ ready.no_task there e))

-- ---- starts and signals

free-for : (R : Runs) (q : Start) (o : Option ℕ) → latest_run R.states q.workflow_id ≡ o → decision R q o ≡ New → IsFree R.states q.workflow_id
free-for R q None is e = subst (λ x. IfSome x (λ n. is_open (state_at R.states (n - 1)) ≡ false)) (sym is) tt
free-for R q (Some n) is e = subst (λ x. IfSome x (λ n. is_open (state_at R.states (n - 1)) ≡ false)) (sym is) (decides-new R q n e)

decided : (R : Runs) (q : Start) (b : NewBeginning) (o : Option ℕ) → b.started.workflow_id ≡ q.workflow_id → MayBegin R.moment b → latest_run R.states q.workflow_id ≡ o → (d : Decision) → decision R q o ≡ d → MayDo R (by_decision R (unwrap_or o 0) (first_facts b) d)
unfolding decide
decided R q b o named begins is New e = may tt (record { beginning = b; is = refl; begins = begins; free = λ one. subst (HasClosed R.states) (sym named) (free-closed R.states q.workflow_id (free-for R q o is e) one) }) tt
decided R q b o named begins is Same e = may tt tt tt
decided R q b o named begins is Existing e = may tt tt tt
decided R q b None named begins is TerminateThenNew e = absurd (cc e)
decided R q b (Some n) named begins is TerminateThenNew e =
    let there = latest-there R.states q.workflow_id n is in
    let opened = decides-open R q n there e in
    let reason = codes "TerminateExisting" in
    let s = run_at R n in
    may (terminate-fits R.moment s reason opened)
    (record {
      beginning = b;
      is = refl;
      begins = begins;
      free = λ one. subst (HasClosed (slice_set R.states (n - 1) (after_step R.moment (plain (WorkflowExecutionTerminated reason) ∷ []) s))) (latest-named R.states q.workflow_id n is ∙ sym named)
          (closed-alone R.states (n - 1) (after_step R.moment (plain (WorkflowExecutionTerminated reason) ∷ []) s) (in-range R.states (n - 1) there) opened (terminated-behind R.moment s reason) one);
    })
    tt
decided R q b o named begins is Refused e = may tt tt tt

start-may : (R : Runs) (q : Start) → MayDo R (start R q)
unfolding start
start-may R q =
    let b = beginning_of R.moment q in
    here R q.workflow_id _ (either (knows_queue R.setup q.task_queue) (decided R q b (latest_run R.states q.workflow_id) refl (first-fits R.moment q.request_id b.started q.task_queue) refl _ refl) (may tt tt tt))

signals-may : (R : Runs) (n : ℕ) (request : Option (List ℕ)) (name input : List ℕ) (first again : Answer) → is_open (run_at R n) ≡ true → MayDo R (signals R n request (signal_fact request name input) first again)
signals-may R n request name input first again opened = by_test (was_signaled (run_at R n).signal_requests request) refl
  where
    by_test : (b : Bool) → was_signaled (run_at R n).signal_requests request ≡ b → MayDo R (cond b (answered again) (adds n (outside (run_at R n) (signal_fact request name input ∷ [])) first))
    by_test true is = may tt tt tt
    by_test false is = may (signal-fits R.moment (run_at R n) request name input opened is) tt tt

signal-may : (R : Runs) (q : Signal) → MayDo R (signal R q)
unfolding signal
signal-may R q = here R q.workflow_id _ (at (open_run R q.workflow_id q.run) refl)
  where
    at : (n : Option ℕ) → open_run R q.workflow_id q.run ≡ n → MayDo R (signal_at R q n)
    at None is = may tt tt tt
    at (Some n) is = signals-may R n q.request_id q.name q.input _ _ (kept-open R _ n is)

signal_with_start-may : (R : Runs) (q : SignalWithStart) → MayDo R (signal_with_start R q)
unfolding signal_with_start
signal_with_start-may R q = here R q.workflow_id _ (either (knows_queue R.setup q.task_queue) (at (open_run R q.workflow_id None) refl) (may tt tt tt))
  where
    at : (n : Option ℕ) → open_run R q.workflow_id None ≡ n → MayDo R (signal_or_start R q n)
    at None is = decided R (start_in q) (signaled_beginning R.moment q) (latest_run R.states q.workflow_id) refl (signaled-fits R.moment q) refl _ refl
    at (Some n) is = signals-may R n q.request_id q.name q.signal_input _ _ (kept-open R _ n is)

-- ---- requests to cancel, terminations and readings

request_cancel-may : (R : Runs) (q : RequestCancel) → MayDo R (request_cancel R q)
unfolding request_cancel
request_cancel-may R q = here R q.workflow_id _ (at (open_run R q.workflow_id q.run) refl)
  where
    opened : (n : ℕ) (before : Option CancelRequest) → is_open (run_at R n) ≡ true → MayDo R (cancel_open R q n before)
    opened n None open_run = may (cancel-fits R.moment (run_at R n) q.request_id open_run) tt tt
    opened n (Some r) open_run = either (is_client r.by_whom && is_same_or_absent q.request_id r.request_id) (may tt tt tt) (may tt tt tt)

    at : (n : Option ℕ) → open_run R q.workflow_id q.run ≡ n → MayDo R (cancel_found R q n)
    at None is = may tt tt tt
    at (Some n) is = opened n (run_at R n).cancel_request (kept-open R _ n is)

terminate-may : (R : Runs) (q : Terminate) → MayDo R (terminate R q)
unfolding terminate
terminate-may R q = here R q.workflow_id _ (at (open_run R q.workflow_id q.run) refl)
  where
    at : (n : Option ℕ) → open_run R q.workflow_id q.run ≡ n → MayDo R (terminate_at q n)
    at None is = may tt tt tt
    at (Some n) is = may (terminate-fits R.moment (run_at R n) q.reason (kept-open R _ n is)) tt tt

history-may : (R : Runs) (q : Read) → MayDo R (history R q)
unfolding history
history-may R q = here R q.workflow_id _ (at (named_run R q.workflow_id q.run))
  where
    at : (n : Option ℕ) → MayDo R (history_at R n)
    at None = may tt tt tt
    at (Some n) = may tt tt tt

describe-may : (R : Runs) (q : Read) → MayDo R (describe R q)
unfolding describe
describe-may R q = here R q.workflow_id _ (at (named_run R q.workflow_id q.run))
  where
    at : (n : Option ℕ) → MayDo R (describe_at R n)
    at None = may tt tt tt
    at (Some n) = may tt tt tt

-- ---- tasks

scheduled-some : (t : Task) → t ≡ IsScheduled → t ≡ NoTask → ⊥
scheduled-some t is none = absurd (cc (is, none))

started-some : (t : Task) → t ≡ IsStarted → t ≡ NoTask → ⊥
started-some t is none = absurd (cc (is, none))

start_task-may : (R : Runs) (h : WaitingTask) → AreUsable R → MayDo R (start_task R h)
unfolding start_task
start_task-may R h ready = by_kind h.kind
  where
    s : RunState
    s = run_at R h.run

    with_fields : (r : ActivityRow) → is_there s ≡ true → pending_row s h.event ≡ Some r → (a : Option ScheduledAttributes) → MayDo R (take_fields R h r a)
    with_fields r there is None = may tt tt tt
    with_fields r there is (Some a) =
        let has = (pending-named h.event s r is).1 in
        either (waits_activity h r) (may (note-fits R.moment h.event s Taken ((ready h.run).open_use class.Activity h.event there has) has tt) tt tt) (may tt tt tt)

    with_row : is_there s ≡ true → (r : Option ActivityRow) → pending_row s h.event ≡ r → MayDo R (take_row R h r)
    with_row there None is = may tt tt tt
    with_row there (Some r) is = with_fields r there is (scheduled_fields r.opened.attributes)

    taken : waits_workflow R h ≡ true → FitStep R.moment s (plain (WorkflowTaskStarted h.event) ∷ [])
    taken waits =
        let task = waiting-scheduled R h waits in
        let there = has-there R h.run (first-true _ _ (first-true _ _ waits)) in
        take-fits R.moment h.event s (open-by-task s s.task (ready h.run) there refl (scheduled-some s.task task)) task

    by_kind : (k : TaskKind) → MayDo R (take_by_kind R h k)
    by_kind Workflow = guarded (waits_workflow R h) (λ waits. may (taken waits) tt tt) (may tt tt tt)
    by_kind Activity = guarded (has_run R h.run) (λ has. with_row (has-there R h.run has) (pending_row s h.event) refl) (may tt tt tt)

running-there : (R : Runs) (t : TakenTask) → runs_workflow R t ≡ true → is_there (run_at R t.run) ≡ true
running-there R t runs = has-there R t.run (second-true _ _ (first-true _ _ (first-true _ _ runs)))

running-open : (R : Runs) (t : TakenTask) → AreUsable R → runs_workflow R t ≡ true → is_open (run_at R t.run) ≡ true
running-open R t ready runs = open-by-task (run_at R t.run) (run_at R t.run).task (ready t.run) (running-there R t runs) refl (started-some (run_at R t.run).task (running-started R t runs))

complete_workflow_task-may : (R : Runs) (q : CompleteWorkflowTask) → AreUsable R → MayDo R (complete_workflow_task R q)
unfolding complete_workflow_task
complete_workflow_task-may R q ready = guarded (runs_workflow R q.task) (λ runs. judged runs (judge_all R.setup next s [] q.commands) refl) (may tt tt tt)
  where
    s : RunState
    s = run_at R q.task.run

    next : Run
    next = run_id R.setup (next_ordinal R)

    follower : (F : List Attributes) → is_open s ≡ true → judge_all R.setup next s [] q.commands ≡ Ok F → (o : Option ContinueAsNew) → latest continue_part q.commands ≡ o → (x : Option Beginning) → s.beginning ≡ x
        → CreatedMay R (Some (record { run = q.task.run; facts = map plain (completed_task s F) })) (continued R q.task.run o x)
    follower F opened is None found x began = tt
    follower F opened is (Some c) found None began = tt
    follower F opened is (Some c) found (Some y) began =
        let started = started_behind (run_id R.setup q.task.run) c y.attributes in
        let queue = unwrap_or c.task_queue y.attributes.task_queue in
        let named : id_of s ≡ y.attributes.workflow_id = ap (λ (z : Option Beginning). unwrap_or (option_map (λ (w : Beginning). w.attributes.workflow_id) z) []) began in
        let later = after_step R.moment (map plain (completed_task s F)) s in
        let over = completed-behind R.moment s F (continues-close R.setup next s [] F q.commands c found is) in
        record {
          beginning = record { started = started; request_id = y.request_id; facts = first_task queue ∷ [] };
          is = refl;
          begins = first-fits R.moment y.request_id started queue;
          free = λ one. subst (HasClosed (slice_set R.states (q.task.run - 1) later)) named (closed-alone R.states (q.task.run - 1) later (in-range R.states (q.task.run - 1) (open-there s opened)) opened over one);
        }

    judged : runs_workflow R q.task ≡ true → (j : Judged) → judge_all R.setup next s [] q.commands ≡ j → MayDo R (complete_judged R q j)
    judged runs (Err cause) is = may (failed-fits R.moment cause [] s (running-open R q.task ready runs) (running-started R q.task runs)) tt tt
    judged runs (Ok F) is =
        let opened = running-open R q.task ready runs in
        may (completed-fits R.moment R.setup next s q.commands F (ready q.task.run).grounded opened (running-started R q.task runs) is) (follower F opened is (latest continue_part q.commands) refl s.beginning refl) tt

fail_workflow_task-may : (R : Runs) (q : FailWorkflowTask) → AreUsable R → MayDo R (fail_workflow_task R q)
unfolding fail_workflow_task
fail_workflow_task-may R q ready = guarded (runs_workflow R q.task) (λ runs. may (failed-fits R.moment WorkflowWorkerUnhandledFailure q.message (run_at R q.task.run) (running-open R q.task ready runs) (running-started R q.task runs)) tt tt) (may tt tt tt)

-- ---- activities

-- the running attempt that a token names is that of a pending activity of an open run
pub record IsAttempt (R : Runs) (t : TakenTask) (r : ActivityRow) : Type 0 where
  pub row : pending_row (run_at R t.run) t.event ≡ Some r
  pub has : has_id t.event (pending class.Activity (run_at R t.run)) ≡ true
  pub opened : is_open (run_at R t.run) ≡ true

kept-row : (t : TakenTask) (o : Option ActivityRow) (r : ActivityRow) → keep_running t o ≡ Some r → o ≡ Some r
kept-row t None r h = absurd (cc h)
kept-row t (Some x) r h = by_test _ h
  where
    by_test : (b : Bool) → if_some b x ≡ Some r → ◌≡◌ {A = Option ActivityRow} (Some x) (Some r)
    by_test true g = g
    by_test false g = absurd (cc g)

attempt : (R : Runs) (t : TakenTask) (r : ActivityRow) → AreUsable R → running_attempt R t ≡ Some r → IsAttempt R t r
attempt R t r ready is = by_test ((t.shard == R.setup.shard) && has_run R t.run) refl is
  where
    by_test : (b : Bool) → ((t.shard == R.setup.shard) && has_run R t.run) ≡ b → cond b (keep_running t (pending_row (run_at R t.run) t.event)) None ≡ Some r → IsAttempt R t r
    by_test true runs is =
        let row = kept-row t (pending_row (run_at R t.run) t.event) r is in
        let has = (pending-named t.event (run_at R t.run) r row).1 in
        record { row = row; has = has; opened = (ready t.run).open_use class.Activity t.event (has-there R t.run (second-true _ _ runs)) has }
    by_test false runs is = absurd (cc is)

ends : (R : Runs) (t : TakenTask) (r : ActivityRow) (last : Attributes) → IsAttempt R t r → ended_activity last ≡ Some t.event → FitStep R.moment (run_at R t.run) (ends_activity (run_at R t.run) r last)
ends R t r last h is = ending-fits R.moment (run_at R t.run) r last t.event true h.opened h.has is

complete_activity-may : (R : Runs) (q : ActivityText) → AreUsable R → MayDo R (complete_activity R q)
unfolding complete_activity
complete_activity-may R q ready = at (running_attempt R q.task) refl
  where
    at : (r : Option ActivityRow) → running_attempt R q.task ≡ r → MayDo R (complete_at R q r)
    at None is = may tt tt tt
    at (Some r) is = may (ends R q.task r (ActivityTaskCompleted (record { scheduled = q.task.event; result_text = q.text })) (attempt R q.task r ready is) refl) tt tt

cancel_activity-may : (R : Runs) (q : ActivityText) → AreUsable R → MayDo R (cancel_activity R q)
unfolding cancel_activity
cancel_activity-may R q ready = at (running_attempt R q.task) refl
  where
    at : (r : Option ActivityRow) → running_attempt R q.task ≡ r → MayDo R (cancel_running R q r)
    at None is = may tt tt tt
    at (Some r) is = either r.cancel_requested (may (ends R q.task r (ActivityTaskCanceled (record { scheduled = q.task.event; details = q.text })) (attempt R q.task r ready is) refl) tt tt) (may tt tt tt)

fail_activity-may : (R : Runs) (q : FailActivity) → AreUsable R → MayDo R (fail_activity R q)
unfolding fail_activity
fail_activity-may R q ready = at (running_attempt R q.task) refl
  where
    judged : (r : ActivityRow) → IsAttempt R q.task r → (v : Verdict) → NotLast r.attempt v → MayDo R (by_verdict R q r v)
    judged r h (GivesUp state) more = may (ends R q.task r (ActivityTaskFailed (record { scheduled = q.task.event; message = q.message; error_type = q.error_type; retry = state })) h refl) tt tt
    judged r h (RetriesAt ready) more =
        may (note-fits R.moment q.task.event (run_at R q.task.run) Ended h.opened h.has (subst IsNotLast (sym (pending-of (run_at R q.task.run) q.task.event r h.row)) more)) tt tt

    with_fields : (r : ActivityRow) → IsAttempt R q.task r → (a : Option ScheduledAttributes) → MayDo R (fail_fields R q r a)
    with_fields r h None = may tt tt tt
    with_fields r h (Some a) =
        let ending = FailedAttempt q.error_type q.non_retryable in
        judged r h (verdict_at r a ending R.moment) (not-last a.retry ending r.cancel_requested r.attempt R.moment (close_deadline r a))

    at : (r : Option ActivityRow) → running_attempt R q.task ≡ r → MayDo R (fail_at R q r)
    at None is = may tt tt tt
    at (Some r) is = with_fields r (attempt R q.task r ready is) (scheduled_fields r.opened.attributes)

heartbeat-may : (R : Runs) (q : ActivityText) → AreUsable R → MayDo R (heartbeat R q)
unfolding heartbeat
heartbeat-may R q ready = at (running_attempt R q.task) refl
  where
    at : (r : Option ActivityRow) → running_attempt R q.task ≡ r → MayDo R (beat_at q r)
    at None is = may tt tt tt
    at (Some r) is = let h = attempt R q.task r ready is in may (note-fits R.moment q.task.event (run_at R q.task.run) (Beat q.text) h.opened h.has tt) tt tt

-- ---- deadlines

timer_turn-may : (R : Runs) → MayDo R (timer_turn R)
unfolding timer_turn
timer_turn-may R = at (due_now R.moment (least (all_dues R.setup.retention R.states))) refl
  where
    by_class : (d : RunDue) → due_now R.moment (least (all_dues R.setup.retention R.states)) ≡ Some d → (b : Bool) → is_retention d.at.class ≡ b
        → MayDo R (cond b (takes_away d.run (fired R d)) (adds d.run (fire (run_at R d.run) R.moment d.at.event d.at.class) (fired R d)))
    by_class d is true class = may tt tt
        (refl, refl, λ last one aged. oldest-goes R.setup.retention last R.moment R.states d aged (λ m n s t pair. one.earlier m n s t pair.older pair.at_m pair.at_n pair.is_t pair.same) is class)
    by_class d is false class = may (fire-fits R.moment R.setup.retention (run_at R d.run) d (due-of-run R.setup.retention R.states R.moment d is).its) tt tt

    at : (o : Option RunDue) → due_now R.moment (least (all_dues R.setup.retention R.states)) ≡ o → MayDo R (fire_due R o)
    at None is = may tt tt tt
    at (Some d) is = by_class d is (is_retention d.at.class) refl

-- ---- what is counted

acknowledges-may : (R : Runs) (issued so_far number : ℕ) (c : Counting) → MayDo R (acknowledges issued so_far number c)
acknowledges-may R issued so_far number c = by_answer (acknowledgement_of issued so_far number)
  where
    by_answer : (a : Acknowledgement) → MayDo R (by_acknowledgement c a)
    by_answer Acknowledged = may tt tt tt
    by_answer Already = may tt tt tt
    by_answer NotInOrder = may tt tt tt

next_transfer-may : (R : Runs) (setup : Setup) (all : List Outgoing) (to : ℕ) → MayDo R (next_transfer setup all to)
unfolding next_transfer
next_transfer-may R setup all to = either (nat_lt to setup.shards) (may tt tt tt) (may tt tt tt)

acknowledge-may : (R : Runs) (setup : Setup) (all : List Outgoing) (q : Acknowledge) → MayDo R (acknowledge setup all q)
unfolding acknowledge
acknowledge-may R setup all q = either (nat_lt q.to setup.shards) (acknowledges-may R _ _ q.number (AcknowledgesTo q.to)) (may tt tt tt)

next_dispatch-may : (R : Runs) (S : Content) → MayDo R (next_dispatch S.dispatches S.dispatched)
unfolding next_dispatch
next_dispatch-may R S = may tt tt tt

dispatched-may : (R : Runs) (S : Content) (number : ℕ) → MayDo R (dispatched S.dispatches S.dispatched number)
unfolding dispatched
dispatched-may R S number = acknowledges-may R _ _ number CountsDispatch

-- ---- transfers

own-there : (R : Runs) (r : Run) (n : ℕ) → own_run R r ≡ Some n → is_there (run_at R n) ≡ true
own-there R r n is = by_test ((r.service == R.setup.service) && (r.shard == R.setup.shard) && has_run R r.ordinal) refl is
  where
    by_test : (b : Bool) → ((r.service == R.setup.service) && (r.shard == R.setup.shard) && has_run R r.ordinal) ≡ b → if_some b r.ordinal ≡ Some n → is_there (run_at R n) ≡ true
    by_test true has is = subst (λ k. is_there (run_at R k) ≡ true) (same-some r.ordinal n is) (has-there R r.ordinal (second-true _ _ has))
    by_test false has is = absurd (cc is)

-- an answer to a request that is pending in an open run
answer-may : (R : Runs) (t : Transfer) (c : Class) (id : ℕ) (r : Run) (event : List ℕ → Attributes) → AreUsable R
    → ((s : RunState) (name : List ℕ) → is_open s ≡ true → has_id id (pending c s) ≡ true → IsFromOutside s (event name)) → MayDo R (answers_pending R t (pending_id R c id (own_run R r)) event)
answer-may R t c id r event ready comes = by_run (own_run R r) refl
  where
    by_name : (n : ℕ) → is_there (run_at R n) ≡ true → (o : Option (List ℕ)) → pending_asked (run_at R n) c id ≡ o → MayDo R (answers_pending R t (option_map (λ (name : List ℕ). (n, name)) o) event)
    by_name n there None is = may tt tt tt
    by_name n there (Some name) is =
        let has = asked-waits (run_at R n) c id name is in
        may (outside-fits R.moment (run_at R n) (event name) (comes (run_at R n) name ((ready n).open_use c id there has) has)) tt tt

    by_run : (o : Option ℕ) → own_run R r ≡ o → MayDo R (answers_pending R t (pending_id R c id o) event)
    by_run None own = may tt tt tt
    by_run (Some n) own = by_name n (own-there R r n own) (pending_asked (run_at R n) c id) refl

child-may : (R : Runs) (t : Transfer) (c : StartChildTransfer) → MayDo R (start_child R t c)
child-may R t c = guarded (knows_queue R.setup c.task_queue && is_free_for R c) (λ free. may tt (begun (second-true _ _ free)) tt) (may tt tt tt)
  where
    begun : is_free_for R c ≡ true → IsNew R None (first_facts (child_beginning c))
    begun free =
        let b = child_beginning c in
        record { beginning = b; is = refl; begins = first-fits R.moment None b.started c.task_queue; free = λ one. free-closed R.states c.workflow_id (child-free R c free) one }

close-may : (R : Runs) (t : Transfer) (c : CloseChildContent) (o : Option ℕ) → MayDo R (close_child R t c (keep_open R o))
close-may R t c o = at (keep_open R o) refl
  where
    by_policy : (n : ℕ) → is_open (run_at R n) ≡ true → (p : ParentClosePolicy) → MayDo R (close_by_policy R t n p)
    by_policy n opened policy.Terminate = may (terminate-fits R.moment (run_at R n) (codes "parent close") opened) tt tt
    by_policy n opened policy.RequestCancel =
        either (asked_before (run_at R n)) (may tt tt tt) (may (outside-fits R.moment (run_at R n) (WorkflowExecutionCancelRequested ByParent) (cancel-comes (run_at R n) ByParent opened)) tt tt)
    by_policy n opened policy.Abandon = may tt tt tt

    at : (n : Option ℕ) → keep_open R o ≡ n → MayDo R (close_child R t c n)
    at None is = may tt tt tt
    at (Some n) is = either (is_child_of c.parent_run c.initiated (parent_of (run_at R n))) (by_policy n (kept-open R o n is) c.policy) (may tt tt tt)

signal_external-may : (R : Runs) (t : Transfer) (c : SignalExternalTransfer) (o : Option ℕ) → MayDo R (signal_external R t c (keep_open R o))
signal_external-may R t c o = at (keep_open R o) refl
  where
    at : (n : Option ℕ) → keep_open R o ≡ n → MayDo R (signal_external R t c n)
    at None is = may tt tt tt
    at (Some n) is = may (outside-fits R.moment (run_at R n) (WorkflowExecutionSignaled (record { name = c.name; input = c.input })) (signal-comes (run_at R n) c.name c.input (kept-open R o n is))) tt tt

cancel_external-may : (R : Runs) (t : Transfer) (c : CancelExternalTransfer) (o : Option ℕ) → MayDo R (cancel_external R t c (keep_open R o))
cancel_external-may R t c o = at (keep_open R o) refl
  where
    at : (n : Option ℕ) → keep_open R o ≡ n → MayDo R (cancel_external R t c n)
    at None is = may tt tt tt
    at (Some n) is = either (asked_before (run_at R n)) (may tt tt tt)
        (may (outside-fits R.moment (run_at R n) (WorkflowExecutionCancelRequested ByExternal) (cancel-comes (run_at R n) ByExternal (kept-open R o n is))) tt tt)

effect-may : (R : Runs) (t : Transfer) (c : TransferContent) → AreUsable R → MayDo R (effect R t c)
unfolding effect
effect-may R t (content.StartChild c) ready = child-may R t c
effect-may R t (content.ChildStarted c) ready = answer-may R t class.Child c.initiated c.parent_run (λ id. ChildWorkflowExecutionStarted (record { initiated = c.initiated; workflow_id = id; run = c.run })) ready (λ s name opened has. child-started-comes s c.initiated name c.run opened)
effect-may R t (content.ChildStartFailed c) ready = answer-may R t class.Child c.initiated c.parent_run (λ id. StartChildWorkflowExecutionFailed (record { initiated = c.initiated; workflow_id = id; cause = WorkflowAlreadyExists })) ready (λ s name opened has. child-failed-comes s c.initiated name WorkflowAlreadyExists opened has)
effect-may R t (content.ChildClosed c) ready = answer-may R t class.Child c.initiated c.parent_run (λ id. child_closed_event c c.status) ready (λ s name opened has. child-closed-comes s c c.status opened has)
effect-may R t (content.CloseChild c) ready = close-may R t c _
effect-may R t (content.SignalExternal c) ready = signal_external-may R t c _
effect-may R t (content.CancelExternal c) ready = cancel_external-may R t c _
effect-may R t (content.ExternalDone c) ready = answer-may R t (external_class c.kind) c.initiated c.to_run (external_event c c.kind c.done) ready (λ s name opened has. external-comes s c c.kind c.done name opened has)

deliver-may : (R : Runs) (accepted : List ℕ) (t : Transfer) → AreUsable R → MayDo R (deliver R accepted t)
unfolding deliver
deliver-may R accepted t ready =
    either (not (nat_lt t.from R.setup.shards && comes_from R.setup t t.content)) (may tt tt tt)
    (either (not (is_for_shard R.setup t.content)) (may tt tt tt) (by_number (delivery_of (accepted_from accepted t.from) t.number)))
  where
    by_number : (d : Delivery) → MayDo R (by_delivery R t d)
    by_number AlreadyDelivered = may tt tt tt
    by_number IsNext = effect-may R t t.content ready
    by_number OutOfOrder = may tt tt tt

-- whatever is asked
pub outcome-may : (S : Content) (m : ℕ) (a : Operation) → AreUsable (runs_of S m) → MayDo (runs_of S m) (outcome S m a)
unfolding outcome
outcome-may S m (operation.Start q) ready = start-may (runs_of S m) q
outcome-may S m (operation.Signal q) ready = signal-may (runs_of S m) q
outcome-may S m (operation.SignalWithStart q) ready = signal_with_start-may (runs_of S m) q
outcome-may S m (operation.RequestCancel q) ready = request_cancel-may (runs_of S m) q
outcome-may S m (operation.Terminate q) ready = terminate-may (runs_of S m) q
outcome-may S m (operation.StartTask h) ready = start_task-may (runs_of S m) h ready
outcome-may S m (operation.CompleteWorkflowTask q) ready = complete_workflow_task-may (runs_of S m) q ready
outcome-may S m (operation.FailWorkflowTask q) ready = fail_workflow_task-may (runs_of S m) q ready
outcome-may S m (operation.CompleteActivity q) ready = complete_activity-may (runs_of S m) q ready
outcome-may S m (operation.FailActivity q) ready = fail_activity-may (runs_of S m) q ready
outcome-may S m (operation.CancelActivity q) ready = cancel_activity-may (runs_of S m) q ready
outcome-may S m (operation.Heartbeat q) ready = heartbeat-may (runs_of S m) q ready
outcome-may S m (operation.History q) ready = history-may (runs_of S m) q
outcome-may S m (operation.Describe q) ready = describe-may (runs_of S m) q
outcome-may S m operation.TimerTurn ready = timer_turn-may (runs_of S m)
outcome-may S m (operation.NextTransfer to) ready = next_transfer-may (runs_of S m) S.setup S.outgoing to
outcome-may S m (operation.Deliver t) ready = deliver-may (runs_of S m) S.accepted t ready
outcome-may S m (operation.Acknowledge q) ready = acknowledge-may (runs_of S m) S.setup S.outgoing q
outcome-may S m operation.NextDispatch ready = next_dispatch-may (runs_of S m) S
outcome-may S m (operation.Dispatched number) ready = dispatched-may (runs_of S m) S number
