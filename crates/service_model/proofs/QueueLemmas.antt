-- each fact that a step adds, and each that begins a run, names no queue but those that the service knows
use Rattle.std.proofs.Common.{◌≡◌, ℕ, Bool, true, false, cond, List, [], ◌∷◌, ◌++◌, refl, sym, ap, ◌∙◌, Option, Some, None, Ok, Err}
use Rattle.std.specs.Prelude.{not, ◌&&◌, ◌==◌, is_some, map, nat_lt, option_map, unwrap_or}
use Rattle.std.specs.List.{AllByRecursion}
use Rattle.wf_event_values.specs.declared.policies.CancelSource.TheVariants.{Client, Parent as ByParent, External as ByExternal}
use Rattle.wf_event_values.specs.declared.policies.Cause.{Cause}
use Rattle.wf_event_values.specs.declared.policies.DeadlineClass.{DeadlineClass}
use Rattle.wf_event_values.specs.declared.policies.DeadlineClass.TheVariants as due
use Rattle.wf_event_values.specs.declared.policies.ParentClosePolicy.{ParentClosePolicy}
use Rattle.wf_event_values.specs.declared.policies.ParentClosePolicy.TheVariants as policy
use Rattle.wf_event_values.specs.declared.policies.TaskKind.{TaskKind}
use Rattle.wf_event_values.specs.declared.policies.TaskKind.TheVariants.{Workflow, Activity}
use Rattle.wf_event_values.specs.declared.policies.TimeoutKind.{TimeoutKind}
use Rattle.wf_event_values.specs.declared.policies.RetryState.TheVariants.{Timeout}
use Rattle.wf_event.specs.declared.attributes.Attributes.{Attributes}
use Rattle.wf_event.specs.declared.attributes.Attributes.TheVariants.{WorkflowExecutionStarted, WorkflowExecutionSignaled, WorkflowExecutionCancelRequested, WorkflowTaskScheduled, ActivityTaskScheduled, ActivityTaskCompleted, ActivityTaskFailed, ActivityTaskCanceled, TimerFired}
use Rattle.wf_event.specs.declared.payloads.ActivityTaskScheduled.{ActivityTaskScheduled as ScheduledAttributes}
use Rattle.wf_event.specs.declared.role.Class.TheVariants as class
use Rattle.wf_command.specs.Check.{attributes_fault}
use Rattle.wf_command.specs.declared.command.Command.{Command}
use Rattle.wf_command.specs.declared.command.Command.TheVariants as command
use Rattle.wf_command.specs.declared.command.ContinueAsNew.{ContinueAsNew}
use Rattle.service_model_types.specs.Routing.{knows_queue, shard_of}
use Rattle.service_model_types.specs.declared.answer.Acknowledged.{Acknowledged as Acknowledgement}
use Rattle.service_model_types.specs.declared.answer.Acknowledged.TheVariants.{Acknowledged, Already, OutOfOrder as NotInOrder}
use Rattle.service_model_types.specs.declared.answer.Answer.{Answer}
use Rattle.service_model_types.specs.declared.content.Content.{Content}
use Rattle.service_model_types.specs.declared.content.Outgoing.{Outgoing}
use Rattle.service_model_types.specs.declared.content.Setup.{Setup}
use Rattle.service_model_types.specs.declared.journal.CancelRequest.{CancelRequest}
use Rattle.service_model_types.specs.declared.journal.Fact.{Fact}
use Rattle.service_model_types.specs.declared.journal.Fact.TheVariants.{Event as an_event, Note as a_note}
use Rattle.service_model_types.specs.declared.request.Acknowledge.{Acknowledge}
use Rattle.service_model_types.specs.declared.request.ActivityText.{ActivityText}
use Rattle.service_model_types.specs.declared.request.CompleteWorkflowTask.{CompleteWorkflowTask}
use Rattle.service_model_types.specs.declared.request.FailActivity.{FailActivity}
use Rattle.service_model_types.specs.declared.request.FailWorkflowTask.{FailWorkflowTask}
use Rattle.service_model_types.specs.declared.request.Operation.{Operation}
use Rattle.service_model_types.specs.declared.request.Operation.TheVariants as operation
use Rattle.service_model_types.specs.declared.request.Read.{Read}
use Rattle.service_model_types.specs.declared.request.RequestCancel.{RequestCancel}
use Rattle.service_model_types.specs.declared.request.Signal.{Signal}
use Rattle.service_model_types.specs.declared.request.SignalWithStart.{SignalWithStart}
use Rattle.service_model_types.specs.declared.request.Start.{Start}
use Rattle.service_model_types.specs.declared.request.Terminate.{Terminate}
use Rattle.service_model_types.specs.declared.request.WaitingTask.{WaitingTask}
use Rattle.service_model_types.specs.declared.transfer.CancelExternalTransfer.{CancelExternalTransfer}
use Rattle.service_model_types.specs.declared.transfer.ChildClosed.{ChildClosed as ChildClosedContent}
use Rattle.service_model_types.specs.declared.transfer.ChildStatus.{ChildStatus}
use Rattle.service_model_types.specs.declared.transfer.ChildStatus.TheVariants as ended
use Rattle.service_model_types.specs.declared.transfer.CloseChild.{CloseChild as CloseChildContent}
use Rattle.service_model_types.specs.declared.transfer.Delivery.{Delivery}
use Rattle.service_model_types.specs.declared.transfer.Delivery.TheVariants.{Accepted as IsNext, AlreadyDelivered, OutOfOrder}
use Rattle.service_model_types.specs.declared.transfer.ExternalDoneTransfer.{ExternalDoneTransfer}
use Rattle.service_model_types.specs.declared.transfer.ExternalKind.{ExternalKind}
use Rattle.service_model_types.specs.declared.transfer.ExternalKind.TheVariants as external
use Rattle.service_model_types.specs.declared.transfer.SignalExternalTransfer.{SignalExternalTransfer}
use Rattle.service_model_types.specs.declared.transfer.StartChildTransfer.{StartChildTransfer}
use Rattle.service_model_types.specs.declared.transfer.Transfer.{Transfer}
use Rattle.service_model_types.specs.declared.transfer.TransferContent.{TransferContent}
use Rattle.service_model_types.specs.declared.transfer.TransferContent.TheVariants as content
use Rattle.wf_event_values.specs.Run.{Run}
use Rattle.service_model.specs.Activities.{attempt_started, beat_at, by_verdict, cancel_activity, cancel_running, complete_activity, complete_at, ends_activity, fail_activity, fail_at, fail_fields, heartbeat, running_attempt, verdict_at}
use Rattle.service_model.specs.Cancels.{cancel_found, cancel_open, is_client, is_same_or_absent, request_cancel, terminate, terminate_at}
use Rattle.service_model.specs.Completion.{Judged, is_running_phase, after_check, cancel_facts, cancel_timer, gives, cancels_at_once, completed_task, failed_task, go_on, goes_on, in_use_named, is_full, judge, judge_all, judge_fields_good}
use Rattle.service_model.specs.Counts.{acknowledge, acknowledgement_of, acknowledges, by_acknowledgement, dispatched, next_dispatch, next_transfer}
use Rattle.service_model.specs.Deadlines.{scheduled_fields}
use Rattle.service_model.specs.Deliveries.{accepted_from, answers_pending, asked_before, by_delivery, cancel_external, child_closed_event, close_by_policy, close_child, comes_from, deliver, delivery_of, effect, external_event, is_child_of, is_for_shard, signal_external, start_child}
use Rattle.service_model.specs.IdPolicy.{Decision, New, Same, Existing, TerminateThenNew, Refused}
use Rattle.service_model.specs.Journal.{first_some, latest, plain}
use Rattle.service_model.specs.Outcome.{Outcome, Added, Counting, CountsDispatch, AcknowledgesTo, Runs, has_run, is_no_task, made_by, named_run, on_shard, open_run, outside, run_at, schedule_task}
use Rattle.service_model.specs.Reads.{history, history_at, describe, describe_at}
use Rattle.service_model.specs.Retry.{FailedAttempt, TimedOutAttempt, Verdict, GivesUp, RetriesAt}
use Rattle.service_model.specs.RunState.{ActivityRow, Beginning, RunState, is_there, parent_of, queue_of}
use Rattle.service_model.specs.Service.{outcome, runs_of}
use Rattle.service_model.specs.Signals.{signal, signal_at, signal_fact, signal_or_start, start_in, signal_with_start, signals, was_signaled}
use Rattle.service_model.specs.Starts.{by_decision, first_task, start, started_fact}
use Rattle.service_model.specs.Tasks.{complete_judged, complete_workflow_task, continue_part, continued, fail_workflow_task, pending_row, runs_workflow, start_task, take_by_kind, take_fields, take_row, waits_activity, waits_workflow}
use Rattle.service_model.specs.TimerTurns.{RunDue, activity_over, all_dues, attempt_fields, attempt_over, attempt_verdict, due_now, fire, fire_due, is_retention, least, timed_out, timer_name, timer_turn}

pub all-both : {A : Type 0} (P : A → Type 0) (xs ys : List A) → AllByRecursion P xs → AllByRecursion P ys → AllByRecursion P (xs ++ ys)
all-both P [] ys h k = k
all-both P (x ∷ xs) ys h k = (h.0, all-both P xs ys h.1 k)

-- the queue that an event names, of a run or of a task, is one that the service knows
abbrev pub IsKnown : Setup → Attributes → Type 0
IsKnown setup (WorkflowExecutionStarted a) = knows_queue setup a.task_queue ≡ true
IsKnown setup (WorkflowTaskScheduled a) = knows_queue setup a.task_queue ≡ true
IsKnown setup (ActivityTaskScheduled a) = knows_queue setup a.task_queue ≡ true
IsKnown setup _ = Unit {0}

abbrev pub IsKnownFact : Setup → Fact → Type 0
IsKnownFact setup (an_event f) = IsKnown setup f.attributes
IsKnownFact setup (a_note n) = Unit {0}

abbrev pub AllKnown : Setup → List Fact → Type 0
AllKnown setup facts = AllByRecursion (IsKnownFact setup) facts

-- the queue of a run's workflow tasks is known
abbrev pub HasQueue : Setup → RunState → Type 0
HasQueue setup s = knows_queue setup (queue_of s) ≡ true

-- that of each run that is there
abbrev pub AllHaveQueues : Runs → Type 0
AllHaveQueues R = (n : ℕ) → is_there (run_at R n) ≡ true → HasQueue R.setup (run_at R n)

abbrev pub AddsKnown : Runs → Option Added → Type 0
AddsKnown R None = Unit {0}
AddsKnown R (Some a) = is_there (run_at R a.run) ≡ true → AllKnown R.setup a.facts

abbrev pub MakesKnown : Setup → Option (List Fact) → Type 0
MakesKnown setup None = Unit {0}
MakesKnown setup (Some facts) = AllKnown setup facts

-- what a step adds to a run that is there, and what it makes a run of
pub record Names (R : Runs) (o : Outcome) : Type 0 where
  pub added : AddsKnown R o.added
  pub created : MakesKnown R.setup o.created

names : {R : Runs} {o : Outcome} → AddsKnown R o.added → MakesKnown R.setup o.created → Names R o
names h k = record { added = h; created = k }

either : {R : Runs} {x y : Outcome} (b : Bool) → Names R x → Names R y → Names R (cond b x y)
either true h k = h
either false h k = k

guarded : {R : Runs} {x y : Outcome} (b : Bool) → (b ≡ true → Names R x) → Names R y → Names R (cond b x y)
guarded true h k = h refl
guarded false h k = k

here : (R : Runs) (id : List ℕ) (o : Outcome) → Names R o → Names R (on_shard R.setup id o)
here R id o h = either (shard_of R.setup id == R.setup.shard) h (names tt tt)

outside-known : (setup : Setup) (s : RunState) (facts : List Fact) → HasQueue setup s → AllKnown setup facts → AllKnown setup (outside s facts)
outside-known setup s facts queue h = all-both (IsKnownFact setup) facts _ h (by_task (is_no_task s.task))
  where
    by_task : (b : Bool) → AllKnown setup (cond b (plain (schedule_task s 1) ∷ []) [])
    by_task true = (queue, tt)
    by_task false = tt

outside-one : (setup : Setup) (s : RunState) (f : Fact) → HasQueue setup s → IsKnownFact setup f → AllKnown setup (outside s (f ∷ []))
outside-one setup s f queue h = outside-known setup s (f ∷ []) queue (h, tt)

-- starts and signals
decided : (R : Runs) (n : ℕ) (facts : List Fact) (d : Decision) → AllKnown R.setup facts → Names R (by_decision R n facts d)
decided R n facts New h = names tt h
decided R n facts Same h = names tt tt
decided R n facts Existing h = names tt tt
decided R n facts TerminateThenNew h = names (λ there. (tt, tt)) h
decided R n facts Refused h = names tt tt

start-names : (R : Runs) (q : Start) → Names R (start R q)
unfolding start
start-names R q =
    here R q.workflow_id _ (guarded (knows_queue R.setup q.task_queue)
    (λ known. decided R _ (started_fact R.moment q ∷ first_task q.task_queue ∷ []) _ (known, (known, tt))) (names tt tt))

signals-name : (R : Runs) (n : ℕ) (request : Option (List ℕ)) (fact : Fact) (first again : Answer) → AllHaveQueues R → IsKnownFact R.setup fact → Names R (signals R n request fact first again)
signals-name R n request fact first again all known =
    either (was_signaled (run_at R n).signal_requests request) (names tt tt) (names (λ there. outside-one R.setup (run_at R n) fact (all n there) known) tt)

signal-names : (R : Runs) (q : Signal) → AllHaveQueues R → Names R (signal R q)
unfolding signal
signal-names R q all = here R q.workflow_id _ (at (open_run R q.workflow_id q.run))
  where
    at : (n : Option ℕ) → Names R (signal_at R q n)
    at None = names tt tt
    at (Some n) = signals-name R n _ _ _ _ all tt

signal_with_start-names : (R : Runs) (q : SignalWithStart) → AllHaveQueues R → Names R (signal_with_start R q)
unfolding signal_with_start
signal_with_start-names R q all = here R q.workflow_id _ (guarded (knows_queue R.setup q.task_queue) (at (open_run R q.workflow_id None)) (names tt tt))
  where
    at : (n : Option ℕ) → knows_queue R.setup q.task_queue ≡ true → Names R (signal_or_start R q n)
    at None known = decided R _ (started_fact R.moment (start_in q) ∷ signal_fact q.request_id q.name q.signal_input ∷ first_task q.task_queue ∷ []) _ (known, (tt, (known, tt)))
    at (Some n) known = signals-name R n _ _ _ _ all tt

-- requests to cancel, terminations and readings
request_cancel-names : (R : Runs) (q : RequestCancel) → AllHaveQueues R → Names R (request_cancel R q)
unfolding request_cancel
request_cancel-names R q all = here R q.workflow_id _ (at (open_run R q.workflow_id q.run))
  where
    opened : (n : ℕ) (before : Option CancelRequest) → Names R (cancel_open R q n before)
    opened n None = names (λ there. outside-one R.setup (run_at R n) (made_by q.request_id (WorkflowExecutionCancelRequested Client)) (all n there) tt) tt
    opened n (Some r) = either (is_client r.by_whom && is_same_or_absent q.request_id r.request_id) (names tt tt) (names tt tt)

    at : (n : Option ℕ) → Names R (cancel_found R q n)
    at None = names tt tt
    at (Some n) = opened n (run_at R n).cancel_request

terminate-names : (R : Runs) (q : Terminate) → Names R (terminate R q)
unfolding terminate
terminate-names R q = here R q.workflow_id _ (at (open_run R q.workflow_id q.run))
  where
    at : (n : Option ℕ) → Names R (terminate_at q n)
    at None = names tt tt
    at (Some n) = names (λ there. (tt, tt)) tt

history-names : (R : Runs) (q : Read) → Names R (history R q)
unfolding history
history-names R q = here R q.workflow_id _ (at (named_run R q.workflow_id q.run))
  where
    at : (n : Option ℕ) → Names R (history_at R n)
    at None = names tt tt
    at (Some n) = names tt tt

describe-names : (R : Runs) (q : Read) → Names R (describe R q)
unfolding describe
describe-names R q = here R q.workflow_id _ (at (named_run R q.workflow_id q.run))
  where
    at : (n : Option ℕ) → Names R (describe_at R n)
    at None = names tt tt
    at (Some n) = names tt tt

-- tasks that are taken
start_task-names : (R : Runs) (h : WaitingTask) → Names R (start_task R h)
unfolding start_task
start_task-names R h = by_kind h.kind
  where
    with_fields : (r : ActivityRow) (a : Option ScheduledAttributes) → Names R (take_fields R h r a)
    with_fields r None = names tt tt
    with_fields r (Some a) = either (waits_activity h r) (names (λ there. (tt, tt)) tt) (names tt tt)

    with_row : (r : Option ActivityRow) → Names R (take_row R h r)
    with_row None = names tt tt
    with_row (Some r) = with_fields r (scheduled_fields r.opened.attributes)

    by_kind : (k : TaskKind) → Names R (take_by_kind R h k)
    by_kind Workflow = either (waits_workflow R h) (names (λ there. (tt, tt)) tt) (names tt tt)
    by_kind Activity = either (has_run R h.run) (with_row (pending_row (run_at R h.run) h.event)) (names tt tt)

-- the end of a workflow task: its commands give known events, and so is the queue of the run that is to follow
abbrev AreKnown : Setup → List Attributes → Type 0
AreKnown setup as' = AllByRecursion (IsKnown setup) as'

plain-known : (setup : Setup) (as' : List Attributes) → AreKnown setup as' → AllKnown setup (map plain as')
plain-known setup [] h = tt
plain-known setup (a ∷ as') h = (h.0, plain-known setup as' h.1)

abbrev AreJudged : Setup → Judged → Type 0
AreJudged setup (Ok facts) = AreKnown setup facts
AreJudged setup (Err cause) = Unit {0}

-- the queue of the run that is to follow, where the commands have no fault
abbrev Follows : Setup → RunState → Option ContinueAsNew → Judged → Type 0
Follows setup s None j = Unit {0}
Follows setup s (Some c) (Ok facts) = knows_queue setup (unwrap_or c.task_queue (queue_of s)) ≡ true
Follows setup s (Some c) (Err cause) = Unit {0}

pub record IsGood (setup : Setup) (s : RunState) (o : Option ContinueAsNew) (j : Judged) : Type 0 where
  pub known : AreJudged setup j
  pub follows : Follows setup s o j

good : {setup : Setup} {s : RunState} {o : Option ContinueAsNew} {j : Judged} → AreJudged setup j → Follows setup s o j → IsGood setup s o j
good h k = record { known = h; follows = k }

fault-follows : (setup : Setup) (s : RunState) (o : Option ContinueAsNew) (cause : Cause) → Follows setup s o (Err cause)
fault-follows setup s None cause = tt
fault-follows setup s (Some c) cause = tt

faulty : {setup : Setup} {s : RunState} {o : Option ContinueAsNew} {cause : Cause} → IsGood setup s o (Err cause)
faulty {setup} {s} {o} {cause} = good tt (fault-follows setup s o cause)

unless : {setup : Setup} {s : RunState} {o : Option ContinueAsNew} {x y : Judged} (b : Bool) → IsGood setup s o x → IsGood setup s o y → IsGood setup s o (cond b x y)
unless true h k = h
unless false h k = k

-- a queue that is not known is a fault
unless-known : {setup : Setup} {s : RunState} {o : Option ContinueAsNew} {x y : Judged} (b : Bool) → IsGood setup s o x → (b ≡ true → IsGood setup s o y) → IsGood setup s o (cond (not b) x y)
unless-known true h k = k refl
unless-known false h k = h

checked : {setup : Setup} {s : RunState} {o : Option ContinueAsNew} {j : Judged} (c : _) → IsGood setup s o j → IsGood setup s o (after_check c j)
checked (Ok u) h = h
checked (Err cause) h = faulty

gives-one : {setup : Setup} {s : RunState} {o : Option ContinueAsNew} {a : Attributes} → IsKnown setup a → Follows setup s o (gives a) → IsGood setup s o (gives a)
gives-one h k = good (h, tt) k

one-good : (setup : Setup) (next : Run) (s : RunState) (facts : List Attributes) (c : Command) → IsGood setup s (continue_part c) (judge_fields_good setup next s facts c)
unfolding judge_fields_good
one-good setup next s facts (command.ScheduleActivityTask a) =
    unless-known (knows_queue setup a.task_queue) faulty (λ known. unless (is_some (in_use_named class.Activity a.activity_id s facts)) faulty (unless (is_full class.Activity s facts) faulty (gives-one known tt)))
one-good setup next s facts (command.RequestCancelActivityTask id) = unless _ faulty (by_running (cancels_at_once id s facts))
  where
    by_running : (b : Bool) → IsGood setup s None (Ok (cancel_facts id b))
    by_running true = good (tt, (tt, tt)) tt
    by_running false = good (tt, tt) tt
one-good setup next s facts (command.StartTimer t) = unless _ faulty (gives-one tt tt)
one-good setup next s facts (command.CancelTimer name) = by_timer (in_use_named _ name s facts)
  where
    by_timer : (o : Option _) → IsGood setup s None (cancel_timer name o)
    by_timer None = faulty
    by_timer (Some e) = gives-one tt tt
one-good setup next s facts (command.RecordMarker m) = gives-one tt tt
one-good setup next s facts (command.CompleteWorkflowExecution result) = unless _ faulty (gives-one tt tt)
one-good setup next s facts (command.FailWorkflowExecution message) = unless _ faulty (gives-one tt tt)
one-good setup next s facts (command.CancelWorkflowExecution details) = unless _ faulty (gives-one tt tt)
one-good setup next s facts (command.ContinueAsNewWorkflowExecution c) =
    unless-known (knows_queue setup (unwrap_or c.task_queue (queue_of s))) faulty (λ known. unless _ faulty (gives-one tt known))
one-good setup next s facts (command.StartChildWorkflowExecution c) = unless (not (knows_queue setup c.task_queue)) faulty (unless (is_full class.Child s facts) faulty (gives-one tt tt))
one-good setup next s facts (command.SignalExternalWorkflowExecution c) = unless _ faulty (gives-one tt tt)
one-good setup next s facts (command.RequestCancelExternalWorkflowExecution c) = unless _ faulty (gives-one tt tt)

judge-good : (setup : Setup) (next : Run) (s : RunState) (facts : List Attributes) (c : Command) → IsGood setup s (continue_part c) (judge setup next s facts c)
unfolding judge
judge-good setup next s facts c = unless _ faulty (checked (attributes_fault c) (one-good setup next s facts c))

-- the last command that continues as new
first-follows : (setup : Setup) (s : RunState) (o p : Option ContinueAsNew) (j : Judged) → Follows setup s o j → Follows setup s p j → Follows setup s (first_some o p) j
first-follows setup s None p j h k = k
first-follows setup s (Some c) p j h k = h

still-follows : (setup : Setup) (s : RunState) (o : Option ContinueAsNew) (facts : List Attributes) (j : Judged) → Follows setup s o (Ok facts) → Follows setup s o j
still-follows setup s None facts j h = tt
still-follows setup s (Some c) facts (Ok more) h = h
still-follows setup s (Some c) facts (Err cause) h = tt

then-good : (setup : Setup) (s : RunState) (o p : Option ContinueAsNew) (facts : List Attributes) (next : List Attributes → Judged) (j : Judged) → AreKnown setup facts → IsGood setup s p j
    → ((more : List Attributes) → AreKnown setup (facts ++ more) → IsGood setup s o (next (facts ++ more))) → IsGood setup s (first_some o p) (go_on j (λ more. next (facts ++ more)))
then-good setup s o p facts next (Err cause) h one rest = faulty
then-good setup s o p facts next (Ok more) h one rest =
    let later = rest more (all-both (IsKnown setup) facts more h one.known) in
    good later.known (first-follows setup s o p (next (facts ++ more)) later.follows (still-follows setup s p more (next (facts ++ more)) one.follows))

all-good : (setup : Setup) (next : Run) (s : RunState) (facts : List Attributes) (cs : List Command) → AreKnown setup facts → IsGood setup s (latest continue_part cs) (judge_all setup next s facts cs)
unfolding judge_all
all-good setup next s facts [] h = good h tt
all-good setup next s facts (c ∷ cs) h =
    then-good setup s (latest continue_part cs) (continue_part c) facts (λ all. judge_all setup next s all cs) (judge setup next s facts c) h (judge-good setup next s facts c)
    (λ more known. all-good setup next s (facts ++ more) cs known)

failed-known : (setup : Setup) (s : RunState) (cause : Cause) (message : List ℕ) → HasQueue setup s → AllKnown setup (map plain (failed_task s cause message))
unfolding failed_task
failed-known setup s cause message queue = (tt, (queue, tt))

completed-known : (setup : Setup) (s : RunState) (facts : List Attributes) → HasQueue setup s → AreKnown setup facts → AllKnown setup (map plain (completed_task s facts))
unfolding completed_task
completed-known setup s facts queue h = (tt, plain-known setup _ (all-both (IsKnown setup) facts _ h (by_rest (goes_on s facts))))
  where
    by_rest : (b : Bool) → AreKnown setup (cond b (schedule_task s 1 ∷ []) [])
    by_rest true = (queue, tt)
    by_rest false = tt

complete_workflow_task-names : (R : Runs) (q : CompleteWorkflowTask) → AllHaveQueues R → Names R (complete_workflow_task R q)
unfolding complete_workflow_task
complete_workflow_task-names R q all = either (runs_workflow R q.task) (judged _ (all-good R.setup _ s [] q.commands tt)) (names tt tt)
  where
    s : RunState
    s = run_at R q.task.run

    follower : (o : Option ContinueAsNew) (b : Option Beginning) (facts : List Attributes) → s.beginning ≡ b → Follows R.setup s o (Ok facts) → MakesKnown R.setup (continued R q.task.run o b)
    follower None b facts is h = tt
    follower (Some c) None facts is h = tt
    follower (Some c) (Some b) facts is h =
        let known : knows_queue R.setup (unwrap_or c.task_queue b.attributes.task_queue) ≡ true =
        sym (ap (λ (x : Option Beginning). knows_queue R.setup (unwrap_or c.task_queue (unwrap_or (option_map (λ (y : Beginning). y.attributes.task_queue) x) []))) is) ∙ h in
        (known, (known, tt))

    judged : (j : Judged) → IsGood R.setup s (latest continue_part q.commands) j → Names R (complete_judged R q j)
    judged (Err cause) h = names (λ there. failed-known R.setup s cause [] (all q.task.run there)) tt
    judged (Ok facts) h = names (λ there. completed-known R.setup s facts (all q.task.run there) h.known) (follower (latest continue_part q.commands) s.beginning facts refl h.follows)

fail_workflow_task-names : (R : Runs) (q : FailWorkflowTask) → AllHaveQueues R → Names R (fail_workflow_task R q)
unfolding fail_workflow_task
fail_workflow_task-names R q all = either (runs_workflow R q.task) (names (λ there. failed-known R.setup (run_at R q.task.run) _ q.message (all q.task.run there)) tt) (names tt tt)

-- what workers say about activities
ends-known : (setup : Setup) (s : RunState) (r : ActivityRow) (last : Attributes) → HasQueue setup s → IsKnown setup last → AllKnown setup (ends_activity s r last)
ends-known setup s r last queue h = outside-known setup s (attempt_started r ∷ plain last ∷ []) queue (tt, (h, tt))

complete_activity-names : (R : Runs) (q : ActivityText) → AllHaveQueues R → Names R (complete_activity R q)
unfolding complete_activity
complete_activity-names R q all = at (running_attempt R q.task)
  where
    at : (r : Option ActivityRow) → Names R (complete_at R q r)
    at None = names tt tt
    at (Some r) = names (λ there. ends-known R.setup (run_at R q.task.run) r (ActivityTaskCompleted (record { scheduled = q.task.event; result_text = q.text })) (all q.task.run there) tt) tt

cancel_activity-names : (R : Runs) (q : ActivityText) → AllHaveQueues R → Names R (cancel_activity R q)
unfolding cancel_activity
cancel_activity-names R q all = at (running_attempt R q.task)
  where
    at : (r : Option ActivityRow) → Names R (cancel_running R q r)
    at None = names tt tt
    at (Some r) = either r.cancel_requested (names (λ there. ends-known R.setup (run_at R q.task.run) r (ActivityTaskCanceled (record { scheduled = q.task.event; details = q.text })) (all q.task.run there) tt) tt) (names tt tt)

fail_activity-names : (R : Runs) (q : FailActivity) → AllHaveQueues R → Names R (fail_activity R q)
unfolding fail_activity
fail_activity-names R q all = at (running_attempt R q.task)
  where
    judged : (r : ActivityRow) (v : Verdict) → Names R (by_verdict R q r v)
    judged r (GivesUp state) = names (λ there. ends-known R.setup (run_at R q.task.run) r (ActivityTaskFailed (record { scheduled = q.task.event; message = q.message; error_type = q.error_type; retry = state })) (all q.task.run there) tt) tt
    judged r (RetriesAt ready) = names (λ there. (tt, tt)) tt

    with_fields : (r : ActivityRow) (a : Option ScheduledAttributes) → Names R (fail_fields R q r a)
    with_fields r None = names tt tt
    with_fields r (Some a) = judged r (verdict_at r a (FailedAttempt q.error_type q.non_retryable) R.moment)

    at : (r : Option ActivityRow) → Names R (fail_at R q r)
    at None = names tt tt
    at (Some r) = with_fields r (scheduled_fields r.opened.attributes)

heartbeat-names : (R : Runs) (q : ActivityText) → Names R (heartbeat R q)
unfolding heartbeat
heartbeat-names R q = at (running_attempt R q.task)
  where
    at : (r : Option ActivityRow) → Names R (beat_at q r)
    at None = names tt tt
    at (Some r) = names (λ there. (tt, tt)) tt

-- deadlines that fire
over-known : (setup : Setup) (s : RunState) (id : ℕ) (kind : TimeoutKind) (r : Option ActivityRow) → HasQueue setup s → AllKnown setup (activity_over s id kind r)
over-known setup s id kind None queue = tt
over-known setup s id kind (Some r) queue = outside-known setup s (cond (is_running_phase r.phase) (attempt_started r ∷ []) [] ++ plain (timed_out id kind Timeout) ∷ []) queue (by_phase (is_running_phase r.phase))
  where
    by_phase : (b : Bool) → AllKnown setup (cond b (attempt_started r ∷ []) [] ++ plain (timed_out id kind Timeout) ∷ [])
    by_phase true = (tt, (tt, tt))
    by_phase false = (tt, tt)

verdict-known : (setup : Setup) (s : RunState) (moment : ℕ) (kind : TimeoutKind) (r : Option ActivityRow) → HasQueue setup s → AllKnown setup (attempt_verdict s moment kind r)
verdict-known setup s moment kind None queue = tt
verdict-known setup s moment kind (Some r) queue = with_fields (scheduled_fields r.opened.attributes)
  where
    judged : (v : Verdict) → AllKnown setup (attempt_over s r kind v)
    judged (GivesUp state) = outside-known setup s (attempt_started r ∷ plain (timed_out r.opened.id kind state) ∷ []) queue (tt, (tt, tt))
    judged (RetriesAt ready) = (tt, tt)

    with_fields : (a : Option ScheduledAttributes) → AllKnown setup (attempt_fields s moment kind r a)
    with_fields None = tt
    with_fields (Some a) = judged (verdict_at r a TimedOutAttempt moment)

fire-known : (setup : Setup) (s : RunState) (moment id : ℕ) (class : DeadlineClass) → HasQueue setup s → AllKnown setup (fire s moment id class)
unfolding fire
fire-known setup s moment id due.ExecutionTimeout queue = (tt, tt)
fire-known setup s moment id due.RunTimeout queue = (tt, tt)
fire-known setup s moment id due.WorkflowTask queue = (tt, (queue, tt))
fire-known setup s moment id due.ScheduleToClose queue = over-known setup s id _ (pending_row s id) queue
fire-known setup s moment id due.ScheduleToStart queue = over-known setup s id _ (pending_row s id) queue
fire-known setup s moment id due.Heartbeat queue = verdict-known setup s moment _ (pending_row s id) queue
fire-known setup s moment id due.StartToClose queue = verdict-known setup s moment _ (pending_row s id) queue
fire-known setup s moment id due.RetryReady queue = (tt, tt)
fire-known setup s moment id due.Retention queue = tt
fire-known setup s moment id due.UserTimer queue = outside-one setup s (plain (TimerFired (record { timer_id = timer_name s id; started = id }))) queue tt

timer_turn-names : (R : Runs) → AllHaveQueues R → Names R (timer_turn R)
unfolding timer_turn
timer_turn-names R all = at (due_now R.moment (least (all_dues R.setup.retention R.states)))
  where
    at : (d : Option RunDue) → Names R (fire_due R d)
    at None = names tt tt
    at (Some d) = either (is_retention d.at.class) (names tt tt) (names (λ there. fire-known R.setup (run_at R d.run) R.moment d.at.event d.at.class (all d.run there)) tt)

-- what is counted
acknowledges-name : (R : Runs) (issued so_far number : ℕ) (c : Counting) → Names R (acknowledges issued so_far number c)
acknowledges-name R issued so_far number c = by_answer (acknowledgement_of issued so_far number)
  where
    by_answer : (a : Acknowledgement) → Names R (by_acknowledgement c a)
    by_answer Acknowledged = names tt tt
    by_answer Already = names tt tt
    by_answer NotInOrder = names tt tt

next_transfer-names : (R : Runs) (setup : Setup) (all : List Outgoing) (to : ℕ) → Names R (next_transfer setup all to)
unfolding next_transfer
next_transfer-names R setup all to = either (nat_lt to setup.shards) (names tt tt) (names tt tt)

acknowledge-names : (R : Runs) (setup : Setup) (all : List Outgoing) (q : Acknowledge) → Names R (acknowledge setup all q)
unfolding acknowledge
acknowledge-names R setup all q = either (nat_lt q.to setup.shards) (acknowledges-name R _ _ q.number (AcknowledgesTo q.to)) (names tt tt)

next_dispatch-names : (R : Runs) (S : Content) → Names R (next_dispatch S.dispatches S.dispatched)
unfolding next_dispatch
next_dispatch-names R S = names tt tt

dispatched-names : (R : Runs) (S : Content) (number : ℕ) → Names R (dispatched S.dispatches S.dispatched number)
unfolding dispatched
dispatched-names R S number = acknowledges-name R _ _ number CountsDispatch

-- transfers
answer-names : (R : Runs) (t : Transfer) (p : Option (ℕ × List ℕ)) (event : List ℕ → Attributes) → AllHaveQueues R → ((id : List ℕ) → IsKnown R.setup (event id)) → Names R (answers_pending R t p event)
answer-names R t None event all known = names tt tt
answer-names R t (Some p) event all known = names (λ there. outside-one R.setup (run_at R p.0) (plain (event p.1)) (all p.0 there) (known p.1)) tt

guarded-both : {R : Runs} {x y : Outcome} (b d : Bool) → (b ≡ true → Names R x) → Names R y → Names R (cond (b && d) x y)
guarded-both true d h k = either d (h refl) k
guarded-both false d h k = k

child-names : (R : Runs) (t : Transfer) (c : StartChildTransfer) → Names R (start_child R t c)
child-names R t c = guarded-both (knows_queue R.setup c.task_queue) _ (λ known. names tt (known, (known, tt))) (names tt tt)

closed-known : (setup : Setup) (c : ChildClosedContent) (status : ChildStatus) → IsKnown setup (child_closed_event c status)
closed-known setup c ended.Completed = tt
closed-known setup c ended.Failed = tt
closed-known setup c ended.Canceled = tt
closed-known setup c ended.TimedOut = tt
closed-known setup c ended.Terminated = tt

done-known : (setup : Setup) (c : ExternalDoneTransfer) (kind : ExternalKind) (done : Bool) (id : List ℕ) → IsKnown setup (external_event c kind done id)
done-known setup c external.Signal true id = tt
done-known setup c external.Signal false id = tt
done-known setup c external.Cancel true id = tt
done-known setup c external.Cancel false id = tt

close-names : (R : Runs) (t : Transfer) (c : CloseChildContent) (n : Option ℕ) → AllHaveQueues R → Names R (close_child R t c n)
close-names R t c None all = names tt tt
close-names R t c (Some n) all = either (is_child_of c.parent_run c.initiated (parent_of (run_at R n))) (by_policy c.policy) (names tt tt)
  where
    by_policy : (p : ParentClosePolicy) → Names R (close_by_policy R t n p)
    by_policy policy.Terminate = names (λ there. (tt, tt)) tt
    by_policy policy.RequestCancel = either (asked_before (run_at R n)) (names tt tt) (names (λ there. outside-one R.setup (run_at R n) (plain (WorkflowExecutionCancelRequested ByParent)) (all n there) tt) tt)
    by_policy policy.Abandon = names tt tt

signal_external-names : (R : Runs) (t : Transfer) (c : SignalExternalTransfer) (n : Option ℕ) → AllHaveQueues R → Names R (signal_external R t c n)
signal_external-names R t c None all = names tt tt
signal_external-names R t c (Some n) all = names (λ there. outside-one R.setup (run_at R n) (plain (WorkflowExecutionSignaled (record { name = c.name; input = c.input }))) (all n there) tt) tt

cancel_external-names : (R : Runs) (t : Transfer) (c : CancelExternalTransfer) (n : Option ℕ) → AllHaveQueues R → Names R (cancel_external R t c n)
cancel_external-names R t c None all = names tt tt
cancel_external-names R t c (Some n) all = either (asked_before (run_at R n)) (names tt tt) (names (λ there. outside-one R.setup (run_at R n) (plain (WorkflowExecutionCancelRequested ByExternal)) (all n there) tt) tt)

effect-names : (R : Runs) (t : Transfer) (c : TransferContent) → AllHaveQueues R → Names R (effect R t c)
unfolding effect
effect-names R t (content.StartChild c) all = child-names R t c
effect-names R t (content.ChildStarted c) all = answer-names R t _ _ all (λ id. tt)
effect-names R t (content.ChildStartFailed c) all = answer-names R t _ _ all (λ id. tt)
effect-names R t (content.ChildClosed c) all = answer-names R t _ _ all (λ id. closed-known R.setup c c.status)
effect-names R t (content.CloseChild c) all = close-names R t c _ all
effect-names R t (content.SignalExternal c) all = signal_external-names R t c _ all
effect-names R t (content.CancelExternal c) all = cancel_external-names R t c _ all
effect-names R t (content.ExternalDone c) all = answer-names R t _ _ all (done-known R.setup c c.kind c.done)

deliver-names : (R : Runs) (accepted : List ℕ) (t : Transfer) → AllHaveQueues R → Names R (deliver R accepted t)
unfolding deliver
deliver-names R accepted t all =
    either (not (nat_lt t.from R.setup.shards && comes_from R.setup t t.content)) (names tt tt)
    (either (not (is_for_shard R.setup t.content)) (names tt tt) (by_number (delivery_of (accepted_from accepted t.from) t.number)))
  where
    by_number : (d : Delivery) → Names R (by_delivery R t d)
    by_number AlreadyDelivered = names tt tt
    by_number IsNext = effect-names R t t.content all
    by_number OutOfOrder = names tt tt

-- whatever is asked
pub outcome-names : (S : Content) (m : ℕ) (a : Operation) → AllHaveQueues (runs_of S m) → Names (runs_of S m) (outcome S m a)
unfolding outcome
outcome-names S m (operation.Start q) all = start-names (runs_of S m) q
outcome-names S m (operation.Signal q) all = signal-names (runs_of S m) q all
outcome-names S m (operation.SignalWithStart q) all = signal_with_start-names (runs_of S m) q all
outcome-names S m (operation.RequestCancel q) all = request_cancel-names (runs_of S m) q all
outcome-names S m (operation.Terminate q) all = terminate-names (runs_of S m) q
outcome-names S m (operation.StartTask h) all = start_task-names (runs_of S m) h
outcome-names S m (operation.CompleteWorkflowTask q) all = complete_workflow_task-names (runs_of S m) q all
outcome-names S m (operation.FailWorkflowTask q) all = fail_workflow_task-names (runs_of S m) q all
outcome-names S m (operation.CompleteActivity q) all = complete_activity-names (runs_of S m) q all
outcome-names S m (operation.FailActivity q) all = fail_activity-names (runs_of S m) q all
outcome-names S m (operation.CancelActivity q) all = cancel_activity-names (runs_of S m) q all
outcome-names S m (operation.Heartbeat q) all = heartbeat-names (runs_of S m) q
outcome-names S m (operation.History q) all = history-names (runs_of S m) q
outcome-names S m (operation.Describe q) all = describe-names (runs_of S m) q
outcome-names S m operation.TimerTurn all = timer_turn-names (runs_of S m) all
outcome-names S m (operation.NextTransfer to) all = next_transfer-names (runs_of S m) S.setup S.outgoing to
outcome-names S m (operation.Deliver t) all = deliver-names (runs_of S m) S.accepted t all
outcome-names S m (operation.Acknowledge q) all = acknowledge-names (runs_of S m) S.setup S.outgoing q
outcome-names S m operation.NextDispatch all = next_dispatch-names (runs_of S m) S
outcome-names S m (operation.Dispatched number) all = dispatched-names (runs_of S m) S number
