-- a step adds to no run but one that is there
use Rattle.std.proofs.Common.{◌≡◌, ℕ, suc, ◌+◌, ◌-◌, ◌≤◌, Bool, true, false, cond, List, [], ◌∷◌, ◌++◌, refl, sym, ap, ◌∙◌, subst, arith, Option, Some, None, Ok, Err}
use Rattle.std.specs.Prelude.{bytes_eq, find, flat_map, length, map, nat_le, nat_lt, not, option_map, slice_index_or, unwrap_or, ◌&&◌, ◌==◌}
use Rattle.std.specs.List.{AllByRecursion, enumerate_from}
use Rattle.wf_event_values.specs.Run.{Run}
use Rattle.wf_event.specs.declared.role.Class.{Class}
use Rattle.service_model_types.specs.declared.request.TakenTask.{TakenTask}
use Rattle.service_model_types.specs.declared.transfer.StartChildTransfer.{StartChildTransfer}
use Rattle.wf_event_values.specs.declared.policies.ConflictPolicy.TheVariants.{Fail}
use Rattle.service_model.specs.Activities.{beat_at, by_verdict, cancel_activity, cancel_running, complete_activity, complete_at, fail_activity, fail_at, fail_fields, heartbeat, keep_running, running_attempt, verdict_at}
use Rattle.service_model.specs.Cancels.{cancel_found, cancel_open, is_client, is_same_or_absent, request_cancel, terminate, terminate_at}
use Rattle.service_model.specs.Completion.{Judged, judge_all}
use Rattle.service_model.specs.Counts.{acknowledge, acknowledgement_of, acknowledges, by_acknowledgement, dispatched, next_dispatch, next_transfer}
use Rattle.service_model.specs.Deadlines.{Due, activity_dues, dues, execution_dues, is_closing_event, pending_rows, retention_dues, run_timeout_dues, scheduled_fields, timer_dues, workflow_task_dues}
use Rattle.service_model.specs.Deliveries.{accepted_from, answers_pending, asked_before, by_delivery, cancel_external, close_by_policy, close_child, comes_from, deliver, delivery_of, effect, is_child_of, external_class, is_for_shard, is_new, own_run, pending_asked, pending_id, signal_external, start_child}
use Rattle.service_model.specs.IdPolicy.{Decision, New, Same, Existing, TerminateThenNew, Refused, decide}
use Rattle.service_model.specs.Journal.{first_some, latest}
use Rattle.service_model.specs.Outcome.{Outcome, Added, Counting, CountsDispatch, AcknowledgesTo, Runs, has_run, if_some, keep_open, latest_run, named_run, next_ordinal, on_shard, open_run, run_at, run_id}
use Rattle.service_model.specs.Reads.{history, history_at, describe, describe_at}
use Rattle.service_model.specs.Retry.{FailedAttempt, Verdict, GivesUp, RetriesAt}
use Rattle.service_model.specs.RunState.{ActivityRow, RunState, id_of, is_open, is_open_status, is_there, no_run, parent_of, pending}
use Rattle.service_model.specs.Service.{outcome, runs_of}
use Rattle.service_model.specs.Signals.{signal, signal_at, signal_or_start, start_in, signal_with_start, signals, was_signaled}
use Rattle.service_model.specs.Starts.{by_decision, decision, start}
use Rattle.service_model.specs.Tasks.{complete_judged, complete_workflow_task, fail_workflow_task, pending_row, runs_workflow, start_task, take_by_kind, take_fields, take_row, waits_activity, waits_workflow}
use Rattle.service_model.specs.TimerTurns.{RunDue, all_dues, due_now, fire_due, is_before, is_retention, least, lesser, timer_turn}
use Rattle.service_model.proofs.QueueLemmas.{all-both}
use Rattle.service_model.proofs.ThereLemmas.{open-there}
use Rattle.wf_event_values.specs.declared.policies.ParentClosePolicy.{ParentClosePolicy}
use Rattle.wf_event_values.specs.declared.policies.ParentClosePolicy.TheVariants as policy
use Rattle.wf_event_values.specs.declared.policies.TaskKind.{TaskKind}
use Rattle.wf_event_values.specs.declared.policies.TaskKind.TheVariants.{Workflow, Activity}
use Rattle.wf_event.specs.declared.attributes.Attributes.{Attributes}
use Rattle.wf_event.specs.declared.payloads.ActivityTaskScheduled.{ActivityTaskScheduled as ScheduledAttributes}
use Rattle.wf_event.specs.declared.role.Class.TheVariants as class
use Rattle.service_model_types.specs.Routing.{knows_queue, shard_of}
use Rattle.service_model_types.specs.declared.answer.Acknowledged.{Acknowledged as Acknowledgement}
use Rattle.service_model_types.specs.declared.answer.Acknowledged.TheVariants.{Acknowledged, Already, OutOfOrder as NotInOrder}
use Rattle.service_model_types.specs.declared.answer.Answer.{Answer}
use Rattle.service_model_types.specs.declared.content.Content.{Content}
use Rattle.service_model_types.specs.declared.content.Outgoing.{Outgoing}
use Rattle.service_model_types.specs.declared.content.Setup.{Setup}
use Rattle.service_model_types.specs.declared.journal.CancelRequest.{CancelRequest}
use Rattle.service_model_types.specs.declared.journal.Fact.{Fact}
use Rattle.service_model_types.specs.declared.request.Acknowledge.{Acknowledge}
use Rattle.service_model_types.specs.declared.request.ActivityText.{ActivityText}
use Rattle.service_model_types.specs.declared.request.CompleteWorkflowTask.{CompleteWorkflowTask}
use Rattle.service_model_types.specs.declared.request.FailActivity.{FailActivity}
use Rattle.service_model_types.specs.declared.request.FailWorkflowTask.{FailWorkflowTask}
use Rattle.service_model_types.specs.declared.request.Operation.{Operation}
use Rattle.service_model_types.specs.declared.request.Operation.TheVariants as operation
use Rattle.service_model_types.specs.declared.request.Read.{Read}
use Rattle.service_model_types.specs.declared.request.RequestCancel.{RequestCancel}
use Rattle.service_model_types.specs.declared.request.Signal.{Signal}
use Rattle.service_model_types.specs.declared.request.SignalWithStart.{SignalWithStart}
use Rattle.service_model_types.specs.declared.request.Start.{Start}
use Rattle.service_model_types.specs.declared.request.Terminate.{Terminate}
use Rattle.service_model_types.specs.declared.request.WaitingTask.{WaitingTask}
use Rattle.service_model_types.specs.declared.transfer.CancelExternalTransfer.{CancelExternalTransfer}
use Rattle.service_model_types.specs.declared.transfer.CloseChild.{CloseChild as CloseChildContent}
use Rattle.service_model_types.specs.declared.transfer.Delivery.{Delivery}
use Rattle.service_model_types.specs.declared.transfer.Delivery.TheVariants.{Accepted as IsNext, AlreadyDelivered, OutOfOrder}
use Rattle.service_model_types.specs.declared.transfer.SignalExternalTransfer.{SignalExternalTransfer}
use Rattle.service_model_types.specs.declared.transfer.Transfer.{Transfer}
use Rattle.service_model_types.specs.declared.transfer.TransferContent.{TransferContent}
use Rattle.service_model_types.specs.declared.transfer.TransferContent.TheVariants as content

-- the run that a step adds to
abbrev pub AddedThere : Runs → Option Added → Type 0
AddedThere R None = Unit {0}
AddedThere R (Some a) = is_there (run_at R a.run) ≡ true

pub record AddsThere (R : Runs) (o : Outcome) : Type 0 where
  pub is : AddedThere R o.added

fine : {R : Runs} {o : Outcome} → AddedThere R o.added → AddsThere R o
fine h = record { is = h }

either : {R : Runs} {x y : Outcome} (b : Bool) → AddsThere R x → AddsThere R y → AddsThere R (cond b x y)
either true h k = h
either false h k = k

guarded : {R : Runs} {x y : Outcome} (b : Bool) → (b ≡ true → AddsThere R x) → AddsThere R y → AddsThere R (cond b x y)
guarded true h k = h refl
guarded false h k = k

here : (R : Runs) (id : List ℕ) (o : Outcome) → AddsThere R o → AddsThere R (on_shard R.setup id o)
here R id o h = either (shard_of R.setup id == R.setup.shard) h (fine tt)

same-some : {A : Type 0} (x y : A) → Some x ≡ Some y → x ≡ y
same-some x y e = cc

first-true : (a b : Bool) → (a && b) ≡ true → a ≡ true
first-true true b h = refl
first-true false b h = absurd (cc h)

second-true : (a b : Bool) → (a && b) ≡ true → b ≡ true
second-true true b h = h
second-true false b h = absurd (cc h)

has-there : (R : Runs) (n : ℕ) → has_run R n ≡ true → is_there (run_at R n) ≡ true
has-there R n h = second-true (nat_le 1 n && nat_le n (length R.states)) (is_there (run_at R n)) h

kept-there : (R : Runs) (o : Option ℕ) (n : ℕ) → keep_open R o ≡ Some n → is_there (run_at R n) ≡ true
kept-there R None n e = absurd (cc e)
kept-there R (Some m) n e = by_test (is_open (run_at R m)) refl e
  where
    by_test : (b : Bool) → is_open (run_at R m) ≡ b → if_some b m ≡ Some n → is_there (run_at R n) ≡ true
    by_test true opened e = subst (λ k. is_there (run_at R k) ≡ true) (same-some m n e) (open-there (run_at R m) opened)
    by_test false opened e = absurd (cc e)

-- the latest run of an ID
found-there : (k : ℕ) (id : List ℕ) (states : List RunState) (n : ℕ) → latest (λ (p : ℕ × RunState). cond (is_there p.1 && bytes_eq (id_of p.1) id) (Some p.0) None) (enumerate_from k states) ≡ Some n
    → (k ≤ n) × (is_there (slice_index_or states (n - k) no_run) ≡ true)
found-there k id [] n e = absurd (cc e)
found-there k id (s ∷ states) n e = by_rest (λ h. found-there (k + 1) id states n h) (latest _ (enumerate_from (k + 1) states)) refl e
  where
    by_test : (b : Bool) → (is_there s && bytes_eq (id_of s) id) ≡ b → cond b (Some k) None ≡ Some n → (k ≤ n) × (is_there (slice_index_or (s ∷ states) (n - k) no_run) ≡ true)
    by_test true bears e =
        let is : k ≡ n = same-some k n e in
        let first : n - k ≡ 0 = omega (arith, is) in
        (omega (arith, is), ap (λ i. is_there (slice_index_or (s ∷ states) i no_run)) first ∙ first-true _ _ bears)
    by_test false bears e = absurd (cc e)

    by_rest : (latest (λ (p : ℕ × RunState). cond (is_there p.1 && bytes_eq (id_of p.1) id) (Some p.0) None) (enumerate_from (k + 1) states) ≡ Some n → (k + 1 ≤ n) × (is_there (slice_index_or states (n - (k + 1)) no_run) ≡ true)) → (o : Option ℕ) → latest (λ (p : ℕ × RunState). cond (is_there p.1 && bytes_eq (id_of p.1) id) (Some p.0) None) (enumerate_from (k + 1) states) ≡ o
        → first_some o (cond (is_there s && bytes_eq (id_of s) id) (Some k) None) ≡ Some n → (k ≤ n) × (is_there (slice_index_or (s ∷ states) (n - k) no_run) ≡ true)
    by_rest more None rest e = by_test (is_there s && bytes_eq (id_of s) id) refl e
    by_rest more (Some m) rest e =
        let is : m ≡ n = same-some m n e in
        let (low, there) = more (rest ∙ e) in
        let next : n - k ≡ suc (n - (k + 1)) = omega (arith, low) in
        (omega (arith, low), ap (λ i. is_there (slice_index_or (s ∷ states) i no_run)) next ∙ there)

pub latest-there : (R : Runs) (id : List ℕ) (n : ℕ) → latest_run R.states id ≡ Some n → is_there (run_at R n) ≡ true
unfolding latest_run
latest-there R id n e = (found-there 1 id R.states n e).1

-- starts and signals
decided : (R : Runs) (q : Start) (facts : List Fact) (o : Option ℕ) → latest_run R.states q.workflow_id ≡ o → (d : Decision) → decision R q o ≡ d → AddsThere R (by_decision R (unwrap_or o 0) facts d)
unfolding decide
decided R q facts o is New e = fine tt
decided R q facts o is Same e = fine tt
decided R q facts o is Existing e = fine tt
decided R q facts None is TerminateThenNew e = absurd (cc e)
decided R q facts (Some n) is TerminateThenNew e = fine (latest-there R q.workflow_id n is)
decided R q facts o is Refused e = fine tt

start-adds : (R : Runs) (q : Start) → AddsThere R (start R q)
unfolding start
start-adds R q = here R q.workflow_id _ (either (knows_queue R.setup q.task_queue) (decided R q _ _ refl _ refl) (fine tt))

signals-add : (R : Runs) (n : ℕ) (request : Option (List ℕ)) (fact : Fact) (first again : Answer) → is_there (run_at R n) ≡ true → AddsThere R (signals R n request fact first again)
signals-add R n request fact first again there = either (was_signaled (run_at R n).signal_requests request) (fine tt) (fine there)

signal-adds : (R : Runs) (q : Signal) → AddsThere R (signal R q)
unfolding signal
signal-adds R q = here R q.workflow_id _ (at (open_run R q.workflow_id q.run) refl)
  where
    at : (n : Option ℕ) → open_run R q.workflow_id q.run ≡ n → AddsThere R (signal_at R q n)
    at None is = fine tt
    at (Some n) is = signals-add R n _ _ _ _ (kept-there R _ n is)

signal_with_start-adds : (R : Runs) (q : SignalWithStart) → AddsThere R (signal_with_start R q)
unfolding signal_with_start
signal_with_start-adds R q = here R q.workflow_id _ (either (knows_queue R.setup q.task_queue) (at (open_run R q.workflow_id None) refl) (fine tt))
  where
    at : (n : Option ℕ) → open_run R q.workflow_id None ≡ n → AddsThere R (signal_or_start R q n)
    at None is = decided R (start_in q) _ _ refl _ refl
    at (Some n) is = signals-add R n _ _ _ _ (kept-there R _ n is)

-- requests to cancel, terminations and readings
request_cancel-adds : (R : Runs) (q : RequestCancel) → AddsThere R (request_cancel R q)
unfolding request_cancel
request_cancel-adds R q = here R q.workflow_id _ (at (open_run R q.workflow_id q.run) refl)
  where
    opened : (n : ℕ) (before : Option CancelRequest) → is_there (run_at R n) ≡ true → AddsThere R (cancel_open R q n before)
    opened n None there = fine there
    opened n (Some r) there = either (is_client r.by_whom && is_same_or_absent q.request_id r.request_id) (fine tt) (fine tt)

    at : (n : Option ℕ) → open_run R q.workflow_id q.run ≡ n → AddsThere R (cancel_found R q n)
    at None is = fine tt
    at (Some n) is = opened n _ (kept-there R _ n is)

terminate-adds : (R : Runs) (q : Terminate) → AddsThere R (terminate R q)
unfolding terminate
terminate-adds R q = here R q.workflow_id _ (at (open_run R q.workflow_id q.run) refl)
  where
    at : (n : Option ℕ) → open_run R q.workflow_id q.run ≡ n → AddsThere R (terminate_at q n)
    at None is = fine tt
    at (Some n) is = fine (kept-there R _ n is)

history-adds : (R : Runs) (q : Read) → AddsThere R (history R q)
unfolding history
history-adds R q = here R q.workflow_id _ (at (named_run R q.workflow_id q.run))
  where
    at : (n : Option ℕ) → AddsThere R (history_at R n)
    at None = fine tt
    at (Some n) = fine tt

describe-adds : (R : Runs) (q : Read) → AddsThere R (describe R q)
unfolding describe
describe-adds R q = here R q.workflow_id _ (at (named_run R q.workflow_id q.run))
  where
    at : (n : Option ℕ) → AddsThere R (describe_at R n)
    at None = fine tt
    at (Some n) = fine tt

-- tasks
start_task-adds : (R : Runs) (h : WaitingTask) → AddsThere R (start_task R h)
unfolding start_task
start_task-adds R h = by_kind h.kind
  where
    with_fields : is_there (run_at R h.run) ≡ true → (r : ActivityRow) (a : Option ScheduledAttributes) → AddsThere R (take_fields R h r a)
    with_fields there r None = fine tt
    with_fields there r (Some a) = either (waits_activity h r) (fine there) (fine tt)

    with_row : is_there (run_at R h.run) ≡ true → (r : Option ActivityRow) → AddsThere R (take_row R h r)
    with_row there None = fine tt
    with_row there (Some r) = with_fields there r (scheduled_fields r.opened.attributes)

    by_kind : (k : TaskKind) → AddsThere R (take_by_kind R h k)
    by_kind Workflow = guarded (waits_workflow R h) (λ waits. fine (has-there R h.run (first-true _ _ (first-true _ _ waits)))) (fine tt)
    by_kind Activity = guarded (has_run R h.run) (λ has. with_row (has-there R h.run has) (pending_row (run_at R h.run) h.event)) (fine tt)

running-there : (R : Runs) (t : TakenTask) → runs_workflow R t ≡ true → is_there (run_at R t.run) ≡ true
running-there R t runs = has-there R t.run (second-true _ _ (first-true _ _ (first-true _ _ runs)))

complete_workflow_task-adds : (R : Runs) (q : CompleteWorkflowTask) → AddsThere R (complete_workflow_task R q)
unfolding complete_workflow_task
complete_workflow_task-adds R q = guarded (runs_workflow R q.task) (λ runs. judged (running-there R q.task runs) (judge_all R.setup (run_id R.setup (next_ordinal R)) (run_at R q.task.run) [] q.commands)) (fine tt)
  where
    judged : is_there (run_at R q.task.run) ≡ true → (j : Judged) → AddsThere R (complete_judged R q j)
    judged there (Err cause) = fine there
    judged there (Ok facts) = fine there

fail_workflow_task-adds : (R : Runs) (q : FailWorkflowTask) → AddsThere R (fail_workflow_task R q)
unfolding fail_workflow_task
fail_workflow_task-adds R q = guarded (runs_workflow R q.task) (λ runs. fine (running-there R q.task runs)) (fine tt)

-- a running attempt's run is there
attempt-there : (R : Runs) (t : TakenTask) (r : ActivityRow) → running_attempt R t ≡ Some r → is_there (run_at R t.run) ≡ true
attempt-there R t r is = by_test ((t.shard == R.setup.shard) && has_run R t.run) refl is
  where
    by_test : (b : Bool) → ((t.shard == R.setup.shard) && has_run R t.run) ≡ b → cond b (keep_running t (pending_row (run_at R t.run) t.event)) None ≡ Some r → is_there (run_at R t.run) ≡ true
    by_test true runs is = has-there R t.run (second-true _ _ runs)
    by_test false runs is = absurd (cc is)

complete_activity-adds : (R : Runs) (q : ActivityText) → AddsThere R (complete_activity R q)
unfolding complete_activity
complete_activity-adds R q = at (running_attempt R q.task) refl
  where
    at : (r : Option ActivityRow) → running_attempt R q.task ≡ r → AddsThere R (complete_at R q r)
    at None is = fine tt
    at (Some r) is = fine (attempt-there R q.task r is)

cancel_activity-adds : (R : Runs) (q : ActivityText) → AddsThere R (cancel_activity R q)
unfolding cancel_activity
cancel_activity-adds R q = at (running_attempt R q.task) refl
  where
    at : (r : Option ActivityRow) → running_attempt R q.task ≡ r → AddsThere R (cancel_running R q r)
    at None is = fine tt
    at (Some r) is = either r.cancel_requested (fine (attempt-there R q.task r is)) (fine tt)

fail_activity-adds : (R : Runs) (q : FailActivity) → AddsThere R (fail_activity R q)
unfolding fail_activity
fail_activity-adds R q = at (running_attempt R q.task) refl
  where
    judged : is_there (run_at R q.task.run) ≡ true → (r : ActivityRow) (v : Verdict) → AddsThere R (by_verdict R q r v)
    judged there r (GivesUp state) = fine there
    judged there r (RetriesAt ready) = fine there

    with_fields : is_there (run_at R q.task.run) ≡ true → (r : ActivityRow) (a : Option ScheduledAttributes) → AddsThere R (fail_fields R q r a)
    with_fields there r None = fine tt
    with_fields there r (Some a) = judged there r (verdict_at r a (FailedAttempt q.error_type q.non_retryable) R.moment)

    at : (r : Option ActivityRow) → running_attempt R q.task ≡ r → AddsThere R (fail_at R q r)
    at None is = fine tt
    at (Some r) is = with_fields (attempt-there R q.task r is) r (scheduled_fields r.opened.attributes)

heartbeat-adds : (R : Runs) (q : ActivityText) → AddsThere R (heartbeat R q)
unfolding heartbeat
heartbeat-adds R q = at (running_attempt R q.task) refl
  where
    at : (r : Option ActivityRow) → running_attempt R q.task ≡ r → AddsThere R (beat_at q r)
    at None is = fine tt
    at (Some r) is = fine (attempt-there R q.task r is)

-- deadlines
abbrev DueThere : ℕ → List RunState → RunDue → Type 0
DueThere k states d = (k ≤ d.run) × (is_there (slice_index_or states (d.run - k) no_run) ≡ true)

each-due : {A : Type 0} (P : RunDue → Type 0) (f : A → RunDue) (xs : List A) → ((x : A) → P (f x)) → AllByRecursion P (map f xs)
each-due P f [] each = tt
each-due P f (x ∷ xs) each = (each x, each-due P f xs each)

each-more : {A : Type 0} (P Q : A → Type 0) (xs : List A) → ((x : A) → P x → Q x) → AllByRecursion P xs → AllByRecursion Q xs
each-more P Q [] more h = tt
each-more P Q (x ∷ xs) more h = (more x h.0, each-more P Q xs more h.1)

all-there : (retention k : ℕ) (states : List RunState) → AllByRecursion (DueThere k states) (flat_map (λ (p : ℕ × RunState). map (λ d. record { run = p.0; at = d }) (dues retention p.1)) (enumerate_from k states))
unfolding dues
all-there retention k [] = tt
all-there retention k (s ∷ states) = all-both (DueThere k (s ∷ states)) _ _ (own (is_there s) refl) (each-more (DueThere (k + 1) states) (DueThere k (s ∷ states)) _ behind (all-there retention (k + 1) states))
  where
    behind : (d : RunDue) → DueThere (k + 1) states d → DueThere k (s ∷ states) d
    behind d h =
        let low = h.0 in
        let next : d.run - k ≡ suc (d.run - (k + 1)) = omega (arith, low) in
        (omega (arith, low), ap (λ i. is_there (slice_index_or (s ∷ states) i no_run)) next ∙ h.1)

    here_there : is_there s ≡ true → (k ≤ k) × (is_there (slice_index_or (s ∷ states) (k - k) no_run) ≡ true)
    here_there there =
        let first : k - k ≡ 0 = omega arith in
        (omega arith, ap (λ i. is_there (slice_index_or (s ∷ states) i no_run)) first ∙ there)

    own : (b : Bool) → is_there s ≡ b → AllByRecursion (DueThere k (s ∷ states)) (map (λ d. record { run = k; at = d }) (dues retention s))
    own true there = each-due (DueThere k (s ∷ states)) (λ d. record { run = k; at = d }) (dues retention s) (λ d. here_there there)
    own false there = subst (λ (l : List Due). AllByRecursion (DueThere k (s ∷ states)) (map (λ d. record { run = k; at = d }) l)) (sym none) tt
      where
        none : dues retention s ≡ []
        none = ap (λ b. cond (b && is_open_status s.status)
            (execution_dues s.beginning ++ run_timeout_dues s.beginning ++ workflow_task_dues s s.task ++ flat_map activity_dues (pending_rows s) ++ flat_map timer_dues (pending class.Timer s))
            (cond b (retention_dues retention (find is_closing_event s.shown)) [])) there

abbrev IfThere : Runs → Option RunDue → Type 0
IfThere R None = Unit {0}
IfThere R (Some d) = is_there (run_at R d.run) ≡ true

least-there : (R : Runs) (ds : List RunDue) → AllByRecursion (DueThere 1 R.states) ds → IfThere R (least ds)
unfolding least
least-there R [] h = tt
least-there R (d ∷ ds) h = by_rest (least ds) (least-there R ds h.1)
  where
    by_test : (e : RunDue) → is_there (run_at R e.run) ≡ true → (b : Bool) → is_there (run_at R (cond b e d).run) ≡ true
    by_test e there true = there
    by_test e there false = h.0.1

    by_rest : (o : Option RunDue) → IfThere R o → IfThere R (Some (lesser d o))
    by_rest None there = h.0.1
    by_rest (Some e) there = by_test e there (is_before e d)

timer_turn-adds : (R : Runs) → AddsThere R (timer_turn R)
unfolding timer_turn
timer_turn-adds R = at (least (all_dues R.setup.retention R.states)) (least-there R _ (all-there R.setup.retention 1 R.states))
  where
    by_moment : (d : RunDue) → is_there (run_at R d.run) ≡ true → (b : Bool) → AddsThere R (fire_due R (if_some b d))
    by_moment d there true = either (is_retention d.at.class) (fine tt) (fine there)
    by_moment d there false = fine tt

    at : (o : Option RunDue) → IfThere R o → AddsThere R (fire_due R (due_now R.moment o))
    at None there = fine tt
    at (Some d) there = by_moment d there (nat_le d.at.due R.moment)

-- what is counted
acknowledges-add : (R : Runs) (issued so_far number : ℕ) (c : Counting) → AddsThere R (acknowledges issued so_far number c)
acknowledges-add R issued so_far number c = by_answer (acknowledgement_of issued so_far number)
  where
    by_answer : (a : Acknowledgement) → AddsThere R (by_acknowledgement c a)
    by_answer Acknowledged = fine tt
    by_answer Already = fine tt
    by_answer NotInOrder = fine tt

next_transfer-adds : (R : Runs) (setup : Setup) (all : List Outgoing) (to : ℕ) → AddsThere R (next_transfer setup all to)
unfolding next_transfer
next_transfer-adds R setup all to = either (nat_lt to setup.shards) (fine tt) (fine tt)

acknowledge-adds : (R : Runs) (setup : Setup) (all : List Outgoing) (q : Acknowledge) → AddsThere R (acknowledge setup all q)
unfolding acknowledge
acknowledge-adds R setup all q = either (nat_lt q.to setup.shards) (acknowledges-add R _ _ q.number (AcknowledgesTo q.to)) (fine tt)

next_dispatch-adds : (R : Runs) (S : Content) → AddsThere R (next_dispatch S.dispatches S.dispatched)
unfolding next_dispatch
next_dispatch-adds R S = fine tt

dispatched-adds : (R : Runs) (S : Content) (number : ℕ) → AddsThere R (dispatched S.dispatches S.dispatched number)
unfolding dispatched
dispatched-adds R S number = acknowledges-add R _ _ number CountsDispatch

-- transfers
own-there : (R : Runs) (r : Run) (n : ℕ) → own_run R r ≡ Some n → is_there (run_at R n) ≡ true
own-there R r n is = by_test ((r.service == R.setup.service) && (r.shard == R.setup.shard) && has_run R r.ordinal) refl is
  where
    by_test : (b : Bool) → ((r.service == R.setup.service) && (r.shard == R.setup.shard) && has_run R r.ordinal) ≡ b → if_some b r.ordinal ≡ Some n → is_there (run_at R n) ≡ true
    by_test true has is = subst (λ k. is_there (run_at R k) ≡ true) (same-some r.ordinal n is) (has-there R r.ordinal (second-true _ _ has))
    by_test false has is = absurd (cc is)

pending-there : (R : Runs) (c : Class) (id : ℕ) (r : Run) (p : ℕ × List ℕ) → pending_id R c id (own_run R r) ≡ Some p → is_there (run_at R p.0) ≡ true
pending-there R c id r p is = by_run (own_run R r) refl is
  where
    by_name : (n : ℕ) → is_there (run_at R n) ≡ true → (o : Option (List ℕ)) → option_map (λ (name : List ℕ). (n, name)) o ≡ Some p → is_there (run_at R p.0) ≡ true
    by_name n there None is = absurd (cc is)
    by_name n there (Some name) is = subst (λ (q : ℕ × List ℕ). is_there (run_at R q.0) ≡ true) (same-some (n, name) p is) there

    by_run : (o : Option ℕ) → own_run R r ≡ o → pending_id R c id o ≡ Some p → is_there (run_at R p.0) ≡ true
    by_run None own is = absurd (cc is)
    by_run (Some n) own is = by_name n (own-there R r n own) (pending_asked (run_at R n) c id) is

answer-adds : (R : Runs) (t : Transfer) (p : Option (ℕ × List ℕ)) (event : List ℕ → Attributes) → ((q : ℕ × List ℕ) → p ≡ Some q → is_there (run_at R q.0) ≡ true) → AddsThere R (answers_pending R t p event)
answer-adds R t None event there = fine tt
answer-adds R t (Some p) event there = fine (there p refl)

child-adds : (R : Runs) (t : Transfer) (c : StartChildTransfer) → AddsThere R (start_child R t c)
child-adds R t c = either (knows_queue R.setup c.task_queue && is_new (decide (option_map (λ n. (run_at R n).status) (latest_run R.states c.workflow_id)) false c.reuse Fail)) (fine tt) (fine tt)

close-adds : (R : Runs) (t : Transfer) (c : CloseChildContent) (o : Option ℕ) → AddsThere R (close_child R t c (keep_open R o))
close-adds R t c o = at (keep_open R o) refl
  where
    by_policy : (n : ℕ) → is_there (run_at R n) ≡ true → (p : ParentClosePolicy) → AddsThere R (close_by_policy R t n p)
    by_policy n there policy.Terminate = fine there
    by_policy n there policy.RequestCancel = either (asked_before (run_at R n)) (fine tt) (fine there)
    by_policy n there policy.Abandon = fine tt

    at : (n : Option ℕ) → keep_open R o ≡ n → AddsThere R (close_child R t c n)
    at None is = fine tt
    at (Some n) is = either (is_child_of c.parent_run c.initiated (parent_of (run_at R n))) (by_policy n (kept-there R o n is) c.policy) (fine tt)

signal_external-adds : (R : Runs) (t : Transfer) (c : SignalExternalTransfer) (o : Option ℕ) → AddsThere R (signal_external R t c (keep_open R o))
signal_external-adds R t c o = at (keep_open R o) refl
  where
    at : (n : Option ℕ) → keep_open R o ≡ n → AddsThere R (signal_external R t c n)
    at None is = fine tt
    at (Some n) is = fine (kept-there R o n is)

cancel_external-adds : (R : Runs) (t : Transfer) (c : CancelExternalTransfer) (o : Option ℕ) → AddsThere R (cancel_external R t c (keep_open R o))
cancel_external-adds R t c o = at (keep_open R o) refl
  where
    at : (n : Option ℕ) → keep_open R o ≡ n → AddsThere R (cancel_external R t c n)
    at None is = fine tt
    at (Some n) is = either (asked_before (run_at R n)) (fine tt) (fine (kept-there R o n is))

effect-adds : (R : Runs) (t : Transfer) (c : TransferContent) → AddsThere R (effect R t c)
unfolding effect
effect-adds R t (content.StartChild c) = child-adds R t c
effect-adds R t (content.ChildStarted c) = answer-adds R t _ _ (pending-there R class.Child c.initiated c.parent_run)
effect-adds R t (content.ChildStartFailed c) = answer-adds R t _ _ (pending-there R class.Child c.initiated c.parent_run)
effect-adds R t (content.ChildClosed c) = answer-adds R t _ _ (pending-there R class.Child c.initiated c.parent_run)
effect-adds R t (content.CloseChild c) = close-adds R t c _
effect-adds R t (content.SignalExternal c) = signal_external-adds R t c _
effect-adds R t (content.CancelExternal c) = cancel_external-adds R t c _
effect-adds R t (content.ExternalDone c) = answer-adds R t _ _ (pending-there R (external_class c.kind) c.initiated c.to_run)

deliver-adds : (R : Runs) (accepted : List ℕ) (t : Transfer) → AddsThere R (deliver R accepted t)
unfolding deliver
deliver-adds R accepted t =
    either (not (nat_lt t.from R.setup.shards && comes_from R.setup t t.content)) (fine tt)
    (either (not (is_for_shard R.setup t.content)) (fine tt) (by_number (delivery_of (accepted_from accepted t.from) t.number)))
  where
    by_number : (d : Delivery) → AddsThere R (by_delivery R t d)
    by_number AlreadyDelivered = fine tt
    by_number IsNext = effect-adds R t t.content
    by_number OutOfOrder = fine tt

-- whatever is asked
pub outcome-adds : (S : Content) (m : ℕ) (a : Operation) → AddsThere (runs_of S m) (outcome S m a)
unfolding outcome
outcome-adds S m (operation.Start q) = start-adds (runs_of S m) q
outcome-adds S m (operation.Signal q) = signal-adds (runs_of S m) q
outcome-adds S m (operation.SignalWithStart q) = signal_with_start-adds (runs_of S m) q
outcome-adds S m (operation.RequestCancel q) = request_cancel-adds (runs_of S m) q
outcome-adds S m (operation.Terminate q) = terminate-adds (runs_of S m) q
outcome-adds S m (operation.StartTask h) = start_task-adds (runs_of S m) h
outcome-adds S m (operation.CompleteWorkflowTask q) = complete_workflow_task-adds (runs_of S m) q
outcome-adds S m (operation.FailWorkflowTask q) = fail_workflow_task-adds (runs_of S m) q
outcome-adds S m (operation.CompleteActivity q) = complete_activity-adds (runs_of S m) q
outcome-adds S m (operation.FailActivity q) = fail_activity-adds (runs_of S m) q
outcome-adds S m (operation.CancelActivity q) = cancel_activity-adds (runs_of S m) q
outcome-adds S m (operation.Heartbeat q) = heartbeat-adds (runs_of S m) q
outcome-adds S m (operation.History q) = history-adds (runs_of S m) q
outcome-adds S m (operation.Describe q) = describe-adds (runs_of S m) q
outcome-adds S m operation.TimerTurn = timer_turn-adds (runs_of S m)
outcome-adds S m (operation.NextTransfer to) = next_transfer-adds (runs_of S m) S.setup S.outgoing to
outcome-adds S m (operation.Deliver t) = deliver-adds (runs_of S m) S.accepted t
outcome-adds S m (operation.Acknowledge q) = acknowledge-adds (runs_of S m) S.setup S.outgoing q
outcome-adds S m operation.NextDispatch = next_dispatch-adds (runs_of S m) S
outcome-adds S m (operation.Dispatched number) = dispatched-adds (runs_of S m) S number
