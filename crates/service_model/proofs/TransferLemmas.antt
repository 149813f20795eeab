-- what is acknowledged was issued, and transfers of a source are accepted one by one
use Rattle.std.proofs.Common.{◌≡◌, ◌⊎◌, inl, inr, ℕ, ◌+◌, ◌-◌, ◌<◌, ◌≤◌, Bool, true, false, cond, List, [], ◌∷◌, ◌++◌, length, zero, suc, refl, sym, ap, ◌∙◌, subst, arith, Option, Some, None, Ok, Err}
use Rattle.std.proofs.lemmas.Bool.Decides.{nat_tests}
use Rattle.std.proofs.lemmas.List.{length-append}
use Rattle.std.specs.Prelude.{nat_le, nat_lt, not, ◌==◌, ◌&&◌, filter, map, option_map, replicate, slice_index_or, slice_set}
use Rattle.std.specs.List.{AllByRecursion, fold}
use Rattle.wf_event_values.specs.declared.policies.TaskKind.{TaskKind}
use Rattle.wf_event_values.specs.declared.policies.TaskKind.TheVariants.{Workflow, Activity}
use Rattle.wf_event.specs.declared.attributes.Attributes.{Attributes}
use Rattle.wf_event.specs.declared.payloads.ActivityTaskScheduled.{ActivityTaskScheduled as ScheduledAttributes}
use Rattle.wf_event_values.specs.declared.field.Field.TheVariants as field
use Rattle.wf_event_values.specs.declared.policies.ConflictPolicy.TheVariants.{Fail}
use Rattle.wf_event_values.specs.declared.policies.ParentClosePolicy.{ParentClosePolicy}
use Rattle.wf_event_values.specs.declared.policies.ParentClosePolicy.TheVariants as policy
use Rattle.wf_event_values.specs.declared.refusal.Refusal.{Refusal}
use Rattle.wf_event_values.specs.declared.refusal.Refusal.TheVariants.{InvalidArgument}
use Rattle.service_model_types.specs.declared.answer.Acknowledged.{Acknowledged as Acknowledgement}
use Rattle.service_model_types.specs.declared.answer.Acknowledged.TheVariants.{Acknowledged, Already, OutOfOrder as NotInOrder}
use Rattle.service_model_types.specs.declared.answer.Answer.{Answer}
use Rattle.service_model_types.specs.declared.answer.Answer.TheVariants as answers
use Rattle.service_model_types.specs.declared.content.Content.{Content}
use Rattle.service_model_types.specs.declared.content.Outgoing.{Outgoing}
use Rattle.service_model_types.specs.declared.content.Setup.{Setup}
use Rattle.service_model_types.specs.declared.journal.Fact.{Fact}
use Rattle.service_model_types.specs.declared.journal.CancelRequest.{CancelRequest}
use Rattle.service_model_types.specs.declared.request.Acknowledge.{Acknowledge}
use Rattle.service_model_types.specs.declared.request.ActivityText.{ActivityText}
use Rattle.service_model_types.specs.declared.request.CompleteWorkflowTask.{CompleteWorkflowTask}
use Rattle.service_model_types.specs.declared.request.FailActivity.{FailActivity}
use Rattle.service_model_types.specs.declared.request.FailWorkflowTask.{FailWorkflowTask}
use Rattle.service_model_types.specs.declared.request.WaitingTask.{WaitingTask}
use Rattle.service_model_types.specs.declared.request.Operation.{Operation}
use Rattle.service_model_types.specs.declared.request.Operation.TheVariants as operation
use Rattle.service_model_types.specs.declared.request.Read.{Read}
use Rattle.service_model_types.specs.declared.request.Request.{Request}
use Rattle.service_model_types.specs.declared.request.RequestCancel.{RequestCancel}
use Rattle.service_model_types.specs.declared.request.Signal.{Signal}
use Rattle.service_model_types.specs.declared.request.SignalWithStart.{SignalWithStart}
use Rattle.service_model_types.specs.declared.request.Start.{Start}
use Rattle.service_model_types.specs.declared.request.Terminate.{Terminate}
use Rattle.service_model_types.specs.declared.transfer.CloseChild.{CloseChild as CloseChildContent}
use Rattle.service_model_types.specs.declared.transfer.CancelExternalTransfer.{CancelExternalTransfer}
use Rattle.service_model_types.specs.declared.transfer.SignalExternalTransfer.{SignalExternalTransfer}
use Rattle.service_model_types.specs.declared.transfer.Delivery.{Delivery}
use Rattle.service_model_types.specs.declared.transfer.Delivery.TheVariants.{Accepted as IsNext, AlreadyDelivered, OutOfOrder}
use Rattle.service_model_types.specs.declared.transfer.Sent.{Sent}
use Rattle.service_model_types.specs.declared.transfer.Transfer.{Transfer}
use Rattle.service_model_types.specs.declared.transfer.TransferContent.{TransferContent}
use Rattle.service_model_types.specs.declared.transfer.TransferContent.TheVariants as content
use Rattle.service_model.specs.Activities.{beat_at, by_verdict, cancel_activity, cancel_running, complete_activity, complete_at, fail_activity, fail_at, fail_fields, heartbeat, running_attempt, verdict_at}
use Rattle.service_model.specs.Cancels.{cancel_found, cancel_open, is_client, is_same_or_absent, request_cancel, terminate, terminate_at}
use Rattle.service_model.specs.Completion.{Judged, judge_all}
use Rattle.service_model.specs.Deadlines.{scheduled_fields}
use Rattle.service_model.specs.Counts.{acknowledge, acknowledgement_of, acknowledges, by_acknowledgement, dispatched, next_dispatch, next_transfer, outgoing_to}
use Rattle.service_model.specs.Deliveries.{accepted_from, answers_pending, asked_before, by_delivery, cancel_external, close_by_policy, close_child, comes_from, deliver, delivery_of, effect, is_child_of, is_for_shard, is_new, signal_external}
use Rattle.service_model.specs.IdPolicy.{Decision, New, Same, Existing, TerminateThenNew, Refused, decide}
use Rattle.service_model.specs.Outcome.{Outcome, Runs, Counting, CountsNothing, AcceptsFrom, AcknowledgesTo, CountsDispatch, has_run, latest_run, named_run, next_ordinal, on_shard, open_run, refused, run_at, run_id}
use Rattle.service_model_types.specs.Routing.{knows_queue, shard_of}
use Rattle.service_model.specs.Reads.{history, history_at, describe, describe_at}
use Rattle.service_model.specs.Retry.{FailedAttempt, Verdict, GivesUp, RetriesAt}
use Rattle.service_model.specs.RunState.{ActivityRow, parent_of}
use Rattle.service_model.specs.Service.{Entry, after, moment_of, one_more_acknowledged, opening, outcome, replay, runs_of, sent_for, with_all_sent, with_count}
use Rattle.service_model.specs.Signals.{signal, signal_at, signal_or_start, signal_with_start, signals, was_signaled}
use Rattle.service_model.specs.Starts.{by_decision, start}
use Rattle.service_model.specs.Tasks.{complete_judged, complete_workflow_task, fail_workflow_task, pending_row, runs_workflow, start_task, take_by_kind, take_fields, take_row, waits_activity, waits_workflow}
use Rattle.service_model.specs.TimerTurns.{RunDue, all_dues, due_now, fire_due, is_retention, least, timer_turn}
use Rattle.service_model.specs.TransferLaws.{AcceptsNext, AcceptsOneByOne, AcknowledgesIssued}

-- the count that a step moves on
pub record Moves (c : Counting) (o : Outcome) : Type 0 where
  pub is : o.counting ≡ c

moves : {c : Counting} {o : Outcome} → o.counting ≡ c → Moves c o
moves h = record { is = h }

either : {c : Counting} {x y : Outcome} (b : Bool) → Moves c x → Moves c y → Moves c (cond b x y)
either true h k = h
either false h k = k

abbrev Quiet : Outcome → Type 0
Quiet = Moves CountsNothing

here-quiet : (R : Runs) (id : List ℕ) (o : Outcome) → Quiet o → Quiet (on_shard R.setup id o)
here-quiet R id o h = either (shard_of R.setup id == R.setup.shard) h (moves refl)

-- starts and signals move none
decided-quiet : (R : Runs) (n : ℕ) (facts : List Fact) (d : Decision) → Quiet (by_decision R n facts d)
decided-quiet R n facts New = moves refl
decided-quiet R n facts Same = moves refl
decided-quiet R n facts Existing = moves refl
decided-quiet R n facts TerminateThenNew = moves refl
decided-quiet R n facts Refused = moves refl

start-quiet : (R : Runs) (q : Start) → Quiet (start R q)
unfolding start
start-quiet R q = here-quiet R q.workflow_id _ (either (knows_queue R.setup q.task_queue) (decided-quiet R _ _ _) (moves refl))

signals-quiet : (R : Runs) (n : ℕ) (request : Option (List ℕ)) (fact : Fact) (first again : Answer) → Quiet (signals R n request fact first again)
signals-quiet R n request fact first again = either (was_signaled (run_at R n).signal_requests request) (moves refl) (moves refl)

signal-quiet : (R : Runs) (q : Signal) → Quiet (signal R q)
unfolding signal
signal-quiet R q = here-quiet R q.workflow_id _ (at (open_run R q.workflow_id q.run))
  where
    at : (n : Option ℕ) → Quiet (signal_at R q n)
    at None = moves refl
    at (Some n) = signals-quiet R n _ _ _ _

signal_with_start-quiet : (R : Runs) (q : SignalWithStart) → Quiet (signal_with_start R q)
unfolding signal_with_start
signal_with_start-quiet R q = here-quiet R q.workflow_id _ (either (knows_queue R.setup q.task_queue) (at (open_run R q.workflow_id None)) (moves refl))
  where
    at : (n : Option ℕ) → Quiet (signal_or_start R q n)
    at None = decided-quiet R _ _ _
    at (Some n) = signals-quiet R n _ _ _ _

-- nor do requests to cancel, terminations and readings
request_cancel-quiet : (R : Runs) (q : RequestCancel) → Quiet (request_cancel R q)
unfolding request_cancel
request_cancel-quiet R q = here-quiet R q.workflow_id _ (at (open_run R q.workflow_id q.run))
  where
    opened : (n : ℕ) (before : Option CancelRequest) → Quiet (cancel_open R q n before)
    opened n None = moves refl
    opened n (Some r) = either (is_client r.by_whom && is_same_or_absent q.request_id r.request_id) (moves refl) (moves refl)

    at : (n : Option ℕ) → Quiet (cancel_found R q n)
    at None = moves refl
    at (Some n) = opened n _

terminate-quiet : (R : Runs) (q : Terminate) → Quiet (terminate R q)
unfolding terminate
terminate-quiet R q = here-quiet R q.workflow_id _ (at (open_run R q.workflow_id q.run))
  where
    at : (n : Option ℕ) → Quiet (terminate_at q n)
    at None = moves refl
    at (Some n) = moves refl

history-quiet : (R : Runs) (q : Read) → Quiet (history R q)
unfolding history
history-quiet R q = here-quiet R q.workflow_id _ (at (named_run R q.workflow_id q.run))
  where
    at : (n : Option ℕ) → Quiet (history_at R n)
    at None = moves refl
    at (Some n) = moves refl

describe-quiet : (R : Runs) (q : Read) → Quiet (describe R q)
unfolding describe
describe-quiet R q = here-quiet R q.workflow_id _ (at (named_run R q.workflow_id q.run))
  where
    at : (n : Option ℕ) → Quiet (describe_at R n)
    at None = moves refl
    at (Some n) = moves refl

-- nor does what is done of tasks
start_task-quiet : (R : Runs) (h : WaitingTask) → Quiet (start_task R h)
unfolding start_task
start_task-quiet R h = by_kind h.kind
  where
    with_fields : (r : ActivityRow) (a : Option ScheduledAttributes) → Quiet (take_fields R h r a)
    with_fields r None = moves refl
    with_fields r (Some a) = either (waits_activity h r) (moves refl) (moves refl)

    with_row : (r : Option ActivityRow) → Quiet (take_row R h r)
    with_row None = moves refl
    with_row (Some r) = with_fields r (scheduled_fields r.opened.attributes)

    by_kind : (k : TaskKind) → Quiet (take_by_kind R h k)
    by_kind Workflow = either (waits_workflow R h) (moves refl) (moves refl)
    by_kind Activity = either (has_run R h.run) (with_row (pending_row (run_at R h.run) h.event)) (moves refl)

complete_workflow_task-quiet : (R : Runs) (q : CompleteWorkflowTask) → Quiet (complete_workflow_task R q)
unfolding complete_workflow_task
complete_workflow_task-quiet R q = either (runs_workflow R q.task) (judged (judge_all R.setup (run_id R.setup (next_ordinal R)) (run_at R q.task.run) [] q.commands)) (moves refl)
  where
    judged : (j : Judged) → Quiet (complete_judged R q j)
    judged (Err cause) = moves refl
    judged (Ok facts) = moves refl

fail_workflow_task-quiet : (R : Runs) (q : FailWorkflowTask) → Quiet (fail_workflow_task R q)
unfolding fail_workflow_task
fail_workflow_task-quiet R q = either (runs_workflow R q.task) (moves refl) (moves refl)

complete_activity-quiet : (R : Runs) (q : ActivityText) → Quiet (complete_activity R q)
unfolding complete_activity
complete_activity-quiet R q = at (running_attempt R q.task)
  where
    at : (r : Option ActivityRow) → Quiet (complete_at R q r)
    at None = moves refl
    at (Some r) = moves refl

cancel_activity-quiet : (R : Runs) (q : ActivityText) → Quiet (cancel_activity R q)
unfolding cancel_activity
cancel_activity-quiet R q = at (running_attempt R q.task)
  where
    at : (r : Option ActivityRow) → Quiet (cancel_running R q r)
    at None = moves refl
    at (Some r) = either r.cancel_requested (moves refl) (moves refl)

fail_activity-quiet : (R : Runs) (q : FailActivity) → Quiet (fail_activity R q)
unfolding fail_activity
fail_activity-quiet R q = at (running_attempt R q.task)
  where
    judged : (r : ActivityRow) (v : Verdict) → Quiet (by_verdict R q r v)
    judged r (GivesUp state) = moves refl
    judged r (RetriesAt ready) = moves refl

    with_fields : (r : ActivityRow) (a : Option ScheduledAttributes) → Quiet (fail_fields R q r a)
    with_fields r None = moves refl
    with_fields r (Some a) = judged r (verdict_at r a (FailedAttempt q.error_type q.non_retryable) R.moment)

    at : (r : Option ActivityRow) → Quiet (fail_at R q r)
    at None = moves refl
    at (Some r) = with_fields r (scheduled_fields r.opened.attributes)

heartbeat-quiet : (R : Runs) (q : ActivityText) → Quiet (heartbeat R q)
unfolding heartbeat
heartbeat-quiet R q = at (running_attempt R q.task)
  where
    at : (r : Option ActivityRow) → Quiet (beat_at q r)
    at None = moves refl
    at (Some r) = moves refl

timer_turn-quiet : (R : Runs) → Quiet (timer_turn R)
unfolding timer_turn
timer_turn-quiet R = at (due_now R.moment (least (all_dues R.setup.retention R.states)))
  where
    at : (d : Option RunDue) → Quiet (fire_due R d)
    at None = moves refl
    at (Some d) = either (is_retention d.at.class) (moves refl) (moves refl)

next_transfer-quiet : (setup : Setup) (all : List Outgoing) (to : ℕ) → Quiet (next_transfer setup all to)
unfolding next_transfer
next_transfer-quiet setup all to = either (nat_lt to setup.shards) (moves refl) (moves refl)

next_dispatch-quiet : (S : Content) → Quiet (next_dispatch S.dispatches S.dispatched)
unfolding next_dispatch
next_dispatch-quiet S = moves refl

-- each transfer that is accepted moves its source's count, and is answered so
pub record Accepts (t : Transfer) (o : Outcome) : Type 0 where
  pub is : o.counting ≡ AcceptsFrom t.from
  pub says : o.reply ≡ Ok (answers.Accepted t.number)

takes : {t : Transfer} {o : Outcome} → o.counting ≡ AcceptsFrom t.from → o.reply ≡ Ok (answers.Accepted t.number) → Accepts t o
takes h k = record { is = h; says = k }

takes-either : {t : Transfer} {x y : Outcome} (b : Bool) → Accepts t x → Accepts t y → Accepts t (cond b x y)
takes-either true h k = h
takes-either false h k = k

answer-accepts : (R : Runs) (t : Transfer) (p : Option (ℕ × List ℕ)) (event : List ℕ → Attributes) → Accepts t (answers_pending R t p event)
answer-accepts R t None event = takes refl refl
answer-accepts R t (Some p) event = takes refl refl

close-accepts : (R : Runs) (t : Transfer) (c : CloseChildContent) (n : Option ℕ) → Accepts t (close_child R t c n)
close-accepts R t c None = takes refl refl
close-accepts R t c (Some n) = takes-either (is_child_of c.parent_run c.initiated (parent_of (run_at R n))) (by_policy c.policy) (takes refl refl)
  where
    by_policy : (p : ParentClosePolicy) → Accepts t (close_by_policy R t n p)
    by_policy policy.Terminate = takes refl refl
    by_policy policy.RequestCancel = takes-either (asked_before (run_at R n)) (takes refl refl) (takes refl refl)
    by_policy policy.Abandon = takes refl refl

signal-accepts : (R : Runs) (t : Transfer) (c : SignalExternalTransfer) (n : Option ℕ) → Accepts t (signal_external R t c n)
signal-accepts R t c None = takes refl refl
signal-accepts R t c (Some n) = takes refl refl

cancel-accepts : (R : Runs) (t : Transfer) (c : CancelExternalTransfer) (n : Option ℕ) → Accepts t (cancel_external R t c n)
cancel-accepts R t c None = takes refl refl
cancel-accepts R t c (Some n) = takes-either (asked_before (run_at R n)) (takes refl refl) (takes refl refl)

pub effect-accepts : (R : Runs) (t : Transfer) (c : TransferContent) → Accepts t (effect R t c)
unfolding effect
effect-accepts R t (content.StartChild c) = takes-either (knows_queue R.setup c.task_queue && is_new (decide (option_map (λ n. (run_at R n).status) (latest_run R.states c.workflow_id)) false c.reuse Fail)) (takes refl refl) (takes refl refl)
effect-accepts R t (content.ChildStarted c) = answer-accepts R t _ _
effect-accepts R t (content.ChildStartFailed c) = answer-accepts R t _ _
effect-accepts R t (content.ChildClosed c) = answer-accepts R t _ _
effect-accepts R t (content.CloseChild c) = close-accepts R t c _
effect-accepts R t (content.SignalExternal c) = signal-accepts R t c _
effect-accepts R t (content.CancelExternal c) = cancel-accepts R t c _
effect-accepts R t (content.ExternalDone c) = answer-accepts R t _ _

-- the request delivers the transfer after the last accepted one of that source
record Delivers (S : Content) (a : Operation) (from : ℕ) : Type 0 where
  transfer : Transfer
  asked : a ≡ operation.Deliver transfer
  source : transfer.from ≡ from
  next : transfer.number ≡ accepted_from S.accepted from + 1

-- not all that was issued to the shard is acknowledged
abbrev HasMore : List Outgoing → ℕ → Type 0
HasMore all to = (outgoing_to all to).acknowledged < length (outgoing_to all to).issued

-- the request acknowledges the transfer after the last acknowledged one
record Counts (S : Content) (a : Operation) (to : ℕ) : Type 0 where
  more : HasMore S.outgoing to
  counted : Acknowledge
  asked : a ≡ operation.Acknowledge counted
  destination : counted.to ≡ to
  next : counted.number ≡ (outgoing_to S.outgoing to).acknowledged + 1

-- what is so where a step moves a count
abbrev HasGrounds : Content → Operation → Counting → Type 0
HasGrounds S a CountsNothing = Unit {0}
HasGrounds S a (AcceptsFrom from) = Delivers S a from
HasGrounds S a (AcknowledgesTo to) = Counts S a to
HasGrounds S a CountsDispatch = Unit {0}

abbrev Grounded : Content → Operation → Outcome → Type 0
Grounded S a o = HasGrounds S a o.counting

from-quiet : (S : Content) (a : Operation) (o : Outcome) → Quiet o → Grounded S a o
from-quiet S a o h = subst (HasGrounds S a) (sym h.is) tt

unless-refused : (S : Content) (a : Operation) (b : Bool) (r : Refusal) (o : Outcome) → Grounded S a o → Grounded S a (cond b (refused r) o)
unless-refused S a true r o h = tt
unless-refused S a false r o h = h

pub next-number : (so_far number : ℕ) → delivery_of so_far number ≡ IsNext → number ≡ so_far + 1
next-number so_far number = by_tests (nat_le number so_far) (number == so_far + 1) refl
  where
    by_tests : (b c : Bool) → (number == so_far + 1) ≡ c → cond b AlreadyDelivered (cond c IsNext OutOfOrder) ≡ IsNext → number ≡ so_far + 1
    by_tests true c at is = absurd (cc (is))
    by_tests false true at is = grind (at, arith, nat_tests)
    by_tests false false at is = absurd (cc (is))

pub already-number : (so_far number : ℕ) → delivery_of so_far number ≡ AlreadyDelivered → number ≤ so_far
already-number so_far number = by_tests (nat_le number so_far) refl (number == so_far + 1)
  where
    by_tests : (b : Bool) → nat_le number so_far ≡ b → (c : Bool) → cond b AlreadyDelivered (cond c IsNext OutOfOrder) ≡ AlreadyDelivered → number ≤ so_far
    by_tests true low c is = grind (low, arith, nat_tests)
    by_tests false low true is = absurd (cc (is))
    by_tests false low false is = absurd (cc (is))

deliver-grounded : (S : Content) (m : ℕ) (t : Transfer) → Grounded S (operation.Deliver t) (deliver (runs_of S m) S.accepted t)
unfolding deliver
deliver-grounded S m t =
    unless-refused S (operation.Deliver t) (not (nat_lt t.from S.setup.shards && comes_from S.setup t t.content)) (InvalidArgument field.From) _
    (unless-refused S (operation.Deliver t) (not (is_for_shard S.setup t.content)) (InvalidArgument field.WorkflowId) _
    (by_word (delivery_of (accepted_from S.accepted t.from) t.number) refl))
  where
    by_word : (d : Delivery) → delivery_of (accepted_from S.accepted t.from) t.number ≡ d → Grounded S (operation.Deliver t) (by_delivery (runs_of S m) t d)
    by_word AlreadyDelivered is = tt
    by_word IsNext is = subst (HasGrounds S (operation.Deliver t)) (sym (effect-accepts (runs_of S m) t t.content).is) (record { transfer = t; asked = refl; source = refl; next = next-number _ _ is })
    by_word OutOfOrder is = tt

more-issued : (issued so_far number : ℕ) → acknowledgement_of issued so_far number ≡ Acknowledged → so_far < issued
more-issued issued so_far number = by_tests (nat_le number so_far) (number == so_far + 1) refl (nat_le number issued) refl
  where
    by_tests : (b c : Bool) → (number == so_far + 1) ≡ c → (d : Bool) → nat_le number issued ≡ d → cond b Already (cond (c && d) Acknowledged NotInOrder) ≡ Acknowledged → so_far < issued
    by_tests true c at d low is = absurd (cc (is))
    by_tests false true at true low is = grind (at, low, arith, nat_tests)
    by_tests false true at false low is = absurd (cc (is))
    by_tests false false at d low is = absurd (cc (is))

next-acknowledged : (issued so_far number : ℕ) → acknowledgement_of issued so_far number ≡ Acknowledged → number ≡ so_far + 1
next-acknowledged issued so_far number = by_tests (nat_le number so_far) (number == so_far + 1) refl (nat_le number issued)
  where
    by_tests : (b c : Bool) → (number == so_far + 1) ≡ c → (d : Bool) → cond b Already (cond (c && d) Acknowledged NotInOrder) ≡ Acknowledged → number ≡ so_far + 1
    by_tests true c at d is = absurd (cc (is))
    by_tests false true at d is = grind (at, arith, nat_tests)
    by_tests false false at d is = absurd (cc (is))

acknowledge-grounded : (S : Content) (q : Acknowledge) → Grounded S (operation.Acknowledge q) (acknowledge S.setup S.outgoing q)
unfolding acknowledge
acknowledge-grounded S q = by_test (nat_lt q.to S.setup.shards)
  where
    by_word : (a : Acknowledgement) → acknowledgement_of (length (outgoing_to S.outgoing q.to).issued) (outgoing_to S.outgoing q.to).acknowledged q.number ≡ a → Grounded S (operation.Acknowledge q) (by_acknowledgement (AcknowledgesTo q.to) a)
    by_word Acknowledged is = record { more = more-issued _ _ _ is; counted = q; asked = refl; destination = refl; next = next-acknowledged _ _ _ is }
    by_word Already is = tt
    by_word NotInOrder is = tt

    by_test : (b : Bool) → Grounded S (operation.Acknowledge q) (cond b (let o = outgoing_to S.outgoing q.to in acknowledges (length o.issued) o.acknowledged q.number (AcknowledgesTo q.to)) (refused (InvalidArgument field.To)))
    by_test true = by_word (acknowledgement_of (length (outgoing_to S.outgoing q.to).issued) (outgoing_to S.outgoing q.to).acknowledged q.number) refl
    by_test false = tt

dispatched-grounded : (S : Content) (number : ℕ) → Grounded S (operation.Dispatched number) (dispatched S.dispatches S.dispatched number)
unfolding dispatched
dispatched-grounded S number = by_word (acknowledgement_of (length S.dispatches) S.dispatched number)
  where
    by_word : (a : Acknowledgement) → Grounded S (operation.Dispatched number) (by_acknowledgement CountsDispatch a)
    by_word Acknowledged = tt
    by_word Already = tt
    by_word NotInOrder = tt

grounded : (S : Content) (m : ℕ) (a : Operation) → Grounded S a (outcome S m a)
unfolding outcome
grounded S m (operation.Start q) = from-quiet S _ _ (start-quiet _ q)
grounded S m (operation.Signal q) = from-quiet S _ _ (signal-quiet _ q)
grounded S m (operation.SignalWithStart q) = from-quiet S _ _ (signal_with_start-quiet _ q)
grounded S m (operation.RequestCancel q) = from-quiet S _ _ (request_cancel-quiet _ q)
grounded S m (operation.Terminate q) = from-quiet S _ _ (terminate-quiet _ q)
grounded S m (operation.StartTask h) = from-quiet S _ _ (start_task-quiet _ h)
grounded S m (operation.CompleteWorkflowTask q) = from-quiet S _ _ (complete_workflow_task-quiet _ q)
grounded S m (operation.FailWorkflowTask q) = from-quiet S _ _ (fail_workflow_task-quiet _ q)
grounded S m (operation.CompleteActivity q) = from-quiet S _ _ (complete_activity-quiet _ q)
grounded S m (operation.FailActivity q) = from-quiet S _ _ (fail_activity-quiet _ q)
grounded S m (operation.CancelActivity q) = from-quiet S _ _ (cancel_activity-quiet _ q)
grounded S m (operation.Heartbeat q) = from-quiet S _ _ (heartbeat-quiet _ q)
grounded S m (operation.History q) = from-quiet S _ _ (history-quiet _ q)
grounded S m (operation.Describe q) = from-quiet S _ _ (describe-quiet _ q)
grounded S m operation.TimerTurn = from-quiet S _ _ (timer_turn-quiet _)
grounded S m (operation.NextTransfer to) = from-quiet S _ _ (next_transfer-quiet _ _ to)
grounded S m (operation.Deliver t) = deliver-grounded S m t
grounded S m (operation.Acknowledge q) = acknowledge-grounded S q
grounded S m operation.NextDispatch = from-quiet S _ _ (next_dispatch-quiet S)
grounded S m (operation.Dispatched number) = dispatched-grounded S number

-- of the transfers to each shard, no more are acknowledged than were issued
abbrev AllIssued : List Outgoing → Type 0
AllIssued = AllByRecursion (λ (o : Outgoing). o.acknowledged ≤ length o.issued)

issued-to : (all : List Outgoing) (to : ℕ) → AllIssued all → (outgoing_to all to).acknowledged ≤ length (outgoing_to all to).issued
issued-to [] to h = omega arith
issued-to (o ∷ os) zero h = h.0
issued-to (o ∷ os) (suc n) h = issued-to os n h.1

-- sending only adds to what was issued
no-fewer : {A : Type 0} {n : ℕ} (xs ys : List A) → n ≤ length xs → n ≤ length (xs ++ ys)
no-fewer xs ys h = let all = length-append xs ys in omega (all, h, arith)

abbrev contents : List Sent → ℕ → List TransferContent
contents sent to = map (λ (s : Sent). s.content) (filter (λ (s : Sent). s.to == to) sent)

issued-sent : (sent : List Sent) (base : ℕ) (all : List Outgoing) → AllIssued all → AllIssued (with_all_sent sent base all)
issued-sent sent base [] h = tt
issued-sent sent base (o ∷ os) h = (no-fewer o.issued (contents sent base) h.0, issued-sent sent (base + 1) os h.1)

more-sent : (sent : List Sent) (base : ℕ) (all : List Outgoing) (to : ℕ) → HasMore all to → HasMore (with_all_sent sent base all) to
more-sent sent base [] to h = h
more-sent sent base (o ∷ os) zero h = no-fewer o.issued (contents sent base) h
more-sent sent base (o ∷ os) (suc n) h = more-sent sent (base + 1) os n h

issued-acknowledged : (all : List Outgoing) (to : ℕ) → AllIssued all → HasMore all to → AllIssued (one_more_acknowledged all to)
issued-acknowledged [] to h more = tt
issued-acknowledged (o ∷ os) zero h more = (omega (more, arith), h.1)
issued-acknowledged (o ∷ os) (suc n) h more =
    let other : (suc n == 0) ≡ false = grind (arith, nat_tests) in
    let before : suc n - 1 ≡ n = omega arith in
    let later = ap (λ b. cond b (record { issued = o.issued; acknowledged = o.acknowledged + 1 } ∷ os) (o ∷ one_more_acknowledged os (suc n - 1))) other ∙ ap (λ k. o ∷ one_more_acknowledged os k) before in
    subst AllIssued (sym later) (h.0, issued-acknowledged os n h.1 more)

issued-counted : (S : Content) (a : Operation) (c : Counting) (T : Content) → HasGrounds S a c → AllIssued T.outgoing → ((to : ℕ) → HasMore S.outgoing to → HasMore T.outgoing to) → AllIssued (with_count c T).outgoing
issued-counted S a CountsNothing T grounds h more = h
issued-counted S a (AcceptsFrom from) T grounds h more = h
issued-counted S a (AcknowledgesTo to) T grounds h more = issued-acknowledged T.outgoing to h (more to grounds.more)
issued-counted S a CountsDispatch T grounds h more = h

issued-after : (S : Content) (q : Request) → AllIssued S.outgoing → AllIssued (after S q).outgoing
unfolding after
issued-after S q h =
    let o = outcome S (moment_of S q.at) q.operation in
    issued-counted S q.operation o.counting _ (grounded S (moment_of S q.at) q.operation) (issued-sent _ 0 S.outgoing h) (λ to. more-sent _ 0 S.outgoing to)

issued-replayed : (S : Content) (R : List Entry) → AllIssued S.outgoing → AllIssued (fold (λ T (e : Entry). after T e.request) S R).outgoing
issued-replayed S [] h = h
issued-replayed S (e ∷ R) h = issued-replayed (after S e.request) R (issued-after S e.request h)

issued-opening : (n : ℕ) → AllIssued (replicate n (record { issued = []; acknowledged = 0 }))
issued-opening zero = tt
issued-opening (suc n) = (omega arith, issued-opening n)

pub acknowledges-issued : AcknowledgesIssued
acknowledges-issued setup R to = issued-to (replay setup R).outgoing to (issued-replayed (opening setup) R (issued-opening setup.shards))

-- a source's count stays, or goes on by one
one-more : (all : List ℕ) (at from : ℕ) → let next = accepted_from (slice_set all at (slice_index_or all at 0 + 1)) from in (next ≡ accepted_from all from) ⊎ ((at ≡ from) × (next ≡ accepted_from all from + 1))
one-more [] at from = inl refl
one-more (x ∷ xs) zero zero = inr (refl, refl)
one-more (x ∷ xs) zero (suc n) = inl refl
one-more (x ∷ xs) (suc n) zero = inl refl
one-more (x ∷ xs) (suc n) (suc m) = same (one-more xs n m)
  where
    same : {A B : Type 0} → A ⊎ ((n ≡ m) × B) → A ⊎ ((suc n ≡ suc m) × B)
    same (inl h) = inl h
    same (inr h) = inr (ap suc h.0, h.1)

-- the numbers accepted from all sources after a step
abbrev pub counted : List ℕ → Counting → List ℕ
counted all CountsNothing = all
counted all (AcceptsFrom from) = slice_set all from (slice_index_or all from 0 + 1)
counted all (AcknowledgesTo to) = all
counted all CountsDispatch = all

accepted-counted : (c : Counting) (T : Content) → (with_count c T).accepted ≡ counted T.accepted c
accepted-counted CountsNothing T = refl
accepted-counted (AcceptsFrom from) T = refl
accepted-counted (AcknowledgesTo to) T = refl
accepted-counted CountsDispatch T = refl

pub accepted-after : (S : Content) (q : Request) → (after S q).accepted ≡ counted S.accepted (outcome S (moment_of S q.at) q.operation).counting
unfolding after
accepted-after S q = accepted-counted (outcome S (moment_of S q.at) q.operation).counting _

by-one : (S : Content) (a : Operation) (from : ℕ) (c : Counting) → HasGrounds S a c →
    let next = accepted_from (counted S.accepted c) from in (next ≡ accepted_from S.accepted from) ⊎ ((d : Delivers S a from) × (next ≡ d.transfer.number))
by-one S a from CountsNothing grounds = inl refl
by-one S a from (AcceptsFrom at) grounds = same (one-more S.accepted at from)
  where
    same : let next = accepted_from (counted S.accepted (AcceptsFrom at)) from in (next ≡ accepted_from S.accepted from) ⊎ ((at ≡ from) × (next ≡ accepted_from S.accepted from + 1)) → (next ≡ accepted_from S.accepted from) ⊎ ((d : Delivers S a from) × (next ≡ d.transfer.number))
    same (inl h) = inl h
    same (inr h) =
        let number = grounds.next ∙ ap (λ n. accepted_from S.accepted n + 1) h.0 in
        inr (record { transfer = grounds.transfer; asked = grounds.asked; source = grounds.source ∙ h.0; next = number }, h.1 ∙ sym number)
by-one S a from (AcknowledgesTo to) grounds = inl refl
by-one S a from CountsDispatch grounds = inl refl

pub accepts-step : (S : Content) (q : Request) (from : ℕ) → (accepted_from (after S q).accepted from ≡ accepted_from S.accepted from) ⊎ AcceptsNext S q from
accepts-step S q from = told (by-one S q.operation from _ (grounded S (moment_of S q.at) q.operation))
  where
    behind : accepted_from (after S q).accepted from ≡ accepted_from (counted S.accepted (outcome S (moment_of S q.at) q.operation).counting) from
    behind = ap (λ all. accepted_from all from) (accepted-after S q)

    told : let next = accepted_from (counted S.accepted (outcome S (moment_of S q.at) q.operation).counting) from in (next ≡ accepted_from S.accepted from) ⊎ ((d : Delivers S q.operation from) × (next ≡ d.transfer.number)) → (accepted_from (after S q).accepted from ≡ accepted_from S.accepted from) ⊎ AcceptsNext S q from
    told (inl h) = inl (behind ∙ h)
    told (inr h) = inr (record { transfer = h.0.transfer; asked = h.0.asked; source = h.0.source; next = h.0.next; accepted = behind ∙ h.1 })

pub accepts-one-by-one : AcceptsOneByOne
accepts-one-by-one setup R q from = accepts-step (replay setup R) q from

-- a count that moves on leaves what was issued
one-more-issued : (all : List Outgoing) (at to : ℕ) → (outgoing_to (one_more_acknowledged all at) to).issued ≡ (outgoing_to all to).issued
one-more-issued [] at to = refl
one-more-issued (o ∷ os) at to = go (at == 0) to (λ n. one-more-issued os (at - 1) n)
  where
    go : (b : Bool) (to : ℕ) → ((n : ℕ) → (outgoing_to (one_more_acknowledged os (at - 1)) n).issued ≡ (outgoing_to os n).issued)
        → (outgoing_to (cond b (record { issued = o.issued; acknowledged = o.acknowledged + 1 } ∷ os) (o ∷ one_more_acknowledged os (at - 1))) to).issued ≡ (outgoing_to (o ∷ os) to).issued
    go true zero rest = refl
    go true (suc n) rest = refl
    go false zero rest = refl
    go false (suc n) rest = rest n

outgoing-counted : (c : Counting) (T : Content) (to : ℕ) → (outgoing_to (with_count c T).outgoing to).issued ≡ (outgoing_to T.outgoing to).issued
outgoing-counted CountsNothing T to = refl
outgoing-counted (AcceptsFrom from) T to = refl
outgoing-counted (AcknowledgesTo at) T to = one-more-issued T.outgoing at to
outgoing-counted CountsDispatch T to = refl

sent-issued : (sent : List Sent) (base : ℕ) (all : List Outgoing) (to : ℕ) → (more : List TransferContent) × ((outgoing_to (with_all_sent sent base all) to).issued ≡ (outgoing_to all to).issued ++ more)
sent-issued sent base [] to = ([], refl)
sent-issued sent base (o ∷ os) zero = (contents sent base, refl)
sent-issued sent base (o ∷ os) (suc n) = sent-issued sent (base + 1) os n

pub issued-more : (S : Content) (q : Request) (to : ℕ) → (more : List TransferContent) × ((outgoing_to (after S q).outgoing to).issued ≡ (outgoing_to S.outgoing to).issued ++ more)
unfolding after
issued-more S q to =
    let o = outcome S (moment_of S q.at) q.operation in
    let sent = sent-issued (sent_for S (S.steps + 1) (moment_of S q.at) o.added ++ o.answers) 0 S.outgoing to in
    (sent.0, outgoing-counted o.counting _ to ∙ sent.1)

sent-acknowledged : (sent : List Sent) (base : ℕ) (all : List Outgoing) (to : ℕ) → (outgoing_to (with_all_sent sent base all) to).acknowledged ≡ (outgoing_to all to).acknowledged
sent-acknowledged sent base [] to = refl
sent-acknowledged sent base (o ∷ os) zero = refl
sent-acknowledged sent base (o ∷ os) (suc n) = sent-acknowledged sent (base + 1) os n

-- a count of acknowledged ones stays, or goes on by one
one-more-counted : (all : List Outgoing) (at to : ℕ) → ((outgoing_to (one_more_acknowledged all at) to).acknowledged ≡ (outgoing_to all to).acknowledged) ⊎ ((at ≡ to) × ((outgoing_to (one_more_acknowledged all at) to).acknowledged ≡ (outgoing_to all to).acknowledged + 1))
one-more-counted [] at to = inl refl
one-more-counted (o ∷ os) zero zero = inr (refl, refl)
one-more-counted (o ∷ os) zero (suc m) = inl refl
one-more-counted (o ∷ os) (suc n) to =
    let other : (suc n == 0) ≡ false = grind (arith, nat_tests) in
    let before : suc n - 1 ≡ n = omega arith in
    let later = ap (λ b. cond b (record { issued = o.issued; acknowledged = o.acknowledged + 1 } ∷ os) (o ∷ one_more_acknowledged os (suc n - 1))) other ∙ ap (λ k. o ∷ one_more_acknowledged os k) before in
    subst (λ (l : List Outgoing). ((outgoing_to l to).acknowledged ≡ (outgoing_to (o ∷ os) to).acknowledged) ⊎ ((suc n ≡ to) × ((outgoing_to l to).acknowledged ≡ (outgoing_to (o ∷ os) to).acknowledged + 1))) (sym later) (go to (λ m. one-more-counted os n m))
  where
    go : (to : ℕ) → ((m : ℕ) → ((outgoing_to (one_more_acknowledged os n) m).acknowledged ≡ (outgoing_to os m).acknowledged) ⊎ ((n ≡ m) × ((outgoing_to (one_more_acknowledged os n) m).acknowledged ≡ (outgoing_to os m).acknowledged + 1)))
        → ((outgoing_to (o ∷ one_more_acknowledged os n) to).acknowledged ≡ (outgoing_to (o ∷ os) to).acknowledged) ⊎ ((suc n ≡ to) × ((outgoing_to (o ∷ one_more_acknowledged os n) to).acknowledged ≡ (outgoing_to (o ∷ os) to).acknowledged + 1))
    go zero rest = inl refl
    go (suc m) rest = same (rest m)
      where
        same : {A B : Type 0} → A ⊎ ((n ≡ m) × B) → A ⊎ ((suc n ≡ suc m) × B)
        same (inl h) = inl h
        same (inr h) = inr (ap suc h.0, h.1)

-- the request acknowledges the transfer to that shard of this number
pub record CountsNext (a : Operation) (to n : ℕ) : Type 0 where
  pub counted : Acknowledge
  pub asked : a ≡ operation.Acknowledge counted
  pub destination : counted.to ≡ to
  pub next : n ≡ counted.number

counted-next : (S : Content) (a : Operation) (to : ℕ) (c : Counting) (T : Content) → HasGrounds S a c → ((n : ℕ) → (outgoing_to T.outgoing n).acknowledged ≡ (outgoing_to S.outgoing n).acknowledged)
    → ((outgoing_to (with_count c T).outgoing to).acknowledged ≡ (outgoing_to S.outgoing to).acknowledged) ⊎ CountsNext a to (outgoing_to (with_count c T).outgoing to).acknowledged
counted-next S a to CountsNothing T g same = inl (same to)
counted-next S a to (AcceptsFrom from) T g same = inl (same to)
counted-next S a to (AcknowledgesTo at) T g same = told (one-more-counted T.outgoing at to)
  where
    told : ((outgoing_to (one_more_acknowledged T.outgoing at) to).acknowledged ≡ (outgoing_to T.outgoing to).acknowledged) ⊎ ((at ≡ to) × ((outgoing_to (one_more_acknowledged T.outgoing at) to).acknowledged ≡ (outgoing_to T.outgoing to).acknowledged + 1))
        → ((outgoing_to (one_more_acknowledged T.outgoing at) to).acknowledged ≡ (outgoing_to S.outgoing to).acknowledged) ⊎ CountsNext a to (outgoing_to (one_more_acknowledged T.outgoing at) to).acknowledged
    told (inl h) = inl (h ∙ same to)
    told (inr h) = inr (record {
      counted = g.counted;
      asked = g.asked;
      destination = g.destination ∙ h.0;
      next = h.1 ∙ (ap (λ n. n + 1) (same to ∙ ap (λ n. (outgoing_to S.outgoing n).acknowledged) (sym h.0)) ∙ sym g.next);
    })
counted-next S a to CountsDispatch T g same = inl (same to)

-- a step acknowledges nothing more of what was sent to a shard, or the transfer after the last acknowledged one
pub counts-step : (S : Content) (q : Request) (to : ℕ) → ((outgoing_to (after S q).outgoing to).acknowledged ≡ (outgoing_to S.outgoing to).acknowledged) ⊎ CountsNext q.operation to (outgoing_to (after S q).outgoing to).acknowledged
unfolding after
counts-step S q to =
    let o = outcome S (moment_of S q.at) q.operation in
    counted-next S q.operation to o.counting _ (grounded S (moment_of S q.at) q.operation) (sent-acknowledged _ 0 S.outgoing)
