-- what a start decides by the workflow ID's latest run, and the facts of starts, signals, requests to cancel and terminations
use Rattle.std.proofs.Common.{◌≡◌, ◌≢◌, ℕ, Bool, true, false, [], ◌∷◌, refl, sym, ap, ◌∙◌, cond, Option, Some, None, List}
use Rattle.wf_event_values.specs.declared.policies.CancelSource.TheVariants.{Client}
use Rattle.wf_event_values.specs.declared.policies.ConflictPolicy.{ConflictPolicy}
use Rattle.wf_event_values.specs.declared.policies.ConflictPolicy.TheVariants.{Fail, UseExisting, TerminateExisting}
use Rattle.wf_event_values.specs.declared.policies.Status.{Status}
use Rattle.wf_event_values.specs.declared.policies.Status.TheVariants.{Running, Completed, Failed, Canceled, Terminated, ContinuedAsNew, TimedOut}
use Rattle.wf_event_values.specs.declared.policies.ReusePolicy.{ReusePolicy}
use Rattle.wf_event_values.specs.declared.policies.ReusePolicy.TheVariants.{AllowDuplicate, AllowDuplicateFailedOnly, RejectDuplicate}
use Rattle.wf_event.specs.declared.attributes.Attributes.TheVariants.{WorkflowExecutionSignaled, WorkflowExecutionCancelRequested, WorkflowExecutionTerminated}
use Rattle.wf_event.specs.declared.payloads.WorkflowExecutionStarted.{WorkflowExecutionStarted as StartedAttributes}
use Rattle.wf_event.specs.Role.{role, opens, settles, closing_status}
use Rattle.service_model_types.specs.declared.journal.Fact.{Fact}
use Rattle.service_model_types.specs.declared.request.SignalWithStart.{SignalWithStart}
use Rattle.service_model_types.specs.declared.request.Start.{Start}
use Rattle.service_model.specs.IdPolicy.{decide, New, Same, Refused, TerminateThenNew, is_failed, on_open, on_closed, on_status, is_same_request}
use Rattle.service_model.specs.Journal.{plain}
use Rattle.service_model.specs.Outcome.{Runs, made_by, outside, is_no_task, schedule_task, run_at}
use Rattle.service_model.specs.Pending.{Task, NoTask, IsScheduled, IsStarted}
use Rattle.service_model.proofs.ThereLemmas.{there-open, closed-status}
use Rattle.service_model.specs.RunState.{RunState, is_open, is_open_status, is_there}
use Rattle.service_model.specs.Signals.{was_signaled, signal_fact}
use Rattle.service_model.specs.Starts.{decision, start_request, first_task}
use Rattle.mutable_state.specs.Steps.{IsFirst, FitsEvent, FitStep}
use Rattle.shard_steps.specs.Starts.{signaled_beginning, MayBegin}

on_closed-ends : (r : ReusePolicy) (s : Status) → on_closed r s ≢ TerminateThenNew
on_closed-ends AllowDuplicate s e = absurd (cc)
on_closed-ends AllowDuplicateFailedOnly s e = by_test (is_failed s) e
  where
    by_test : (b : Bool) → cond b New Refused ≢ TerminateThenNew
    by_test true e = absurd (cc)
    by_test false e = absurd (cc)
on_closed-ends RejectDuplicate s e = absurd (cc)

-- under the policy Fail no run is terminated
pub decides-fail : (R : Runs) (q : Start) (n : ℕ) → q.conflict ≡ Fail → decision R q (Some n) ≢ TerminateThenNew
unfolding decide
decides-fail R q n fail e =
    by_test (is_same_request q.request_id (start_request (run_at R n))) (run_at R n).status (ap (λ c. cond (is_same_request q.request_id (start_request (run_at R n))) Same (on_status q.reuse c (run_at R n).status)) (sym fail) ∙ e)
  where
    by_test : (b : Bool) (s : Status) → cond b Same (on_status q.reuse Fail s) ≢ TerminateThenNew
    by_test true s e = absurd (cc)
    by_test false Running e = absurd (cc)
    by_test false Completed e = on_closed-ends q.reuse Completed e
    by_test false Failed e = on_closed-ends q.reuse Failed e
    by_test false Canceled e = on_closed-ends q.reuse Canceled e
    by_test false Terminated e = on_closed-ends q.reuse Terminated e
    by_test false ContinuedAsNew e = on_closed-ends q.reuse ContinuedAsNew e
    by_test false TimedOut e = on_closed-ends q.reuse TimedOut e

-- only an open run is terminated
pub decides-open : (R : Runs) (q : Start) (n : ℕ) → is_there (run_at R n) ≡ true → decision R q (Some n) ≡ TerminateThenNew → is_open (run_at R n) ≡ true
unfolding decide
decides-open R q n there e = there-open (run_at R n) there ∙ by_test (is_same_request q.request_id (start_request (run_at R n))) (run_at R n).status e
  where
    by_test : (b : Bool) (s : Status) → cond b Same (on_status q.reuse q.conflict s) ≡ TerminateThenNew → is_open_status s ≡ true
    by_test true s e = absurd (cc)
    by_test false Running e = refl
    by_test false Completed e = absurd (on_closed-ends q.reuse Completed e)
    by_test false Failed e = absurd (on_closed-ends q.reuse Failed e)
    by_test false Canceled e = absurd (on_closed-ends q.reuse Canceled e)
    by_test false Terminated e = absurd (on_closed-ends q.reuse Terminated e)
    by_test false ContinuedAsNew e = absurd (on_closed-ends q.reuse ContinuedAsNew e)
    by_test false TimedOut e = absurd (on_closed-ends q.reuse TimedOut e)

opens-anew : (c : ConflictPolicy) → on_open c ≢ New
opens-anew Fail e = absurd (cc)
opens-anew UseExisting e = absurd (cc)
opens-anew TerminateExisting e = absurd (cc)

-- a new run follows only one that has closed
pub decides-new : (R : Runs) (q : Start) (n : ℕ) → decision R q (Some n) ≡ New → is_open (run_at R n) ≡ false
unfolding decide
decides-new R q n e = closed-status (run_at R n) (by_test (is_same_request q.request_id (start_request (run_at R n))) (run_at R n).status e)
  where
    by_test : (b : Bool) (s : Status) → cond b Same (on_status q.reuse q.conflict s) ≡ New → is_open_status s ≡ false
    by_test true s e = absurd (cc)
    by_test false Running e = absurd (opens-anew q.conflict e)
    by_test false Completed e = refl
    by_test false Failed e = refl
    by_test false Canceled e = refl
    by_test false Terminated e = refl
    by_test false ContinuedAsNew e = refl
    by_test false TimedOut e = refl

-- the first workflow task of a run may come
pub first-fits : (at : ℕ) (request : Option (List ℕ)) (a : StartedAttributes) (queue : List ℕ) → MayBegin at (record { started = a; request_id = request; facts = first_task queue ∷ [] })
unfolding role opens settles
first-fits at request a queue = record {
  fits = λ p. (record { open_run = refl; fits_role = (refl, refl); begins_none = refl; may_settle = tt; may_ask = refl; first_signal = refl }, tt);
  queues_none = refl;
}

no-signal : (request : Option (List ℕ)) → was_signaled [] request ≡ false
no-signal None = refl
no-signal (Some r) = refl

-- a signal, and then the first workflow task
pub signaled-fits : (at : ℕ) (q : SignalWithStart) → MayBegin at (signaled_beginning at q)
unfolding role opens settles closing_status
signaled-fits at q = record {
  fits = λ p. (record { open_run = refl; fits_role = tt; begins_none = refl; may_settle = tt; may_ask = refl; first_signal = no-signal q.request_id }, (record { open_run = refl; fits_role = (refl, refl); begins_none = refl; may_settle = tt; may_ask = refl; first_signal = refl }, tt));
  queues_none = refl;
}

-- the facts of a signal that no other one bore may come
pub signal-fits : (at : ℕ) (s : RunState) (request : Option (List ℕ)) (name input : List ℕ) → is_open s ≡ true → was_signaled s.signal_requests request ≡ false → FitStep at s (outside s (signal_fact request name input ∷ []))
unfolding role opens settles closing_status
signal-fits at s request name input opened first = by_task s.task refl
  where
    now : (more : List Fact) → FitsEvent IsFirst s request (WorkflowExecutionSignaled (record { name = name; input = input })) more
    now more = record { open_run = opened; fits_role = tt; begins_none = refl; may_settle = tt; may_ask = refl; first_signal = first }

    by_task : (t : Task) → s.task ≡ t → FitStep at s (signal_fact request name input ∷ cond (is_no_task t) (plain (schedule_task s 1) ∷ []) [])
    by_task NoTask is = (now (plain (schedule_task s 1) ∷ []), (record { open_run = opened; fits_role = (is, refl); begins_none = refl; may_settle = tt; may_ask = refl; first_signal = refl }, tt))
    by_task IsScheduled is = (now [], tt)
    by_task IsStarted is = (now [], tt)

-- the facts of a request to cancel
pub cancel-fits : (at : ℕ) (s : RunState) (request : Option (List ℕ)) → is_open s ≡ true → FitStep at s (outside s (made_by request (WorkflowExecutionCancelRequested Client) ∷ []))
unfolding role opens settles closing_status
cancel-fits at s request opened = by_task s.task refl
  where
    now : (more : List Fact) → FitsEvent IsFirst s request (WorkflowExecutionCancelRequested Client) more
    now more = record { open_run = opened; fits_role = tt; begins_none = refl; may_settle = tt; may_ask = refl; first_signal = refl }

    by_task : (t : Task) → s.task ≡ t → FitStep at s (made_by request (WorkflowExecutionCancelRequested Client) ∷ cond (is_no_task t) (plain (schedule_task s 1) ∷ []) [])
    by_task NoTask is = (now (plain (schedule_task s 1) ∷ []), (record { open_run = opened; fits_role = (is, refl); begins_none = refl; may_settle = tt; may_ask = refl; first_signal = refl }, tt))
    by_task IsScheduled is = (now [], tt)
    by_task IsStarted is = (now [], tt)

-- and of a termination, after which the run has closed
pub terminate-fits : (at : ℕ) (s : RunState) (reason : List ℕ) → is_open s ≡ true → FitStep at s (plain (WorkflowExecutionTerminated reason) ∷ [])
unfolding role opens settles closing_status
terminate-fits at s reason opened = (record { open_run = opened; fits_role = (tt, refl); begins_none = refl; may_settle = tt; may_ask = refl; first_signal = refl }, tt)
