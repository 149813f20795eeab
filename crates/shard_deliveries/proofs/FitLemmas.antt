-- events that transfers bring may come
use Rattle.std.proofs.Common.{◌≡◌, ℕ, Bool, true, false, cond, ◌==◌, ◌||◌, List, [], ◌∷◌, refl, sym, ap, ◌∙◌, subst, Some, None}
use Rattle.std.specs.Prelude.{◌&&◌, find, option_and_then, unwrap_or}
use Rattle.wf_event.specs.declared.attributes.Attributes.{Attributes}
use Rattle.wf_event.specs.declared.attributes.Attributes.TheVariants.{ChildWorkflowExecutionStarted, StartChildWorkflowExecutionFailed, WorkflowExecutionCancelRequested, WorkflowExecutionSignaled}
use Rattle.wf_event.specs.declared.event.Event.{Event}
use Rattle.wf_event_values.specs.Run.{Run}
use Rattle.wf_event_values.specs.declared.policies.CancelSource.{CancelSource}
use Rattle.wf_event_values.specs.declared.policies.Cause.{Cause}
use Rattle.service_model_types.specs.declared.transfer.ChildClosed.{ChildClosed}
use Rattle.service_model_types.specs.declared.transfer.ChildStatus.{ChildStatus}
use Rattle.service_model_types.specs.declared.transfer.ChildStatus.TheVariants.{Completed, Failed, Canceled, TimedOut, Terminated}
use Rattle.service_model_types.specs.declared.transfer.ExternalDoneTransfer.{ExternalDoneTransfer}
use Rattle.service_model_types.specs.declared.transfer.ExternalKind.{ExternalKind}
use Rattle.service_model_types.specs.declared.transfer.ExternalKind.TheVariants.{Signal as OfSignal, Cancel as OfCancel}
use Rattle.wf_event.specs.declared.role.Class.{Class}
use Rattle.wf_event.specs.declared.role.Class.TheVariants.{Child}
use Rattle.wf_event.specs.Role.{Role, is_closing_role, role, opens, settles, closing_status}
use Rattle.service_model_types.specs.declared.journal.Fact.{Fact}
use Rattle.service_model.specs.Deliveries.{asked_id, child_closed_event, external_class, external_event, pending_asked}
use Rattle.service_model.specs.Journal.{plain}
use Rattle.service_model.specs.Outcome.{is_no_task, outside, schedule_task}
use Rattle.service_model.specs.Pending.{Task, NoTask, IsScheduled, IsStarted, task_of}
use Rattle.service_model.specs.RunState.{RunState, is_open, is_open_status, is_there, pending}
use Rattle.service_model.specs.Signals.{was_signaled}
use Rattle.mutable_state.specs.Steps.{FitStep, FitsEvent, FitsRole, IsFirst, MaySettle, has_id, task_after, with_event}
use Rattle.shard_deliveries.specs.Accepting.{IsFromOutside}

fits-event : (s : RunState) (a : Attributes) (more : List Fact) → IsFromOutside s a → FitsEvent IsFirst s None a more
fits-event s a more h =
    let R : Role → Type 0 = λ r. FitsRole IsFirst r s more in
    let M : Role → Type 0 = λ r. MaySettle r (settles a) s in
    record {
      open_run = h.opened;
      fits_role = subst R (sym h.outside) tt;
      begins_none = h.begins_none;
      may_settle = subst M (sym h.outside) h.settled;
      may_ask = h.asked;
      first_signal = ap (was_signaled s.signal_requests) h.unsigned;
    }

-- an event from outside, and a workflow task after it where there is none
pub outside-fits : (at : ℕ) (s : RunState) (a : Attributes) → IsFromOutside s a → FitStep at s (outside s (plain a ∷ []))
unfolding role opens settles closing_status
outside-fits at s a h = by_task s.task refl
  where
    opened : is_open (with_event at None a s) ≡ true
    opened = ap (λ o. is_there s && is_open_status (unwrap_or o s.status)) h.stays ∙ h.opened

    task-stays : task_after a s.task ≡ s.task
    task-stays = ap (λ r. cond (is_closing_role r) NoTask (unwrap_or (task_of r) s.task)) h.outside

    by_task : (t : Task) → s.task ≡ t → FitStep at s (plain a ∷ cond (is_no_task t) (plain (schedule_task s 1) ∷ []) [])
    by_task NoTask is = (fits-event s a (plain (schedule_task s 1) ∷ []) h, (record { open_run = opened; fits_role = (task-stays ∙ is, refl); begins_none = refl; may_settle = tt; may_ask = refl; first_signal = refl }, tt))
    by_task IsScheduled is = (fits-event s a [] h, tt)
    by_task IsStarted is = (fits-event s a [] h, tt)

-- a request whose workflow ID is found is pending
pub asked-waits : (s : RunState) (c : Class) (id : ℕ) (name : List ℕ) → pending_asked s c id ≡ Some name → has_id id (pending c s) ≡ true
asked-waits s c id name is = among (pending c s) is
  where
    test : (b : Bool) (e : Event) (es : List Event) → (e.id == id) ≡ b → option_and_then (λ (x : Event). asked_id x.attributes) (cond b (Some e) (find (λ (x : Event). x.id == id) es)) ≡ Some name → (option_and_then (λ (x : Event). asked_id x.attributes) (find (λ (x : Event). x.id == id) es) ≡ Some name → has_id id es ≡ true) → (b || has_id id es) ≡ true
    test true e es h g again = refl
    test false e es h g again = again g

    among : (es : List Event) → option_and_then (λ (e : Event). asked_id e.attributes) (find (λ (e : Event). e.id == id) es) ≡ Some name → has_id id es ≡ true
    among [] g = absurd (cc)
    among (e ∷ es) g = test (e.id == id) e es refl g (among es)

-- the events that transfers bring come from outside
pub child-started-comes : (s : RunState) (id : ℕ) (name : List ℕ) (run : Run) → is_open s ≡ true → IsFromOutside s (ChildWorkflowExecutionStarted (record { initiated = id; workflow_id = name; run = run }))
unfolding role opens settles closing_status
child-started-comes s id name run opened = record { opened = opened; outside = refl; begins_none = refl; stays = refl; settled = tt; asked = refl; unsigned = refl }

pub child-failed-comes : (s : RunState) (id : ℕ) (name : List ℕ) (cause : Cause) → is_open s ≡ true → has_id id (pending Child s) ≡ true → IsFromOutside s (StartChildWorkflowExecutionFailed (record { initiated = id; workflow_id = name; cause = cause }))
unfolding role opens settles closing_status
child-failed-comes s id name cause opened waits = record { opened = opened; outside = refl; begins_none = refl; stays = refl; settled = waits; asked = refl; unsigned = refl }

pub child-closed-comes : (s : RunState) (c : ChildClosed) (status : ChildStatus) → is_open s ≡ true → has_id c.initiated (pending Child s) ≡ true → IsFromOutside s (child_closed_event c status)
unfolding role opens settles closing_status
child-closed-comes s c Completed opened waits = record { opened = opened; outside = refl; begins_none = refl; stays = refl; settled = waits; asked = refl; unsigned = refl }
child-closed-comes s c Failed opened waits = record { opened = opened; outside = refl; begins_none = refl; stays = refl; settled = waits; asked = refl; unsigned = refl }
child-closed-comes s c Canceled opened waits = record { opened = opened; outside = refl; begins_none = refl; stays = refl; settled = waits; asked = refl; unsigned = refl }
child-closed-comes s c TimedOut opened waits = record { opened = opened; outside = refl; begins_none = refl; stays = refl; settled = waits; asked = refl; unsigned = refl }
child-closed-comes s c Terminated opened waits = record { opened = opened; outside = refl; begins_none = refl; stays = refl; settled = waits; asked = refl; unsigned = refl }

pub external-comes : (s : RunState) (c : ExternalDoneTransfer) (kind : ExternalKind) (done : Bool) (name : List ℕ) → is_open s ≡ true → has_id c.initiated (pending (external_class kind) s) ≡ true → IsFromOutside s (external_event c kind done name)
unfolding role opens settles closing_status
external-comes s c OfSignal true name opened waits = record { opened = opened; outside = refl; begins_none = refl; stays = refl; settled = waits; asked = refl; unsigned = refl }
external-comes s c OfSignal false name opened waits = record { opened = opened; outside = refl; begins_none = refl; stays = refl; settled = waits; asked = refl; unsigned = refl }
external-comes s c OfCancel true name opened waits = record { opened = opened; outside = refl; begins_none = refl; stays = refl; settled = waits; asked = refl; unsigned = refl }
external-comes s c OfCancel false name opened waits = record { opened = opened; outside = refl; begins_none = refl; stays = refl; settled = waits; asked = refl; unsigned = refl }

pub cancel-comes : (s : RunState) (source : CancelSource) → is_open s ≡ true → IsFromOutside s (WorkflowExecutionCancelRequested source)
unfolding role opens settles closing_status
cancel-comes s source opened = record { opened = opened; outside = refl; begins_none = refl; stays = refl; settled = tt; asked = refl; unsigned = refl }

pub signal-comes : (s : RunState) (name input : List ℕ) → is_open s ≡ true → IsFromOutside s (WorkflowExecutionSignaled (record { name = name; input = input }))
unfolding role opens settles closing_status
signal-comes s name input opened = record { opened = opened; outside = refl; begins_none = refl; stays = refl; settled = tt; asked = refl; unsigned = refl }
