-- PROOF: whether a fact may come next in a run, as a step of its own: a test of the run's state
use Rattle.std.specs.Prelude.{◌≡◌, ℕ, Bool, true, false, not, ◌&&◌, ◌==◌, Option, None, Some, List, [], ◌∷◌}
use Rattle.wf_event.specs.declared.attributes.Attributes.{Attributes}
use Rattle.wf_event.specs.declared.role.Opener.{Opener}
use Rattle.wf_event.specs.Role.{Role, TaskSchedules, TaskStarts, TaskEnds, Closes, TimerFires, TimerCancels, ComesFromOutside, Follows, role, settles}
use Rattle.service_model_types.specs.declared.journal.Fact.{Fact}
use Rattle.service_model_types.specs.declared.journal.Fact.TheVariants.{Event as an_event, Note as a_note}
use Rattle.service_model_types.specs.declared.journal.Note.{Note}
use Rattle.service_model_types.specs.declared.journal.Note.TheVariants.{Ended}
use Rattle.service_model.specs.Outcome.{is_no_task}
use Rattle.service_model.specs.Pending.{Task}
use Rattle.service_model.specs.RunState.{RunState, ActivityRow, Beginning, signal_request_by, is_open}
use Rattle.service_model.specs.Signals.{was_signaled}
use Rattle.service_model.specs.Tasks.{is_scheduled_task, is_started_task, pending_row}
use Rattle.mutable_state.specs.Readers.{UsedRow}
use Rattle.mutable_state.specs.Steps.{is_start, may_ask, may_settle, begun, FitStep}
use Rattle.snapshot_facts.specs.Facts.{Dated, with_dated, facts_of}

-- whether an event of this role may come, by where the workflow task stands
abbrev pub may_stand : Role → Task → Bool
may_stand TaskSchedules t = is_no_task t
may_stand TaskStarts t = is_scheduled_task t
may_stand TaskEnds t = is_started_task t
may_stand Closes t = true
may_stand ComesFromOutside t = true
may_stand Follows t = not (is_started_task t)
may_stand (TimerFires started) t = true
may_stand (TimerCancels started) t = not (is_started_task t)

-- whether what it settles, if anything, may be settled
abbrev pub settles_some : Role → Option Opener → RunState → Bool
settles_some r None s = true
settles_some r (Some k) s = may_settle r k s

-- whether this may be noted of an activity, where it is pending: an attempt ends where there is a number for the next one
abbrev pub note_may_come : Note → Option ActivityRow → Bool
note_may_come n None = false
note_may_come Ended (Some r) = not (r.attempt == 4294967295)
note_may_come _ (Some r) = true

-- whether an event may come next, made by this request id
abbrev pub event_may_come : RunState → Option (List ℕ) → Attributes → Bool
event_may_come s request a =
    is_open s && (may_stand (role a) s.task && (not (is_start a) && (settles_some (role a) (settles a) s
    && (may_ask a s && not (was_signaled s.signal_requests (signal_request_by request a))))))

-- whether a fact may come next
abbrev pub may_come : RunState → Fact → Bool
may_come s (an_event f) = event_may_come s f.request_id f.attributes
may_come s (a_note n) = is_open s && note_may_come n.note (pending_row s n.activity)

-- what passes the test may be a step
abbrev pub PassesMayCome : Type 0
PassesMayCome = (at : ℕ) (s : RunState) (f : Fact) → may_come s f ≡ true → FitStep at s (f ∷ [])

-- whether each of these may come after those before it
abbrev pub all_may_come : RunState → List Dated → Bool
all_may_come s [] = true
all_may_come s (p ∷ ps) = may_come s p.1 && all_may_come (with_dated s p) ps

-- whether these may, in a run that began so
abbrev pub may_be_restored_from : Option Beginning → List Dated → Bool
may_be_restored_from None ps = true
may_be_restored_from (Some b) ps = all_may_come (begun b.at b.request_id b.attributes) ps

-- whether a run's own facts may come one after another, each as a step of its own
abbrev pub may_be_restored : RunState → Bool
may_be_restored s = may_be_restored_from s.beginning (facts_of s)

-- a timer's cancel is the one event that may settle what an event that is buffered settles
abbrev pub is_timer_cancel : Role → Bool
is_timer_cancel (TimerCancels started) = true
is_timer_cancel _ = false

-- whether this event opened what is in use, by its row
abbrev pub is_used_row : ℕ → UsedRow → Bool
is_used_row id r = r.event == id

-- whether it did, and no event that settles that is buffered
abbrev pub is_pending_row : ℕ → UsedRow → Bool
is_pending_row id r = (r.event == id) && not r.is_settled
