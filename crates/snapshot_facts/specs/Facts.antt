-- PROOF: a run's facts as a snapshot has them: each a step of its own, read off what is known of the run
use Rattle.std.specs.Prelude.{ℕ, ◌-◌, ◌==◌, if◌then◌else◌, List, [], ◌∷◌, ◌++◌, drop, flat_map, length, map, option_and_then, replicate, slice_get, take, unwrap_or, Option, None, Some}
use Rattle.wf_event.specs.declared.event.Event.{Event}
use Rattle.wf_event.specs.declared.attributes.Attributes.{Attributes}
use Rattle.wf_event.specs.declared.attributes.Attributes.TheVariants.{WorkflowExecutionSignaled, WorkflowExecutionCancelRequested}
use Rattle.service_model_types.specs.declared.journal.CancelRequest.{CancelRequest}
use Rattle.service_model_types.specs.declared.journal.Fact.{Fact}
use Rattle.service_model_types.specs.declared.journal.NewEvent.{NewEvent}
use Rattle.service_model_types.specs.declared.journal.Note.TheVariants.{Taken, Ended, Ready, Beat}
use Rattle.service_model.specs.Outcome.{made_by, noted}
use Rattle.service_model.specs.Pending.{Phase, IsQueued, IsRunning, IsWaiting}
use Rattle.service_model.specs.RunState.{RunState, ActivityRow, Beginning, no_run}
use Rattle.mutable_state.specs.Steps.{after_step, begun}

-- a fact, and the moment of its step
abbrev pub Dated : Type 0
Dated = ℕ × Fact

-- the request id that an event gets: a signal has the first that is left, a request to cancel its own
abbrev pub id_for : Option CancelRequest → List (List ℕ) → Attributes → Option (List ℕ)
id_for cancel ids (WorkflowExecutionSignaled a) = slice_get ids 0
id_for cancel ids (WorkflowExecutionCancelRequested by_whom) = option_and_then (λ (c : CancelRequest). c.request_id) cancel
id_for cancel ids _ = None

-- the signals' request ids that are left after it
abbrev pub ids_after : List (List ℕ) → Attributes → List (List ℕ)
ids_after ids (WorkflowExecutionSignaled a) = drop 1 ids
ids_after ids _ = ids

-- events as facts, with their request ids
abbrev pub event_facts : Option CancelRequest → List (List ℕ) → List NewEvent → List Dated
event_facts cancel ids [] = []
event_facts cancel ids (e ∷ es) =
    (e.at, made_by (id_for cancel ids e.attributes) e.attributes) ∷ event_facts cancel (ids_after ids e.attributes) es

-- an event as a fact is made of
abbrev pub without_id : Event → NewEvent
without_id e = record { at = e.at; attributes = e.attributes }

-- a note for each attempt of an activity that ended
abbrev pub ends : ActivityRow → List Dated
ends r = replicate (r.attempt - 1) (unwrap_or r.ended 0, noted r.opened.id Ended)

-- a note that an attempt was queued, where one was queued again
abbrev pub queued : ActivityRow → Option ℕ → List Dated
queued r None = []
queued r (Some at) = (at, noted r.opened.id Ready) ∷ []

-- notes that an attempt was taken at this moment, and of the last heartbeat, so that the last sign of life is the one that is known
abbrev pub with_beat : ActivityRow → ℕ → Option (List ℕ) → List Dated
with_beat r at None = (at, noted r.opened.id Taken) ∷ []
with_beat r at (Some details) =
    if unwrap_or r.sign_of_life at == at then (at, noted r.opened.id (Beat details)) ∷ (at, noted r.opened.id Taken) ∷ []
    else ((at, noted r.opened.id Taken) ∷ (unwrap_or r.sign_of_life at, noted r.opened.id (Beat details)) ∷ [])

-- such notes, where an attempt was taken
abbrev pub life : ActivityRow → Option ℕ → List Dated
life r None = []
life r (Some at) = with_beat r at r.details

-- the notes on an activity in use, the last of which gives its phase
abbrev pub notes_by : ActivityRow → Phase → List Dated
notes_by r IsQueued = life r r.taken ++ ends r ++ queued r r.ready
notes_by r IsRunning = ends r ++ queued r r.ready ++ life r r.taken
notes_by r IsWaiting = queued r r.ready ++ life r r.taken ++ ends r

-- the notes on an activity in use
abbrev pub note_facts : ActivityRow → List Dated
note_facts r = notes_by r r.phase

-- all facts of a run after its first: its history, what is noted of activities in use, and what is buffered
abbrev pub facts_of : RunState → List Dated
facts_of s =
    let events = event_facts s.cancel_request s.signal_requests (map without_id (drop 1 s.shown) ++ s.held) in
    let shown = length s.shown - 1 in
    take shown events ++ flat_map note_facts s.activities ++ drop shown events

-- a run after a fact that is a step of its own
abbrev pub with_dated : RunState → Dated → RunState
with_dated s p = after_step p.0 (p.1 ∷ []) s

-- a run after facts, each a step of its own
abbrev pub with_all_dated : RunState → List Dated → RunState
with_all_dated s [] = s
with_all_dated s (p ∷ ps) = with_all_dated (with_dated s p) ps

-- the run that began so, after these facts
abbrev pub restored_from : Option Beginning → List Dated → RunState
restored_from None ps = no_run
restored_from (Some b) ps = with_all_dated (begun b.at b.request_id b.attributes) ps

-- the run that is restored by a run's facts
abbrev pub restored : RunState → RunState
restored s = restored_from s.beginning (facts_of s)
