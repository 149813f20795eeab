-- MEANING: the content that a snapshot's pieces lay, one after another, and why a piece lays nothing
use Rattle.std.specs.Prelude.{ℕ, zero, suc, ◌+◌, ◌-◌, ◌==◌, ◌&&◌, ◌||◌, nat_le, nat_lt, not, max, Bool, true, false, if◌then◌else◌, List, [], ◌∷◌, ◌++◌, find, is_some, length, map, option_map, replicate, slice_index_or, Option, None, Some, Result, Ok, Err}
use Rattle.wf_event.specs.declared.event.Event.{Event}
use Rattle.wf_event.specs.declared.attributes.Attributes.{Attributes}
use Rattle.wf_event.specs.declared.attributes.Attributes.TheVariants.{WorkflowExecutionStarted}
use Rattle.wf_event_values.specs.declared.policies.TaskKind.TheVariants.{Workflow}
use Rattle.service_model_types.specs.declared.content.Content.{Content}
use Rattle.service_model_types.specs.declared.content.Dispatch.{Dispatch}
use Rattle.service_model_types.specs.declared.content.Outgoing.{Outgoing}
use Rattle.service_model_types.specs.declared.content.Setup.{Setup}
use Rattle.service_model_types.specs.declared.journal.Fact.{Fact}
use Rattle.service_model_types.specs.declared.transfer.Sent.{Sent}
use Rattle.service_model_types.specs.declared.transfer.TransferContent.{TransferContent}
use Rattle.service_model_types.specs.declared.transfer.TransferContent.TheVariants.{ChildStartFailed}
use Rattle.service_model.specs.Counts.{outgoing_to}
use Rattle.service_model.specs.Deadlines.{is_closing_event}
use Rattle.service_model.specs.Journal.{Journal}
use Rattle.service_model.specs.Outcome.{latest_run, made_by, noted}
use Rattle.service_model.specs.RunState.{RunState, id_of, is_open, no_run, state_of}
use Rattle.service_model.specs.Service.{entries, with_all_sent}
use Rattle.snapshot_facts.specs.Restoring.{may_come}
use Rattle.snapshot_pieces.specs.declared.piece.CountedPiece.{CountedPiece}
use Rattle.snapshot_pieces.specs.declared.piece.EndPiece.{EndPiece}
use Rattle.snapshot_pieces.specs.declared.piece.NotePiece.{NotePiece}
use Rattle.snapshot_pieces.specs.declared.piece.Piece.{Piece}
use Rattle.snapshot_pieces.specs.declared.piece.Piece.TheVariants as piece
use Rattle.snapshot_pieces.specs.declared.piece.TransferPiece.{TransferPiece}
use Rattle.shard_snapshot.specs.declared.damage.Damage.{Damage}
use Rattle.shard_snapshot.specs.declared.damage.Damage.TheVariants as damage

-- what is laid so far: a content, the run that is being laid, whose place is the next one, and the request id that made
-- the next event
pub record Laid : Type 0 where
  pub content : Content
  pub run : Option Journal
  pub request : Option (List ℕ)

-- go on where nothing is damaged
abbrev pub on_ok : {A B : Type 0} → Result A Damage → (A → Result B Damage) → Result B Damage
on_ok (Ok a) f = f a
on_ok (Err d) f = Err d

-- this, where so it is
abbrev pub where_so : {A : Type 0} → Bool → Damage → A → Result A Damage
where_so true d a = Ok a
where_so false d a = Err d

-- ---- what was counted: nothing is read of it but how much it was

-- a dispatch in the place of one that was counted
abbrev pub counted_dispatch : Setup → Dispatch
counted_dispatch setup = record { queue = []; hint = record { kind = Workflow; shard = setup.shard; run = 0; event = 0; attempt = 0 } }

-- a transfer in the place of one that was acknowledged
abbrev pub counted_transfer : TransferContent
counted_transfer = ChildStartFailed (record { parent_run = record { service = 0; shard = 0; ordinal = 0 }; initiated = 0 })

-- so many transfers to a shard, all acknowledged
abbrev pub acknowledged : ℕ → Outgoing
acknowledged n = record { issued = replicate n counted_transfer; acknowledged = n }

-- a content without runs of which so much was counted
abbrev pub counted : Setup → CountedPiece → Content
counted setup c = record {
  setup = setup;
  runs = [];
  outgoing = map acknowledged c.acknowledged;
  accepted = c.accepted;
  dispatches = replicate c.dispatched (counted_dispatch setup);
  dispatched = c.dispatched;
  last_moment = 0;
  steps = 0;
}

-- whether there is a count for each shard
abbrev pub has_counts : Setup → CountedPiece → Bool
has_counts setup c = (length c.accepted == setup.shards) && (length c.acknowledged == setup.shards)

-- what is laid before any run
unfoldable pub laid_first : Setup → CountedPiece → Result Laid Damage
laid_first setup c = where_so (has_counts setup c) damage.Count (record { content = counted setup c; run = None; request = None })

-- ---- a run that ends

-- the moment of the event that closed a run
abbrev pub closed_at : RunState → Option ℕ
closed_at s = option_map (λ (e : Event). e.at) (find is_closing_event s.shown)

-- whether there is a moment, and it is no later than another
abbrev pub is_by : ℕ → Option ℕ → Bool
is_by last None = false
is_by last (Some at) = nat_le at last

-- whether one is no later than another, where both are
abbrev pub in_order : Option ℕ → Option ℕ → Bool
in_order (Some a) (Some b) = nat_le a b
in_order _ _ = true

-- whether a run may come after an earlier one of its workflow ID: that has closed, and no later
abbrev pub may_follow : RunState → RunState → Bool
may_follow earlier s = not (is_open earlier) && in_order (closed_at earlier) (closed_at s)

-- the same of the latest of these runs, where one has this ordinal
abbrev pub follows : List RunState → Option ℕ → RunState → Bool
follows runs None s = true
follows runs (Some n) s = may_follow (slice_index_or runs (n - 1) no_run) s

-- whether a run may come after these, by this moment
abbrev pub may_end : ℕ → List RunState → RunState → Bool
may_end last runs s = (is_open s || is_by last (closed_at s)) && follows runs (latest_run runs (id_of s)) s

-- the content with the run that is being laid
abbrev pub with_run : Content → Option Journal → Result Content Damage
with_run S None = Ok S
with_run S (Some J) =
    where_so (may_end S.last_moment (map state_of S.runs) (state_of J)) damage.Run (record S { runs = S.runs ++ J ∷ [] })

-- the same, where no event is to come by a request id
unfoldable pub ended : Laid → Result Content Damage
ended l = if is_some l.request then Err damage.Order else with_run l.content l.run

-- a content between two runs
abbrev pub between : Content → Laid
between S = record { content = S; run = None; request = None }

-- ---- facts

-- one more step of the shard, of this moment
abbrev pub stepped : ℕ → Content → Content
stepped at S = record S { steps = S.steps + 1; last_moment = max at S.last_moment }

-- a fact of a run as a step of its own
abbrev pub added_to : Content → ℕ → Fact → Option Journal → Result Laid Damage
added_to S at f None = Err damage.Order
added_to S at f (Some J) = where_so (may_come (state_of J) f) damage.Fact
    (record { content = stepped at S; run = Some (J ++ entries (S.steps + 1) at 0 (f ∷ [])); request = None })

-- the number of a run's next event
abbrev pub next_event : Option Journal → ℕ
next_event None = 1
next_event (Some J) = let s = state_of J in length s.shown + length s.held + 1

-- the content with a run that begins
abbrev pub begun_in : Content → ℕ → Option (List ℕ) → Attributes → Laid
begun_in S at request a = record { content = stepped at S; run = Some (entries (S.steps + 1) at 0 (made_by request a ∷ [])); request = None }

-- whether no dispatch waits: all runs come before what waits
abbrev pub none_waits : Content → Bool
none_waits S = length S.dispatches == S.dispatched

-- a run that begins
abbrev pub beginning_with : Laid → ℕ → Attributes → Result Laid Damage
beginning_with l at (WorkflowExecutionStarted a) =
    on_ok (if none_waits l.content then with_run l.content l.run else Err damage.Order)
    (λ S. Ok (begun_in S at l.request (WorkflowExecutionStarted a)))
beginning_with l at _ = Err damage.Order

-- an event: the first of a run, or the next
unfoldable pub event_laid : Laid → Event → Result Laid Damage
event_laid l e =
    if e.id == 1 then beginning_with l e.at e.attributes
    else if e.id == next_event l.run then added_to l.content e.at (made_by l.request e.attributes) l.run
    else (Err damage.Order)

-- so many notes, each a step of its own
abbrev pub noted_times : ℕ → NotePiece → Laid → Result Laid Damage
noted_times zero n l = Ok l
noted_times (suc k) n l = on_ok (noted_times k n l) (λ m. added_to m.content n.at (noted n.activity n.note) m.run)

unfoldable pub note_laid : Laid → NotePiece → Result Laid Damage
note_laid l n = if is_some l.request || (n.times == 0) then Err damage.Order else noted_times n.times n l

-- the request id that made the next event
unfoldable pub request_laid : Laid → List ℕ → Result Laid Damage
request_laid l id = if is_some l.request then Err damage.Order else Ok (record l { request = Some id })

-- ---- places, and what waits

-- places of runs that were deleted
unfoldable pub gone_laid : Laid → ℕ → Result Laid Damage
gone_laid l n =
    if none_waits l.content then on_ok (ended l) (λ S. Ok (between (record S { runs = S.runs ++ replicate n [] })))
    else (Err damage.Order)

-- a dispatch that waits
unfoldable pub dispatch_laid : Laid → Dispatch → Result Laid Damage
dispatch_laid l d =
    on_ok (ended l) (λ S. where_so (d.hint.shard == S.setup.shard) damage.Issue (between (record S { dispatches = S.dispatches ++ d ∷ [] })))

abbrev pub is_next : Content → TransferPiece → Bool
is_next S t = (t.transfer.from == S.setup.shard) && (t.transfer.number == length (outgoing_to S.outgoing t.to).issued + 1)

abbrev pub sent : TransferPiece → Sent
sent t = record { to = t.to; content = t.transfer.content }

-- a transfer that waits
unfoldable pub transfer_laid : Laid → TransferPiece → Result Laid Damage
transfer_laid l t =
    on_ok (ended l) (λ S. where_so (nat_lt t.to S.setup.shards && is_next S t) damage.Issue
    (between (record S { outgoing = with_all_sent (sent t ∷ []) 0 S.outgoing })))

-- the end: the last moment
unfoldable pub end_laid : Laid → EndPiece → Result Content Damage
end_laid l e = on_ok (ended l) (λ S. where_so (nat_le S.last_moment e.last) damage.Run (record S { last_moment = e.last }))

-- what is laid with a piece between the first and the last
abbrev pub laid : Laid → Piece → Result Laid Damage
laid l (piece.Event e) = event_laid l e
laid l (piece.Request id) = request_laid l id
laid l (piece.Note n) = note_laid l n
laid l (piece.Gone n) = gone_laid l n
laid l (piece.Dispatch d) = dispatch_laid l d
laid l (piece.Transfer t) = transfer_laid l t
laid l _ = Err damage.Order
