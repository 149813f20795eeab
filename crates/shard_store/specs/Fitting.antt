-- PROOF: a plan that was made for a step on a shard as it is
use Rattle.std.specs.Prelude.{◌≡◌, ℕ, ◌+◌, ◌-◌, ◌<◌, ◌^◌, ◌==◌, if◌then◌else◌, true, false, IfSome, ◌∷◌, ◌++◌, [], List, Option, None, Some, length, slice_index_or, slice_set}
use Rattle.std.specs.Prelude.{string_bytes}
use Rattle.service_model_types.specs.declared.content.Dispatch.{Dispatch}
use Rattle.service_model_types.specs.declared.journal.Fact.{Fact}
use Rattle.service_model_types.specs.declared.transfer.Sent.{Sent}
use Rattle.service_model_types.specs.declared.transfer.TransferContent.{TransferContent}
use Rattle.service_model.specs.Aging.{AreAged, IsOldestRun}
use Rattle.service_model.specs.Deliveries.{accepted_from}
use Rattle.service_model.specs.RunState.{RunState, no_run, id_of, is_open, is_there}
use Rattle.service_model.specs.Issued.{dispatches_of, transfers_of}
use Rattle.service_model.specs.Outcome.{Outcome, Added, Counting, CountsNothing, AcceptsFrom, AcknowledgesTo, CountsDispatch, latest_run}
use Rattle.mutable_state.specs.RunView.{HasRoomFor, RunView}
use Rattle.mutable_state.specs.Steps.{after_step, FitStep}
use Rattle.transfer.specs.Outboxes.{counted_to, waiting_to, with_all_sent}
use Rattle.transfer.specs.Logs.{Waiting, one_counted, with_issued}
use Rattle.shard_issued.specs.Issuing.{issued_first}
use Rattle.shard_issued.specs.Outstanding.{IsCaughtUp}
use Rattle.shard_steps.specs.Starts.{MayBegin, first_facts, new_run}
use Rattle.shard_steps.specs.declared.starts.Beginning.{Beginning}
use Rattle.shard_store.specs.Places.{empty_place}
use Rattle.shard_store.specs.ShardView.{ShardView, ShardState, ordinal_of, states}
use Rattle.shard_store.specs.Open.{HasClosed, IsOneOpen}
use Rattle.shard_store.specs.declared.plan.Change.{Change}
use Rattle.shard_store.specs.declared.plan.Change.TheVariants as change
use Rattle.shard_store.specs.declared.plan.Count.{Count}
use Rattle.shard_store.specs.declared.plan.Count.TheVariants as count
use Rattle.shard_store.specs.declared.plan.NewRun.{NewRun}
use Rattle.shard_store.specs.declared.plan.MoreOf.{MoreOf}
use Rattle.shard_store.specs.declared.plan.Parts.{Parts}
use Rattle.shard_store.specs.declared.plan.Plan.{Plan}

-- the run at a place in the list
abbrev pub state_at : List RunState → ℕ → RunState
state_at runs n = slice_index_or runs n no_run

-- the run at a place, with its room
abbrev pub view_at : List RunView → ℕ → RunView
view_at runs n = slice_index_or runs n empty_place

-- the latest run of a workflow ID, if it has one, has closed
abbrev pub IsFree : List RunState → List ℕ → Type 0
IsFree runs id = IfSome (latest_run runs id) (λ n. is_open (state_at runs (n - 1)) ≡ false)

-- there is room for a new run, the last one that was made was looked up, and the new one is kept under its workflow ID
pub record HasPlace {T : Type 0} (v : ShardView) (n : NewRun T) : Type 0 where
  pub room : 0 < v.room
  pub caught_up : v.changed.made ≡ None
  pub few : length v.runs + 1 < 2 ^ 60
  pub there : is_there n.run.state ≡ true
  pub named : id_of n.run.state ≡ string_bytes n.key

-- the run in the plan is one that may begin so, and there is room for it
pub record IsMade {T : Type 0} (v : ShardView) (at : ℕ) (n : NewRun T) (b : Beginning) : Type 0 where
  pub place : HasPlace v n
  pub made : n.run.state ≡ new_run at b
  pub begins : MayBegin at b

-- the run at that place has room for the facts in the plan, they may come, and all was looked up
pub record HasRoom (v : ShardView) (m : MoreOf) : Type 0 where
  pub there : m.index < length v.runs
  pub caught_up : IsCaughtUp v.changed
  pub room : HasRoomFor (view_at v.runs m.index) m.plan.change.facts
  pub fits : FitStep m.plan.change.moment (state_at (states v.runs) m.index) m.plan.change.facts

-- the plan adds these facts to the run at that place, which has room for them, and all was looked up
pub record IsPrepared (v : ShardView) (at index : ℕ) (facts : List Fact) (m : MoreOf) : Type 0 where
  pub place : m.index ≡ index
  pub there : m.index < length v.runs
  pub caught_up : IsCaughtUp v.changed
  pub room : HasRoomFor (view_at v.runs m.index) m.plan.change.facts
  pub change : m.plan.change ≡ record { moment = at; facts = facts }

-- the plan for the run at that place adds these facts
pub record FitsMore (v : ShardView) (at : ℕ) (m : MoreOf) (facts : List Fact) : Type 0 where
  pub has_room : HasRoom v m
  pub change : m.plan.change ≡ record { moment = at; facts = facts }

-- there is a dispatch to be counted, and all was looked up
pub record CountsFirst (v : ShardView) : Type 0 where
  pub caught_up : IsCaughtUp v.changed
  pub some : 0 < length v.waiting.items
  pub few : v.waiting.counted + 1 < 2 ^ 64

-- there is a shard of this number, and one more can be accepted from it
pub record CountsAccepted (v : ShardView) (from : ℕ) : Type 0 where
  pub there : from < v.setup.shards
  pub few : accepted_from v.accepted from + 1 < 2 ^ 64

-- there is a shard of this number, a transfer to it waits, and all was looked up
pub record CountsAcknowledged (v : ShardView) (to : ℕ) : Type 0 where
  pub caught_up : IsCaughtUp v.changed
  pub there : to < v.setup.shards
  pub some : 0 < length (waiting_to v.outgoing to).items

-- the run at that place may be deleted: it is there and has closed, all was looked up, and the older runs of its workflow ID went before
pub record MayTake (v : ShardView) (index : ℕ) : Type 0 where
  pub begun : is_there (state_at (states v.runs) index) ≡ true
  pub over : is_open (state_at (states v.runs) index) ≡ false
  pub caught_up : IsCaughtUp v.changed
  pub oldest : IsOneOpen (states v.runs) → AreAged v.last (states v.runs) → IsOldestRun (states v.runs) index

-- the plan for an older run is what is added
abbrev pub FitsAdded : ShardView → ℕ → Option MoreOf → Option Added → Type 0
FitsAdded v at None o = o ≡ None
FitsAdded v at (Some m) o = (facts : List Fact) × (o ≡ Some (record { run = ordinal_of m.index; facts = facts })) × FitsMore v at m facts

-- the run in the plan is the one that is created
abbrev pub FitsCreated : {T : Type 0} → ShardView → ℕ → Option (NewRun T) → Option (List Fact) → Type 0
FitsCreated v at None o = o ≡ None
FitsCreated v at (Some n) o = (b : Beginning) × (o ≡ Some (first_facts b)) × IsMade v at n b

-- a change that deletes a run
abbrev pub taking : {T : Type 0} → ℕ → Change T
taking index = change.Takes index

-- no part
abbrev pub no_parts : {T : Type 0} → Parts T
no_parts = record { added = None; created = None; count = count.Nothing; answer = None }

-- what a change has of each part: one that deletes a run has none of the others
abbrev pub added_of : {T : Type 0} → Change T → Option MoreOf
added_of (change.Takes index) = None
added_of (change.Makes parts) = parts.added

abbrev pub created_of : {T : Type 0} → Change T → Option (NewRun T)
created_of (change.Takes index) = None
created_of (change.Makes parts) = parts.created

abbrev pub taken_of : {T : Type 0} → Change T → Option ℕ
taken_of (change.Takes index) = Some index
taken_of (change.Makes parts) = None

abbrev pub count_of : {T : Type 0} → Change T → Count
count_of (change.Takes index) = count.Nothing
count_of (change.Makes parts) = parts.count

abbrev pub answer_of : {T : Type 0} → Change T → Option Sent
answer_of (change.Takes index) = None
answer_of (change.Makes parts) = parts.answer

-- the place in the plan is that of the run that is removed, and the plan does nothing else
abbrev pub FitsTaken : {T : Type 0} → ShardView → Change T → Option ℕ → Option ℕ → Type 0
FitsTaken v c None o = o ≡ None
FitsTaken v c (Some index) o = (o ≡ Some (ordinal_of index)) × MayTake v index × (c ≡ taking index)

-- the count in the plan is the one that is moved on
abbrev pub FitsCount : ShardView → Count → Counting → Type 0
FitsCount v count.Nothing o = o ≡ CountsNothing
FitsCount v count.Dispatch o = (o ≡ CountsDispatch) × CountsFirst v
FitsCount v (count.Accepts from) o = (o ≡ AcceptsFrom from) × CountsAccepted v from
FitsCount v (count.Acknowledges to) o = (o ≡ AcknowledgesTo to) × CountsAcknowledged v to

-- the transfer in the plan is the answer, and the last one that was given was issued
abbrev pub FitsAnswer : ShardView → Option Sent → List Sent → Type 0
FitsAnswer v None o = o ≡ []
FitsAnswer v (Some a) o = (o ≡ a ∷ []) × (v.changed.answer ≡ None)

-- the state of the run to which a step adds, after it
abbrev pub grown : MoreOf → List RunState → RunState
grown m runs = after_step m.plan.change.moment m.plan.change.facts (state_at runs m.index)

-- the runs with what is added to an older one
abbrev pub runs_added : Option MoreOf → List RunState → List RunState
runs_added None runs = runs
runs_added (Some m) runs = slice_set runs m.index (grown m runs)

-- the runs with the new one
abbrev pub runs_created : {T : Type 0} → Option (NewRun T) → List RunState → List RunState
runs_created None runs = runs
runs_created (Some n) runs = runs ++ n.run.state ∷ []

-- the runs without one that is deleted: its place stays
abbrev pub runs_taken : Option ℕ → List RunState → List RunState
runs_taken None runs = runs
runs_taken (Some index) runs = slice_set runs index no_run

-- all runs of a new run's workflow ID have closed
abbrev pub IsFreeFor : {T : Type 0} → Option (NewRun T) → List RunState → Type 0
IsFreeFor None runs = Unit {0}
IsFreeFor (Some n) runs = HasClosed runs (id_of n.run.state)

-- the change is what the outcome does to the runs and the counts; where a workflow ID has at most one open run, none
-- is open beside a new one
pub record FitsChange {T : Type 0} (v : ShardView) (at : ℕ) (c : Change T) (o : Outcome) : Type 0 where
  pub added : FitsAdded v at (added_of c) o.added
  pub created : FitsCreated v at (created_of c) o.created
  pub taken : FitsTaken v c (taken_of c) o.removed
  pub count : FitsCount v (count_of c) o.counting
  pub answer : FitsAnswer v (answer_of c) o.answers
  pub free : IsOneOpen (states v.runs) → IsFreeFor (created_of c) (runs_added (added_of c) (states v.runs))

-- the plan is what the outcome does at the moment
pub record FitsStep {T : Type 0} (v : ShardView) (plan : Plan T) (at : ℕ) (o : Outcome) : Type 0 where
  pub moment : plan.moment ≡ at
  pub reply : plan.reply ≡ o.reply
  pub change : FitsChange v at plan.change o

-- a change that changes nothing
abbrev pub nothing : {T : Type 0} → Change T
nothing = change.Makes no_parts

-- a change that adds to an older run alone
abbrev pub adding : {T : Type 0} → MoreOf → Change T
adding m = change.Makes (record no_parts { added = Some m })

-- the dispatches that are issued for the run to which a step adds
abbrev pub issued_for : MoreOf → ShardState → List Dispatch
issued_for m s = dispatches_of s.setup (ordinal_of m.index) (state_at s.runs m.index) (grown m s.runs) m.plan.change.facts

-- the dispatches that are issued for a new run
abbrev pub issued_new : {T : Type 0} → NewRun T → ShardState → List Dispatch
issued_new n s = issued_first s.setup (length s.runs + 1) n.run.state

-- the transfers that are issued for the run to which a step adds
abbrev pub transfers_for : MoreOf → ShardState → List Sent
transfers_for m s = transfers_of s.setup (ordinal_of m.index) (state_at s.runs m.index) (grown m s.runs)

-- what waits once a count was moved on
abbrev pub counted_by : Count → Waiting Dispatch → Waiting Dispatch
counted_by count.Nothing w = w
counted_by count.Dispatch w = one_counted w
counted_by _ w = w

-- how many are accepted from each shard then
abbrev pub accepted_by : Count → List ℕ → List ℕ
accepted_by (count.Accepts from) all = slice_set all from (slice_index_or all from 0 + 1)
accepted_by _ all = all

-- what waits for each shard then
abbrev pub acknowledged_by : Count → List (Waiting TransferContent) → List (Waiting TransferContent)
acknowledged_by (count.Acknowledges to) all = counted_to all to
acknowledged_by _ all = all

-- what waits with what is issued for an older run
abbrev pub waiting_added : Option MoreOf → ShardState → Waiting Dispatch
waiting_added None s = s.waiting
waiting_added (Some m) s = with_issued s.waiting (issued_for m s)

-- what waits with what is issued for a new run
abbrev pub waiting_created : {T : Type 0} → Option (NewRun T) → ShardState → Waiting Dispatch
waiting_created None s = s.waiting
waiting_created (Some n) s = with_issued s.waiting (issued_new n s)

-- what waits for each shard with what an older run sends
abbrev pub outgoing_added : Option MoreOf → ShardState → List (Waiting TransferContent)
outgoing_added None s = s.outgoing
outgoing_added (Some m) s = with_all_sent (transfers_for m s) 0 s.outgoing

-- what waits for each shard with what answers a transfer
abbrev pub outgoing_answered : Option Sent → List (Waiting TransferContent) → List (Waiting TransferContent)
outgoing_answered None all = all
outgoing_answered (Some a) all = with_all_sent (a ∷ []) 0 all

-- what is known of a shard once a count was moved on
abbrev pub after_count : Count → ShardState → ShardState
after_count k s =
    record s { waiting = counted_by k s.waiting; outgoing = acknowledged_by k s.outgoing; accepted = accepted_by k s.accepted }

-- what is known of a shard once facts were added to an older run
abbrev pub after_added : Option MoreOf → ShardState → ShardState
after_added m s = record s { runs = runs_added m s.runs; waiting = waiting_added m s; outgoing = outgoing_added m s }

-- and once a transfer was answered
abbrev pub after_answer : Option Sent → ShardState → ShardState
after_answer a s = record s { outgoing = outgoing_answered a s.outgoing }

-- and once a run was deleted
abbrev pub after_taken : Option ℕ → ShardState → ShardState
after_taken i s = record s { runs = runs_taken i s.runs }

-- and once a new run was added
abbrev pub after_created : {T : Type 0} → Option (NewRun T) → ShardState → ShardState
after_created n s = record s { runs = runs_created n s.runs; waiting = waiting_created n s }

-- and after a change
abbrev pub after_change : {T : Type 0} → Change T → ShardState → ShardState
after_change c s = after_created (created_of c) (after_taken (taken_of c) (after_answer (answer_of c) (after_added (added_of c) (after_count (count_of c) s))))

-- and after a plan was done
abbrev pub state_after : {T : Type 0} → Plan T → ShardState → ShardState
state_after plan s = record (after_change plan.change s) { last = plan.moment }

-- what carrying out asks of a count, of what is added, of an answer, and of a new run
abbrev pub MayCount : ShardView → Count → Type 0
MayCount v count.Nothing = Unit {0}
MayCount v count.Dispatch = CountsFirst v
MayCount v (count.Accepts from) = CountsAccepted v from
MayCount v (count.Acknowledges to) = CountsAcknowledged v to

abbrev pub MayGrow : ShardView → Option MoreOf → Type 0
MayGrow v None = Unit {0}
MayGrow v (Some m) = HasRoom v m

abbrev pub MayAnswer : ShardView → Option Sent → Type 0
MayAnswer v None = Unit {0}
MayAnswer v (Some a) = v.changed.answer ≡ None

abbrev pub MayAdd : {T : Type 0} → ShardView → Option (NewRun T) → Type 0
MayAdd v None = Unit {0}
MayAdd v (Some n) = HasPlace v n

-- the place that the index knows, but for one that it is to forget
abbrev pub without : ℕ → Option ℕ → Option ℕ
without index None = None
without index (Some n) = if n == index then None else Some n
