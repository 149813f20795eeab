-- PROOF: a shard that is being restored, and what it is for it to be what was laid
use Rattle.std.specs.Prelude.{◌≡◌, ◌≢◌, ℕ, ◌+◌, Bool, List, [], ◌∷◌, ◌++◌, true, if◌then◌else◌, is_some, ◌&&◌, ◌==◌, length, option_map, MatchResult, Option, None, Some, IfSome, Result, Ok, Err}
use Rattle.service_model.specs.Journal.{Journal}
use Rattle.service_model.specs.RunState.{RunState}
use Rattle.mutable_state.specs.Formed.{Stands}
use Rattle.mutable_state.specs.RunView.{RunView}
use Rattle.service_model_types.specs.declared.journal.Fact.{Fact}
use Rattle.service_model_types.specs.declared.transfer.Transfer.{Transfer}
use Rattle.transfer.specs.Logs.{count_issued, counted_off}
use Rattle.transfer.specs.Outboxes.{waiting_to}
use Rattle.shard_store.specs.ShardView.{ShardState, ShardView}
use Rattle.shard_store.specs.Standing.{StandsFor}
use Rattle.shard_snapshot.specs.declared.damage.Damage.{Damage}
use Rattle.shard_snapshot.specs.declared.damage.Damage.TheVariants as damage
use Rattle.shard_snapshot.specs.Laid.{Laid, added_to, may_end, none_waits, where_so}

-- a shard that is being restored: what it keeps, the run that is being restored, and the request id that made the next event
pub record RestoringView : Type 0 where
  pub store : ShardView
  pub run : Option RunView
  pub request : Option (List ℕ)

-- the run that is being restored stands for the journal that is being laid
abbrev pub RunStands : ℕ → Option RunView → Option Journal → Type 0
RunStands steps None None = Unit {0}
RunStands steps (Some v) (Some J) = Stands steps J v.state
RunStands steps _ _ = ⊥

-- it is what was laid so far
pub record IsLaid (r : RestoringView) (l : Laid) : Type 0 where
  pub stands : StandsFor r.store l.content
  pub run : RunStands l.content.steps r.run l.run
  pub request : r.request ≡ l.request
  -- all runs come before what waits
  pub waits : IfSome l.run (λ J. none_waits l.content ≡ true)

-- a fault is the one that is given; that memory ran out says nothing
abbrev pub IsFault : {A : Type 0} → Result A Damage → Damage → Type 0
IsFault given d = d ≢ damage.NoMemory → given ≡ Err d

-- what a call answered, and what it left, is what is given
abbrev pub Leaves : {A : Type 0} → Result (Unit {0}) Damage → A → Result A Damage → Type 0
Leaves result now given = MatchResult result (λ u. given ≡ Ok now) (IsFault given)

-- a call leaves what is laid by this
abbrev pub Lays : Result (Unit {0}) Damage → RestoringView → RestoringView → (Laid → Result Laid Damage) → Type 0
Lays result old new f = (l : Laid) → IsLaid old l
    → MatchResult result (λ u. (m : Laid) × (f l ≡ Ok m) × IsLaid new m) (IsFault (f l))

-- what is known of the run that is being restored
abbrev pub run_state : Option RunView → Option RunState
run_state run = option_map (λ (v : RunView). v.state) run

-- what is known of the shard with that run
abbrev pub with_run_state : ShardState → Option RunState → Result ShardState Damage
with_run_state s None = Ok s
with_run_state s (Some t) =
    where_so (may_end s.last s.runs t) damage.Run (record s { runs = s.runs ++ t ∷ []; waiting = counted_off s.waiting.counted })

-- the same, where no event is to come by a request id
abbrev pub ended_state : ShardState → Option (List ℕ) → Option RunState → Result ShardState Damage
ended_state s request run = if is_some request then Err damage.Order else with_run_state s run

-- the number of the run's next event
abbrev pub next_event_of : Option RunState → ℕ
next_event_of None = 1
next_event_of (Some s) = length s.shown + length s.held + 1

-- whether a transfer is the next one to a shard
abbrev pub is_next_of : ShardState → ℕ → Transfer → Bool
is_next_of s to t = (t.from == s.setup.shard) && (t.number == count_issued (waiting_to s.outgoing to) + 1)

-- a call adds a fact to what was laid, as a step of its own
abbrev pub AddsFact : Result (Unit {0}) Damage → RestoringView → RestoringView → ℕ → Fact → Type 0
AddsFact result old new at fact = Lays result old new (λ l. added_to l.content at fact l.run)
