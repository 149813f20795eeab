-- PROOF: a shard as contracts see it: what it says about its journals, its dispatches and its transfers, what was not
-- looked up since the last step, and for how many more runs there is room
use Rattle.std.specs.Prelude.{◌≡◌, ℕ, ◌+◌, ◌<◌, ◌^◌, List, map, Option, option_map}
use Rattle.service_model_types.specs.declared.content.Dispatch.{Dispatch}
use Rattle.service_model_types.specs.declared.content.Setup.{Setup}
use Rattle.service_model_types.specs.declared.transfer.TransferContent.{TransferContent}
use Rattle.service_model.specs.RunState.{RunState}
use Rattle.service_model.specs.Outcome.{Runs, latest_run, run_at}
use Rattle.mutable_state.specs.RunView.{RunView}
use Rattle.transfer.specs.Logs.{Waiting}
use Rattle.shard_issued.specs.Outstanding.{Outstanding}

-- a shard: its setup, its runs in the order of their ordinals, with that of no run at the place of one that was
-- deleted, what was not looked up since the last step, its last moment, for how many more runs there is room, its
-- dispatches and its transfers to each shard that wait, and how many it accepted from each
pub record ShardView : Type 0 where
  pub setup : Setup
  pub runs : List RunView
  pub changed : Outstanding
  pub last : ℕ
  pub room : ℕ
  pub waiting : Waiting Dispatch
  pub outgoing : List (Waiting TransferContent)
  pub accepted : List ℕ

-- what is known of the runs
abbrev pub states : List RunView → List RunState
states runs = map (λ (r : RunView). r.state) runs

-- what is known of a shard, whatever room it has
pub record ShardState : Type 0 where
  pub setup : Setup
  pub runs : List RunState
  pub last : ℕ
  pub waiting : Waiting Dispatch
  pub outgoing : List (Waiting TransferContent)
  pub accepted : List ℕ

abbrev pub state : ShardView → ShardState
state v = record { setup = v.setup; runs = states v.runs; last = v.last; waiting = v.waiting; outgoing = v.outgoing; accepted = v.accepted }

-- the ordinal of the run at a place of the list: ordinals count from 1
abbrev pub ordinal_of : ℕ → ℕ
ordinal_of index = index + 1

-- what requests are decided on at a step's moment
abbrev pub runs_at : ShardView → ℕ → Runs
runs_at v moment = record { setup = v.setup; moment = moment; states = states v.runs }

-- the same for what reads no moment
abbrev pub runs_in : ShardView → Runs
runs_in v = runs_at v 0

-- what is known of the run at a place
abbrev pub run_in : ShardView → ℕ → RunState
run_in v index = run_at (runs_in v) (ordinal_of index)

-- the service's and the shard's numbers fit a run id, and there is a shard
pub record IsSetup (s : Setup) : Type 0 where
  pub service : s.service < 2 ^ 48
  pub shard : s.shard < 2 ^ 12
  pub some : 0 < s.shards

-- the index knows the place of the latest run of each workflow ID
pub record IsIndexed (look : List ℕ → Option ℕ) (runs : List RunView) : Type 0 where
  pub latest : (id : List ℕ) → option_map ordinal_of (look id) ≡ latest_run (states runs) id
