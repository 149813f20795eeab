-- PROOF: the running attempt of an activity that a token names
use Rattle.std.specs.Prelude.{◌≡◌, ℕ, ◌<◌, true, Some, length}
use Rattle.wf_event.specs.declared.role.Class.TheVariants.{Activity}
use Rattle.service_model_types.specs.declared.request.TakenTask.{TakenTask}
use Rattle.service_model.specs.Activities.{running_attempt}
use Rattle.service_model.specs.RunState.{ActivityRow, is_open, pending, row_of as row_in}
use Rattle.mutable_state.specs.Activities.{row_said}
use Rattle.mutable_state.specs.Steps.{has_id}
use Rattle.shard_store.specs.ShardView.{ShardView, ordinal_of, run_in, runs_in}
use Rattle.shard.specs.declared.attempts.RunningAttempt.{RunningAttempt}

-- the activity of a running attempt
abbrev pub row_of : RunningAttempt → ActivityRow
row_of a = row_said a.activity

-- the activity is the one whose running attempt a token names, in the open run at a place
pub record HasAttempt (v : ShardView) (t : TakenTask) (index : ℕ) (r : ActivityRow) : Type 0 where
  pub found : running_attempt (runs_in v) t ≡ Some r
  pub attempt : r.attempt ≡ t.attempt
  pub place : ordinal_of index ≡ t.run
  pub there : index < length v.runs
  pub open_run : is_open (run_in v index) ≡ true
  pub pending_one : has_id t.event (pending Activity (run_in v index)) ≡ true
  pub its_row : row_in (run_in v index) t.event ≡ Some r
