-- PROOF: requests of a shard's runs that wait for an answer
use Rattle.std.specs.Prelude.{◌≡◌, ℕ, ◌<◌, List, true, length}
use Rattle.wf_event.specs.declared.role.Class.{Class}
use Rattle.service_model.specs.RunState.{is_open, pending}
use Rattle.mutable_state.specs.Steps.{has_id}
use Rattle.shard_store.specs.ShardView.{ShardView, ordinal_of, run_in}
use Rattle.shard_deliveries.specs.declared.pending.PendingRequest.{PendingRequest}

-- in which run a request waits, and what workflow ID was asked
abbrev pub said : PendingRequest → ℕ × List ℕ
said p = (ordinal_of p.index, p.workflow_id)

-- the request of that class that this event made is pending in the open run at a place
pub record IsPending (v : ShardView) (class : Class) (id index : ℕ) : Type 0 where
  pub there : index < length v.runs
  pub opened : is_open (run_in v index) ≡ true
  pub waits : has_id id (pending class (run_in v index)) ≡ true
