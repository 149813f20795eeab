-- PROOF: what it is for a shard to stand for a content
use Rattle.std.specs.Prelude.{◌≡◌, ◌⊎◌, ℕ, ◌≤◌, List, ◌++◌, length, map, slice_get, Some}
use Rattle.std.specs.List.{AllByRecursion}
use Rattle.wf_event.specs.declared.event.Event.{Event}
use Rattle.service_model_types.specs.declared.content.Content.{Content}
use Rattle.service_model.specs.Aging.{IsAged}
use Rattle.service_model.specs.Growth.{HasOneOpen}
use Rattle.service_model.specs.RunState.{RunState, no_run, state_of}
use Rattle.mutable_state.specs.Formed.{IsFormed}
use Rattle.transfer.specs.Outboxes.{AreIssued, rest_of}
use Rattle.shard_issued.specs.Issuing.{waiting_in}
use Rattle.shard_store.specs.ShardView.{ShardView, ShardState, state}

-- what can be known of a content
abbrev pub known : Content → ShardState
known S = record {
  setup = S.setup;
  runs = map state_of S.runs;
  last = S.last_moment;
  waiting = waiting_in S;
  outgoing = map rest_of S.outgoing;
  accepted = S.accepted;
}

-- the shard says what the content's journals, dispatches and transfers say, each journal is formed as steps form it,
-- and what was counted was issued
pub record StandsFor (v : ShardView) (S : Content) : Type 0 where
  pub says : state v ≡ known S
  pub formed : AllByRecursion (IsFormed S.steps) S.runs
  pub counted : S.dispatched ≤ length S.dispatches
  pub issued : AreIssued S.outgoing
  -- of two runs of one workflow ID the older closes first
  pub one : HasOneOpen S
  pub aged : IsAged S

-- each run showed before what it shows first after, or was deleted
pub record Grows (old new : List RunState) : Type 0 where
  pub runs : (n : ℕ) (s : RunState) → slice_get old n ≡ Some s
      → (t : RunState) × (more : List Event) × (slice_get new n ≡ Some t) × ((t ≡ no_run) ⊎ (t.shown ≡ s.shown ++ more))
