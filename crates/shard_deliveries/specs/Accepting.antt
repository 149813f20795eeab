-- PROOF: when a delivery is accepted, and what it may add
use Rattle.std.specs.Prelude.{◌≡◌, false, true, None}
use Rattle.wf_event.specs.declared.attributes.Attributes.{Attributes}
use Rattle.wf_event.specs.Role.{ComesFromOutside, closing_status, role, settles}
use Rattle.service_model.specs.RunState.{RunState, is_open, signal_request_by}
use Rattle.service_model_types.specs.declared.transfer.Transfer.{Transfer}
use Rattle.mutable_state.specs.Steps.{MaySettle, is_start, may_ask}
use Rattle.shard_issued.specs.Outstanding.{IsCaughtUp}
use Rattle.shard_store.specs.Fitting.{CountsAccepted}
use Rattle.shard_store.specs.ShardView.{ShardView}

-- one more transfer of its source can be accepted, and all that the last step left was looked up
pub record MayAccept (v : ShardView) (t : Transfer) : Type 0 where
  pub counts : CountsAccepted v t.from
  pub caught_up : IsCaughtUp v.changed

-- an event from outside that an open run may get: what it settles is pending, and it is no request's
pub record IsFromOutside (s : RunState) (a : Attributes) : Type 0 where
  pub opened : is_open s ≡ true
  pub outside : role a ≡ ComesFromOutside
  pub begins_none : is_start a ≡ false
  pub stays : closing_status a ≡ None
  pub settled : MaySettle ComesFromOutside (settles a) s
  pub asked : may_ask a s ≡ true
  pub unsigned : signal_request_by None a ≡ None
