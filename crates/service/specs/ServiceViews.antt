-- MEANING: a service, its passes and a pass that stays on a shard, as clauses read them, whatever keeps the shards

use Rattle.service_model_types.specs.declared.settings.Settings.{Settings}
use Rattle.matching.specs.declared.queues.Queues.{Queues}
use Rattle.matching.specs.declared.queues.QueuesPass.{QueuesPass}
use Rattle.shard_gate.specs.GateViews as gates

pub record Service : Type 0 where
  pub settings : Settings
  pub gate : gates.GateView
  pub queues : Queues

pub record Pass : Type 0 where
  pub inner : gates.PassView
  pub hints : QueuesPass

pub record Held : Type 0 where
  pub inner : gates.HeldView
  pub hints : QueuesPass
