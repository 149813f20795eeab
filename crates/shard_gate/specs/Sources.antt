-- MEANING: whose hints are pushed again when shards are opened, by what they are opened from
use Rattle.std.specs.Prelude.{List}
use Rattle.service_model_types.specs.declared.content.Content.{Content}
use Rattle.service_model_types.specs.declared.content.Dispatch.{Dispatch}
use Rattle.service_model.specs.Waiting.{waiting, waiting_counted}
use Rattle.shard_gate.specs.declared.source.Source.{Source}
use Rattle.shard_gate.specs.declared.source.Source.TheVariants.{Records, Journal}

-- of records all tasks that wait, of a journal those whose dispatches were counted
abbrev pub hinted : Source → Content → List Dispatch
hinted Records S = waiting S
hinted Journal S = waiting_counted S
