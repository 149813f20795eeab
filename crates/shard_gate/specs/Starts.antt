-- MEANING: what a shard goes on from: a content, and the record of what was done since
use Rattle.std.specs.Prelude.{ℕ, List, [], Option, None, Some, flat_map, map}
use Rattle.gate.specs.Records.{replay}
use Rattle.service_model_types.specs.declared.content.Content.{Content}
use Rattle.service_model_types.specs.declared.content.Dispatch.{Dispatch}
use Rattle.service_model_types.specs.declared.content.Setup.{Setup}
use Rattle.service_model.specs.Service.{Entry, after, opening}
use Rattle.shard_gate.specs.Sources.{hinted}
use Rattle.shard_gate.specs.declared.source.Source.{Source}

-- the content at which a shard starts, and its record
abbrev pub Start : Type 0
Start = Content × List Entry

-- that of a shard with its record, by the content at which it starts
abbrev pub starting : {S : Type 0} → (S → Content) → S × List Entry → Start
starting opening x = (opening x.0, x.1)

-- that of a shard without runs
abbrev pub starting_empty : Setup × List Entry → Start
starting_empty g = (opening g.0, g.1)

-- those of shards without runs, by their setups
abbrev pub from_setups : List (Setup × List Entry) → List Start
from_setups given = map starting_empty given

-- the content at which each starts
abbrev pub opened_with : List Start → List Content
opened_with given = map (λ (g : Start). g.0) given

-- the record of each
abbrev pub records_in : List Start → List (List Entry)
records_in given = map (λ (g : Start). g.1) given

-- the content that the record leaves
abbrev pub content_behind : Start → Content
content_behind g = replay after g.0 g.1

-- the tasks whose hints are pushed again, of the contents which the records leave, shard by shard
abbrev pub waiting_in : Source → List Start → List Dispatch
waiting_in source given = flat_map (λ (g : Start). hinted source (content_behind g)) given

-- the content at which a shard starts: one that was picked for its slot, where it is resumed there, or else its own
abbrev pub start_at : (ℕ → Content) → Content → Option ℕ → Content
start_at picked own None = own
start_at picked own (Some slot) = picked slot

-- some content, for what has to have one
abbrev pub some_content : Content
some_content = opening (record { service = 0; shard = 0; shards = 0; queues = []; retention = 0 })
