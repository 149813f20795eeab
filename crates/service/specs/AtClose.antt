-- MEANING: what is known at the close
use Rattle.std.specs.Prelude.{ℕ, List, [], map, slice_index_or}
use Rattle.service_model.specs.Service.{Entry, after}
use Rattle.service_model_types.specs.declared.request.Hint.{Hint}
use Rattle.gate.specs.AtClose as of_gate_end
use Rattle.shard_gate.specs.GateViews as gates
use Rattle.gate.specs.Records.{grounds_by}
use Rattle.shard_gate.specs.Grounding.{grounds}
use Rattle.matching.specs.Named as matching
use Rattle.matching.specs.declared.view.Part.{Part}
use Rattle.service.specs.ServiceViews.{Pass}
use Rattle.service.specs.ServiceViews.{Service}

-- the record with which a shard was opened
abbrev pub base_of : Service → ℕ → List Entry
base_of x shard = gates.base_of x.gate shard

-- the hints with which the queue in that slot was opened
abbrev pub held_at : Service → ℕ → List Hint
held_at x slot = matching.held_at (matching.held_of x.queues) slot

-- the parts of these passes at the queue in that slot
abbrev pub parts_at : List Pass → ℕ → List Part
parts_at passes slot = matching.parts_at (map (λ (p : Pass). p.hints) passes) slot

-- These records and tickets are those of one history of all shards since the opening: each step has its own ticket, from 1 on,
-- and what comes before a step in it grounds the step's request
abbrev pub IsHistoryOf : Service → List (List Entry) → List (List ℕ) → Type 0
IsHistoryOf x records tickets = of_gate_end.IsHistory (grounds_by grounds after (gates.starts_of x.gate))
    (base_of x) x.settings.shards (λ k. slice_index_or records k []) (λ k. slice_index_or tickets k [])
