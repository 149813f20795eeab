-- MEANING: what a clause reads of many shards behind a gate, of their passes, and of a pass that stays on a shard
use Rattle.std.specs.Prelude.{◌≡◌, ℕ, List}
use Rattle.atomic_table.specs.Seated.{TableId}
use Rattle.service_model_types.specs.declared.content.Content.{Content}
use Rattle.service_model_types.specs.declared.request.Request.{Request}
use Rattle.service_model_types.specs.Replies.{Reply}
use Rattle.service_model.specs.Service.{Entry, after}
use Rattle.gate.specs.declared.view.Origin.{Origin}
use Rattle.gate.specs.declared.view.View.{View}
use Rattle.gate.specs.AtClose.{IsHistory}
use Rattle.gate.specs.SlotRule.{at}
use Rattle.gate.specs.Passes.{seen, starts}
use Rattle.gate.specs.Records.{grounds_by}
use Rattle.shard_gate.specs.Grounding.{grounds}

-- the gate: which one it is, and what each shard was opened with
pub record GateView : Type 0 where
  pub table : TableId
  pub origin : Origin Request Content

-- a pass: whose it is, and what it knows
pub record PassView : Type 0 where
  pub table : TableId
  pub known : View Request Content

-- a pass that stays on a shard: whose it is, what it will know once it has left, and the reply that it then hands over
pub record HeldView : Type 0 where
  pub table : TableId
  pub origin : Origin Request Content
  pub leaving : View Request Content
  pub promised : Reply

-- the number of shards
abbrev pub slots : GateView → ℕ
slots x = x.table.slots

-- the content with which each shard was opened, before its record
abbrev pub starts_of : GateView → List Content
starts_of x = x.origin.starts

-- the record with which a shard was opened
abbrev pub base_of : GateView → ℕ → List Entry
base_of x s = at x.origin.bases s

-- how many passes were given
abbrev pub given : GateView → ℕ
given x = x.origin.passes

-- the pass is one that this gate gave
abbrev pub IsPassOf : PassView → GateView → Type 0
IsPassOf p x = (p.table ≡ x.table) × (p.known.origin ≡ x.origin)

abbrev pub IsHeldBy : HeldView → GateView → Type 0
IsHeldBy h x = (h.table ≡ x.table) × (h.origin ≡ x.origin)

-- what a pass has seen of all shards grounds the request on that shard
abbrev pub SeenGrounds : View Request Content → ℕ → Request → Type 0
SeenGrounds v s q = grounds_by grounds after (starts v) (seen v) s q

-- These records and tickets are those of one history of all shards since the opening: each step has its own ticket, from 1 on,
-- and what comes before a step in it grounds the step's request
abbrev pub IsHistoryOf : GateView → (ℕ → List Entry) → (ℕ → List ℕ) → Type 0
IsHistoryOf x logs tickets = IsHistory (grounds_by grounds after (starts_of x)) (base_of x) (slots x) logs tickets
