-- MEANING: how many transfers shards count, by which it is told whether their contents are in order
use Rattle.std.specs.Prelude.{◌≡◌, ℕ, ◌↔◌, IsTrue, Bool, List, length, map}
use Rattle.gate.specs.Records.{Each}
use Rattle.service_model_types.specs.declared.content.Content.{Content}
use Rattle.service_model_types.specs.declared.content.Outgoing.{Outgoing}
use Rattle.checkpoint_history.specs.Orders.{AreInOrder}
use Rattle.checkpoint_history.specs.declared.counts.TransferCounts.{TransferCounts}

-- what a content counts
abbrev pub counts_of : Content → TransferCounts
counts_of S = record {
  issued = map (λ (o : Outgoing). length o.issued) S.outgoing;
  acknowledged = map (λ (o : Outgoing). o.acknowledged) S.outgoing;
  accepted = S.accepted;
}

-- these are the counts of these contents, shard by shard
abbrev pub AreCountsOf : List TransferCounts → (ℕ → Content) → Type 0
AreCountsOf shards S = Each shards (λ k counts. counts ≡ counts_of (S k))

-- it is told by the counts alone whether the contents of all these shards are in order, whatever else they are
abbrev pub TellsOrder : List TransferCounts → Bool → Type 0
TellsOrder shards told = (S : ℕ → Content) → AreCountsOf shards S → IsTrue told ↔ AreInOrder (length shards) S
