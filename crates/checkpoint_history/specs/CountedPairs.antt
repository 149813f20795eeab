-- PROOF: the transfers between two shards in order, by what both count
use Rattle.std.specs.Prelude.{◌≡◌, ℕ, ◌≤◌, List, slice_get, Some, unwrap_or}
use Rattle.checkpoint_history.specs.declared.counts.TransferCounts.{TransferCounts}

-- a count by a shard's number
abbrev pub count_at : List ℕ → ℕ → ℕ
count_at counts shard = unwrap_or (slice_get counts shard) 0

-- the transfers from one shard to another are in order by what both count
abbrev pub CountInOrder : TransferCounts → ℕ → TransferCounts → ℕ → Type 0
CountInOrder source from destination to =
    (count_at source.acknowledged to ≤ count_at destination.accepted from) × (count_at destination.accepted from ≤ count_at source.issued to)

-- the same of two of these shards, by their places
abbrev pub PlacesInOrder : List TransferCounts → ℕ → ℕ → Type 0
PlacesInOrder shards from to = (source destination : TransferCounts) → slice_get shards from ≡ Some source → slice_get shards to ≡ Some destination
    → CountInOrder source from destination to
