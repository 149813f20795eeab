-- INNER: the transfers that a shard accepted from each source
use Rattle.std.specs.Prelude.{ℕ, ◌+◌, List, slice_set}
use Rattle.service_model.specs.Deliveries.{accepted_from}
use Rattle.service_model_types.specs.declared.transfer.Delivery.{Delivery}
use Rattle.service_model_types.specs.declared.transfer.Delivery.TheVariants.{Accepted}

-- how many are accepted from each source then
abbrev pub accepted_then : List ℕ → ℕ → Delivery → List ℕ
accepted_then all from Accepted = slice_set all from (accepted_from all from + 1)
accepted_then all from _ = all
