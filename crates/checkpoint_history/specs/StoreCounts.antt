-- PROOF: how many transfers a shard counts by what it keeps: as many as each content for which it stands
use Rattle.std.specs.Prelude.{◌≡◌, map}
use Rattle.service_model_types.specs.declared.content.Content.{Content}
use Rattle.service_model_types.specs.declared.transfer.TransferContent.{TransferContent}
use Rattle.shard_store.specs.ShardView.{ShardState, ShardView, state}
use Rattle.shard_store.specs.Standing.{StandsFor}
use Rattle.transfer.specs.Logs.{Waiting, count_issued}
use Rattle.checkpoint_history.specs.Counts.{counts_of}
use Rattle.checkpoint_history.specs.declared.counts.TransferCounts.{TransferCounts}

abbrev pub counts_in : ShardState → TransferCounts
counts_in s = record {
  issued = map (λ (w : Waiting TransferContent). count_issued w) s.outgoing;
  acknowledged = map (λ (w : Waiting TransferContent). w.counted) s.outgoing;
  accepted = s.accepted;
}

abbrev pub CountsAreTheContents : Type 0
CountsAreTheContents = (v : ShardView) (S : Content) → StandsFor v S → counts_in (state v) ≡ counts_of S
