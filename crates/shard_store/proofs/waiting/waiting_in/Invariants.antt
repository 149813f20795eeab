use Rattle.std.proofs.Common.{◌≡◌, take}
use Rattle.service_model.specs.Waiting.{all_waiting}
use Rattle.shard_store.specs.ShardView.{states}
use Rattle.shard_store.proofs.waiting.waiting_in.Given as goal

abbrev pub invariant-loop-index : goal.invariant-loop-index
invariant-loop-index g l = l.waiting.items ≡ all_waiting l.setup (states (take l.index l.runs.items))
