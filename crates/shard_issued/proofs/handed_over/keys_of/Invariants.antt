use Rattle.std.proofs.Common.{take}
use Rattle.shard_issued.specs.HandedOver.{HasKeys}
use Rattle.shard_issued.proofs.handed_over.keys_of.Given as goal

abbrev pub invariant-loop-index : goal.invariant-loop-index
invariant-loop-index l = HasKeys l.keys (take l.index l.waiting.items)
