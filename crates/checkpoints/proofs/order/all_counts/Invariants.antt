use Rattle.std.proofs.Common.{◌≡◌, map, take}
use Rattle.checkpoints.specs.declared.restored.Restored.{Restored}
use Rattle.checkpoints.proofs.order.all_counts.Given as goal

abbrev pub invariant-loop-restored : goal.invariant-loop-restored
invariant-loop-restored g l = l.all.items ≡ map (λ (r : Restored _). r.counts) (take l.restored-index l.shards)
