use Rattle.std.proofs.Common.{rules}
use Rattle.crossbeam_queue.proofs.Looks.{sees_full}
use Rattle.matching.proofs.line.Line.stamp_at_head.Goals as goal

pub load-requires : goal.load-requires
load-requires c = (search rules, search rules, sees_full _ _ _ _ _ (search rules) (search rules))
