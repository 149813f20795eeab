use Rattle.std.proofs.Common.{rules}
use Rattle.crossbeam_queue.proofs.Looks.{sees_free}
use Rattle.matching.proofs.line.Line.stamp_at_tail.Goals as goal

pub load-requires : goal.load-requires
load-requires c = (search rules, search rules, sees_free _ _ _ _ _ (search rules) (search rules))
