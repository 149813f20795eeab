use Rattle.std.proofs.Common.{rules}
use Rattle.crossbeam_queue.proofs.Looks.{sees_head}
use Rattle.matching.proofs.line.Line.head.Goals as goal

pub load-requires : goal.load-requires
load-requires c = (search rules, search rules, sees_head _ _ _ _)
