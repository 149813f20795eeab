use Rattle.std.proofs.Common.{rules}
use Rattle.matching.proofs.Finds.{sees_all}
use Rattle.matching.proofs.line.Line.look_at_all.Goals as goal

pub load-requires : goal.load-requires
load-requires c = (search rules, search rules, sees_all _ _ _ _ _ _ c.requires.pass)
