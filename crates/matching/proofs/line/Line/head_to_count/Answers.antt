use Rattle.std.proofs.Common.{rules}
use Rattle.matching.proofs.Finds.{counts_all}
use Rattle.matching.proofs.line.Line.head_to_count.Goals as goal

pub load-requires : goal.load-requires
load-requires c = (search rules, search rules, counts_all _ _ _ _ _ _ c.requires.seen c.requires.pass)
