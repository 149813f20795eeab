use Rattle.std.proofs.Common.{rules}
use Rattle.matching.proofs.Finds.{finds_none}
use Rattle.matching.proofs.line.Line.tail_if_empty.Goals as goal

pub load-requires : goal.load-requires
load-requires c = (search rules, search rules, finds_none _ _ _ _ _ _ c.requires.seen c.requires.pass)
