use Rattle.std.proofs.Common.{rules}
use Rattle.matching.proofs.Finds.{finds_no_room}
use Rattle.matching.proofs.line.Line.head_if_full.Goals as goal

pub load-requires : goal.load-requires
load-requires c = (search rules, search rules, finds_no_room _ _ _ _ _ _ c.requires.seen c.requires.pass)
