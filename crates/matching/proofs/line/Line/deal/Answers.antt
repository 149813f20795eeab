use Rattle.std.proofs.Common.{rules}
use Rattle.crossbeam_queue.proofs.Comings.{forks}
use Rattle.matching.proofs.Keeps.{deals}
use Rattle.matching.proofs.line.Line.deal.Goals as goal

pub split_seat-requires : goal.split_seat-requires
split_seat-requires c = (search rules, search rules, forks _ _ c.args.maker.now.me.0 _ _ (deals _ _ _ _ _ c.requires.maker c.requires.some_left))
