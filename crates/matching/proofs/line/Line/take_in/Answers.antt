use Rattle.std.proofs.Common.{rules}
use Rattle.crossbeam_queue.proofs.Comings.{merges}
use Rattle.matching.proofs.Meets.{takes_in}
use Rattle.matching.proofs.line.Line.take_in.Goals as goal

pub join_seat-requires : goal.join_seat-requires
join_seat-requires c = (search rules, search rules, search rules, search rules, merges _ _ c.args.seat.now.me.0 _ c.args.other.me.0 _ _ (takes_in _ _ _ _ _ _ _ c.requires.passes.0 c.requires.passes.1))
