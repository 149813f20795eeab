use Rattle.std.proofs.Common.{sym, ◌∙◌}
use Rattle.std.specs.Cmp.Lexicographic.{bytes_decides, pointwise_decides}
use Rattle.snapshot_writing.proofs.same.are_same_ids.Goals as goal

pub returns : goal.returns
returns c = λ same. (pointwise_decides bytes_decides c.args.one.now c.args.other.now).0 (sym c.eq.ensures ∙ same)
