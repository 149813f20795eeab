use Rattle.std.proofs.Common.{sym, ◌∙◌}
use Rattle.std.specs.Cmp.Lexicographic.{bytes_decides, pointwise_decides}
use Rattle.event_sameness.proofs.values.are_same_texts.Goals as goal

pub returns-clause-same : goal.returns-clause-same
returns-clause-same c = λ same. (pointwise_decides bytes_decides c.args.ours.now c.args.theirs.now).0 (sym c.eq.ensures ∙ same)

pub returns-clause-found : goal.returns-clause-found
returns-clause-found c = λ same. c.eq.ensures ∙ (pointwise_decides bytes_decides c.args.ours.now c.args.theirs.now).1 same
