use Rattle.std.proofs.Common.{refl, ◌∙◌, arith}
use Rattle.snapshot_pieces.proofs.LineLemmas.{some_first}
use Rattle.snapshot_pieces.proofs.lines.Ahead.end.Goals as goal

pub returns-then-len-gt0-clause-cut : goal.returns-then-len-gt0-clause-cut
returns-then-len-gt0-clause-cut c = (refl, λ none. some_first c.self.inside.line.items _ (omega (arith, c.if-len-gt0.true, c.len.ensures, c.self.inside.line.ok)) (c.self.view_is ∙ none))
