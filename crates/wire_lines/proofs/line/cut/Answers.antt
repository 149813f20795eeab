use Rattle.std.proofs.Common.{ap, ◌∙◌, arith}
use Rattle.wire_lines.specs.Pending.{has_feed}
use Rattle.wire_lines.proofs.FreeLemmas.{free_front, free_all}
use Rattle.wire_lines.proofs.line.cut.Goals as goal

pub returns-in_default-clause-none : goal.returns-in_default-clause-none
returns-in_default-clause-none c = free_all c.args.text.now (λ k lt. c.in_default.ensures k (omega arith) lt)

pub returns-clause-first : goal.returns-clause-first
returns-clause-first c =
    ap has_feed c.split_at.ensures.front ∙ free_front c.args.text.now c.in-Some.at (omega (arith, c.in-Some.ensures.0.high)) (λ k lt. c.in-Some.ensures.0.before k (omega arith) lt)
