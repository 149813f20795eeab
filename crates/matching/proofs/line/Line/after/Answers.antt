use Rattle.crossbeam_queue.proofs.Stamps.{next_found, round_found}
use Rattle.matching.proofs.line.Line.after.Goals as goal

pub returns-then-index-self : goal.returns-then-index-self
returns-then-index-self c = λ p. next_found _ _ c.args.self.now.sized.2 _ _ p c.if-index-self.true

pub returns-else-index-self : goal.returns-else-index-self
returns-else-index-self c = λ p. round_found _ _ c.args.self.now.sized.2 _ _ p c.if-index-self.false
