use Rattle.crossbeam_queue.proofs.Stamps.{index_found}
use Rattle.matching.proofs.line.Line.index_of.Goals as goal

pub returns-clause-value : goal.returns-clause-value
returns-clause-value c = index_found _ _ c.args.self.now.sized.2 _
