use Rattle.std.proofs.Common.{sym, ◌∙◌}
use Rattle.lanes.proofs.JournaledLemmas.{input-clean, input-ended}
use Rattle.lanes.proofs.run.LaneScript.end_input.Goals as goal

pub returns-then-is_empty-clause-ended : goal.returns-then-is_empty-clause-ended
returns-then-is_empty-clause-ended g c = λ pt text held h. input-clean text c.args.self.now held _ (sym c.is_empty.ensures ∙ c.if-is_empty.true) h

pub returns-then-is_empty-clause-answered : goal.returns-then-is_empty-clause-answered
returns-then-is_empty-clause-answered g c = c.requires.answered

pub returns-clause-ended : goal.returns-clause-ended
returns-clause-ended g c =
    λ pt text held h. input-ended text c.args.self.now c.end_line.new.self _ held _ _ _ (sym c.is_empty.ensures ∙ c.if-is_empty.false) c.in_ok-end_line.ensures.ends.told c.in_ok-serve_batch.ensures.ends.told h

pub returns-clause-answered : goal.returns-clause-answered
returns-clause-answered g c = c.in_ok-serve_batch.ensures.none
