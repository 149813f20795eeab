use Rattle.std.proofs.Common.{rules, sym, ◌∙◌}
use Rattle.script.proofs.Steps.{on_any_err}
use Rattle.lanes.proofs.BegunLemmas.{begins-behind, begins-clean, begins-last}
use Rattle.lanes.proofs.ToldLemmas.{ended-clean, ended-line}
use Rattle.lanes.proofs.run.LaneScript.finish.Goals as goal

pub returns-then-is_empty : goal.returns-then-is_empty
returns-then-is_empty g c = record {
  own = search rules;
  told = λ ps text held h. ended-clean text c.args.self.now _ held _ _ (sym c.is_empty.ensures ∙ c.if-is_empty.true) c.in_ok-close.ensures.told h;
  begun = search rules;
  grows = search rules;
  fault = search rules;
}

pub returns-in_err-close : goal.returns-in_err-close
returns-in_err-close g c = record {
  own = search rules;
  told = search rules;
  begun = on_any_err c.from_residual.result _ (λ ps text held h. begins-clean text c.args.self.now held _ _ (sym c.is_empty.ensures ∙ c.if-is_empty.true) c.in_err-close.ensures.begun h);
  grows = search rules;
  fault = search rules;
}

pub returns : goal.returns
returns g c = record {
  own = search rules;
  told = λ ps text held h. ended-line text c.args.self.now c.end_line.new.self _ held _ _ _ (sym c.is_empty.ensures ∙ c.if-is_empty.false) c.in_ok-end_line.ensures.ends.told c.in_ok-close-2.ensures.told h;
  begun = search rules;
  grows = search rules;
  fault = search rules;
}

pub returns-in_err-end_line : goal.returns-in_err-end_line
returns-in_err-end_line g c = record {
  own = search rules;
  told = search rules;
  begun = on_any_err c.from_residual-in_err-end_line.result _ (λ ps text held h. begins-last text c.args.self.now held _ _ (sym c.is_empty.ensures ∙ c.if-is_empty.false) c.in_err-end_line.ensures.ends.begun h);
  grows = search rules;
  fault = search rules;
}

pub returns-in_err-close-2 : goal.returns-in_err-close-2
returns-in_err-close-2 g c = record {
  own = search rules;
  told = search rules;
  begun = (on_any_err c.from_residual-in_err-close-2.result _
      (λ ps text held h. begins-behind text c.args.self.now c.end_line.new.self held _ _ _ (sym c.is_empty.ensures ∙ c.if-is_empty.false) c.in_ok-end_line.ensures.ends.told c.in_err-close-2.ensures.begun h));
  grows = search rules;
  fault = search rules;
}
