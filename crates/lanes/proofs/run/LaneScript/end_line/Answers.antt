use Rattle.std.proofs.Common.{rules, refl}
use Rattle.script.proofs.Steps.{on_any_err}
use Rattle.lanes.proofs.ToldLemmas.{told-longer}
use Rattle.lanes.proofs.run.LaneScript.end_line.Goals as goal

pub returns-clause-ends : goal.returns-clause-ends
returns-clause-ends g c = record {
  own = search rules;
  told = λ ps lines held h. c.in_ok-end_found.ensures.ends.told c.args.settings.now c.args.self.now.line c.asked-found.ensures ps lines held (told-longer lines c.args.self.now _ held _ refl refl refl refl h);
  begun = search rules;
  grows = search rules;
  fault = search rules;
}

pub returns-in_err-end_found-clause-ends : goal.returns-in_err-end_found-clause-ends
returns-in_err-end_found-clause-ends g c = record {
  own = search rules;
  told = search rules;
  begun = (on_any_err c.from_residual.result _
      (λ ps lines held h. c.in_err-end_found.ensures.ends.begun c.args.settings.now c.args.self.now.line c.asked-found.ensures ps lines held (told-longer lines c.args.self.now _ held _ refl refl refl refl h)));
  grows = search rules;
  fault = search rules;
}
