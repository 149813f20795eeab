use Rattle.std.proofs.Common.{rules, refl, inl, inr, arith}
use Rattle.std.proofs.lemmas.List.{nil_from_length}
use Rattle.lanes.proofs.run.LaneScript.serve_batch.Goals as goal

pub returns-then-len-eq0-clause-none : goal.returns-then-len-eq0-clause-none
returns-then-len-eq0-clause-none g c = nil_from_length c.args.self.now.places.items (omega (arith, c.if-len-eq0.true, c.len.ensures, c.args.self.now.places.ok.0))

pub returns-clause-none : goal.returns-clause-none
returns-clause-none g c = c.in_ok-serve_waiting.ensures.told.places

pub returns-then-len-eq0-clause-ends : goal.returns-then-len-eq0-clause-ends
returns-then-len-eq0-clause-ends g c = record {
  own = search rules;
  told = inl (record { same = refl; kept = refl });
  begun = search rules;
  grows = search rules;
  fault = search rules;
}

pub returns-clause-ends : goal.returns-clause-ends
returns-clause-ends g c = record {
  own = search rules;
  told = inr c.in_ok-serve_waiting.ensures.told;
  begun = search rules;
  grows = search rules;
  fault = search rules;
}
