use Rattle.std.proofs.Common.{rules, sym, ap, subst, ◌∙◌}
use Rattle.script.proofs.Steps.{on_any_err}
use Rattle.script.specs.Asked.{asked}
use Rattle.lanes.specs.Lanes.{is_barrier, place_in}
use Rattle.lanes.specs.ToldLines.{Added}
use Rattle.lanes.proofs.BegunLemmas.{begins-barrier, begins-line}
use Rattle.lanes.proofs.FoundLemmas.{found-is}
use Rattle.lanes.proofs.LaneLemmas.{own-same}
use Rattle.lanes.proofs.ToldLemmas.{told-barrier, told-line}
use Rattle.lanes.proofs.run.LaneScript.end_found.Goals as goal

pub close-requires-after_bounds : goal.close-requires-after_bounds
close-requires-after_bounds g c = let own = own-same (g.D.Door.admits c.args.door.now) c.args.self.now.lanes.items c.add.new.self.lanes.items c.add.ensures.passes c.requires in search (rules, own)

pub returns-in_default-clause-ends : goal.returns-in_default-clause-ends
returns-in_default-clause-ends g c = record {
  own = own-same (g.D.Door.admits c.args.door.now) c.args.self.now.lanes.items c.add.new.self.lanes.items c.add.ensures.passes c.requires;
  told = search rules;
  begun = λ K line gives ps lines held h. begins-line lines _ _ held _ h;
  grows = search rules;
  fault = search rules;
}

pub returns-then-not-closes-clause-ends : goal.returns-then-not-closes-clause-ends
returns-then-not-closes-clause-ends g c = record {
  own = own-same (g.D.Door.admits c.args.door.now) c.args.self.now.lanes.items c.add.new.self.lanes.items c.add.ensures.passes c.requires;
  told = (λ K line gives ps lines held h. let is = found-is c.args.found (asked K line) gives c.in-Ok.ensures.known in
      told-line lines line c.args.self.now _ held _ (subst (λ a. Added a c.args.self.now c.add.new.self) (sym is) c.in-Ok.ensures.added) (ap (λ a. is_barrier (place_in a)) is ∙ (sym c.in-Ok.ensures.barrier ∙ c.if-not-closes.true)) h);
  begun = search rules;
  grows = search rules;
  fault = search rules;
}

pub returns-clause-ends : goal.returns-clause-ends
returns-clause-ends g c = record {
  own = search rules;
  told = (λ K line gives ps lines held h. let is = found-is c.args.found (asked K line) gives c.in-Ok.ensures.known in
      told-barrier lines line c.args.self.now c.add.new.self _ held _ _ (subst (λ a. Added a c.args.self.now c.add.new.self) (sym is) c.in-Ok.ensures.added) (ap (λ a. is_barrier (place_in a)) is ∙ (sym c.in-Ok.ensures.barrier ∙ c.if-not-closes.false)) c.in_ok-close.ensures.told h);
  begun = search rules;
  grows = search rules;
  fault = search rules;
}

pub returns-in_err-close-clause-ends : goal.returns-in_err-close-clause-ends
returns-in_err-close-clause-ends g c = record {
  own = search rules;
  told = search rules;
  begun = (on_any_err c.from_residual.result _
      (λ K line gives ps lines held h.
      let is = found-is c.args.found (asked K line) gives c.in-Ok.ensures.known in
      begins-barrier lines line c.args.self.now c.add.new.self held _ _ (subst (λ a. Added a c.args.self.now c.add.new.self) (sym is) c.in-Ok.ensures.added) (ap (λ a. is_barrier (place_in a)) is ∙ (sym c.in-Ok.ensures.barrier ∙ c.if-not-closes.false)) c.in_err-close.ensures.begun h));
  grows = search rules;
  fault = search rules;
}
