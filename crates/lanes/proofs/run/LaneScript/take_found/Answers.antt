use Rattle.std.proofs.Common.{rules, refl, subst, ◌∙◌, arith}
use Rattle.script.proofs.Steps.{on_any_err}
use Rattle.lanes.proofs.FoundLemmas.{Taking, taking-all, taking-begun, taking-none, taking-one}
use Rattle.lanes.proofs.run.LaneScript.take_found.Goals as goal

pub loop-found-init : goal.loop-found-init
loop-found-init g c = record {
  own = c.requires;
  line = refl;
  taking = λ K lines h. taking-none K lines _ _ _ h;
  grows = omega arith;
}

pub loop-found-preserved : goal.loop-found-preserved
loop-found-preserved g c =
    let h = c.loop-found.invariant in
    record {
      own = c.end_found.ensures.ends.own;
      line = c.in_ok-end_found.ensures.line ∙ h.line;
      taking = λ K lines found. taking-one K lines c.in-Some.found _ _ c.loop-found.self _ _ _ _ c.in_ok-end_found.ensures.ends.told
          (subst (λ fs. Taking (g.D.Door.serves c.args.door.now) (g.D.Door.meets c.args.door.now) K lines fs c.args.self.now c.loop-found.self (g.W.Write.contents c.args.writer.now.inner) (g.W.Write.contents c.loop-found.writer.inner)) c.in-Some.ensures.some (h.taking K lines found));
      grows = omega (arith, h.grows, c.end_found.ensures.ends.grows);
    }

pub returns-in_err-end_found-clause-ends : goal.returns-in_err-end_found-clause-ends
returns-in_err-end_found-clause-ends g c = record {
  own = search rules;
  told = search rules;
  begun = (let h = c.loop-found.invariant in
      on_any_err c.from_residual.result _
      (λ K lines found. taking-begun K lines c.in-Some.found _ _ c.loop-found.self _ _ _ c.in_err-end_found.ensures.ends.begun
      (subst (λ fs. Taking (g.D.Door.serves c.args.door.now) (g.D.Door.meets c.args.door.now) K lines fs c.args.self.now c.loop-found.self (g.W.Write.contents c.args.writer.now.inner) (g.W.Write.contents c.loop-found.writer.inner)) c.in-Some.ensures.some (h.taking K lines found))));
  grows = search rules;
  fault = search rules;
}

pub returns-clause-ends : goal.returns-clause-ends
returns-clause-ends g c = record {
  own = search rules;
  told = (let h = c.loop-found.invariant in
      λ K lines found. taking-all K lines _ _ _ _
      (subst (λ fs. Taking (g.D.Door.serves c.args.door.now) (g.D.Door.meets c.args.door.now) K lines fs c.args.self.now c.loop-found.self (g.W.Write.contents c.args.writer.now.inner) (g.W.Write.contents c.loop-found.writer.inner)) c.in_default.ensures.none (h.taking K lines found)));
  begun = search rules;
  grows = search rules;
  fault = search rules;
}
