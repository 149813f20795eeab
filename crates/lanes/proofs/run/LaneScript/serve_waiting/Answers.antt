use Rattle.std.proofs.Common.{rules, ◌≡◌, All, length, refl, sym, ap, subst, ◌∙◌, arith}
use Rattle.lanes.specs.Printed.{PhasePrinted}
use Rattle.lanes.proofs.PartLemmas.{put-back}
use Rattle.lanes.proofs.run.LaneScript.serve_waiting.Goals as goal

pub returns : goal.returns
returns g c =
    let serves = g.D.Door.serves c.args.door.now in
    let w = g.W.Write.contents c.args.writer.now.inner in
    let w' = g.W.Write.contents c.serve_phase.new.writer.inner in
    let old = c.args.self.now.lanes in
    let new = c.serve_phase.new.lanes in
    let count : length new ≡ old.len = c.in_ok-refused.ensures.count ∙ ap length c.deref_mut.ensures.value ∙ sym old.ok.0 in
    let back = put-back old.len new old.items count in
    record {
      own = subst (All (λ l. g.D.Door.admits c.args.door.now l.pass)) (sym back) c.serve_phase.ensures.own;
      told = record {
        refused = c.in_ok-refused.refused;
        printed = subst (λ ls'. PhasePrinted serves c.args.self.now.first c.args.self.now.places.items old.items ls' c.in_ok-refused.refused w w') (sym back)
            (subst (λ ps. PhasePrinted serves c.args.self.now.first ps old.items new c.in_ok-refused.refused w w') c.as_slice-places.ensures.value
            (subst (λ ls. PhasePrinted serves c.args.self.now.first c.as_slice-places.result.now ls new c.in_ok-refused.refused w w') c.deref_mut.ensures.value c.in_ok-refused.ensures.printed));
        first = omega (arith, c.in-Some.ensures, c.len-count.ensures, c.args.self.now.places.ok.0);
        places = c.clear.ensures.items;
        refused_is = refl;
        line = refl;
      };
      begun = search rules;
      grows = search rules;
      fault = search rules;
    }
