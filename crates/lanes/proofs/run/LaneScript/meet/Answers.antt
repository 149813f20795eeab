use Rattle.std.proofs.Common.{◌≡◌, length, map, refl, sym, ap, subst, ◌∙◌}
use Rattle.lanes.specs.Course.{AllMet}
use Rattle.lanes.specs.Lanes.{calls_of, passes_of}
use Rattle.lanes.proofs.PartLemmas.{put-back}
use Rattle.lanes.proofs.run.LaneScript.meet.Goals as goal

pub returns-clause-met : goal.returns-clause-met
returns-clause-met g c =
    let meets = g.D.Door.meets c.args.door.now in
    let old = c.args.self.now.lanes in
    let new = c.meet_all.new.lanes in
    let count : length new ≡ old.len = c.meet_all.ensures.count ∙ ap length c.deref_mut.ensures.value ∙ sym old.ok.0 in
    let back = put-back old.len new old.items count in
    record {
      met = subst (λ ls'. AllMet meets (passes_of old.items) (passes_of ls')) (sym back) (subst (λ ls. AllMet meets (passes_of ls) (passes_of new)) c.deref_mut.ensures.value c.meet_all.ensures.met);
      asked = ap (map calls_of) back ∙ c.meet_all.ensures.asked ∙ ap (map calls_of) c.deref_mut.ensures.value;
      first = refl;
      places = refl;
      refused = refl;
      line = refl;
    }
