use Rattle.std.proofs.Common.{◌≡◌, ◌∷◌, map, refl, sym, ap₂, subst, ◌∙◌, arith}
use Rattle.std.proofs.lemmas.List.{get_or-set_other, length-set}
use Rattle.std.proofs.Math.Seq.{map-set_same}
use Rattle.lanes.specs.declared.lane.Lane.{Lane}
use Rattle.lanes.specs.Course.{FirstMet}
use Rattle.lanes.specs.Lanes.{calls_of, passes_of}
use Rattle.lanes.proofs.MeetLemmas.{all-set, met-all, met-one}
use Rattle.lanes.proofs.PartLemmas.{first-and-rest}
use Rattle.lanes.proofs.phase.meet_others.Goals as goal

pub loop-other-init : goal.loop-other-init
loop-other-init g c =
    let h = first-and-rest (λ x. g.D.Door.admits c.args.door.now x.pass) c.args.lanes.now c.in-Some.first.now c.in-Some.rest.now c.in-Some.ensures.cases.0 c.requires in
    record {
      own = h.0;
      others = h.1;
      count = refl;
      met = refl;
      asked = refl;
      rest = λ k d from. refl;
      kept = refl;
    }

pub loop-other-preserved : goal.loop-other-preserved
loop-other-preserved g c =
    let x = c.other-item.result in
    let i = c.loop-other.other-index in
    let ys = c.loop-other.other-items in
    let h = c.loop-other.invariant in
    record {
      own = c.meet.ensures.one;
      others = all-set (g.D.Door.admits c.args.door.now) ys i _ c.meet.ensures.other h.others;
      count = length-set ys i _ ∙ h.count;
      met = met-one (g.D.Door.meets c.args.door.now) _ _ _ c.in-Some.rest.now ys i x _ (omega arith) h.count (h.rest i x (omega arith)) c.other-item.is (subst (λ (o : Lane g.row.S.Denot g.row.S-Plan.Denot). g.D.Door.meets c.args.door.now c.loop-other.first.pass o.pass c.meet.new.one c.meet.new.other) (sym c.other-item.is) c.meet.ensures.met) h.met;
      asked = h.asked;
      rest = λ k d from. get_or-set_other ys i k _ d (λ e. absurd (omega (arith, from, e))) ∙ h.rest k d (omega (arith, from));
      kept = map-set_same calls_of ys i _ x refl ∙ h.kept;
    }

pub returns-after-loop-other-clause-met : goal.returns-after-loop-other-clause-met
returns-after-loop-other-clause-met g c =
    subst (λ xs. FirstMet (g.D.Door.meets c.args.door.now) (passes_of xs) (passes_of (c.loop-other.first ∷ c.loop-other.other-items))) (sym c.in-Some.ensures.cases.0)
    (met-all (g.D.Door.meets c.args.door.now) c.in-Some.first.now c.loop-other.first c.in-Some.rest.now c.loop-other.other-items c.loop-other.other-index c.loop-other-test.false c.loop-other.invariant.count c.loop-other.invariant.met)

pub returns-after-loop-other-clause-asked : goal.returns-after-loop-other-clause-asked
returns-after-loop-other-clause-asked g c =
    let h = c.loop-other.invariant in
    subst (λ xs. map calls_of (c.loop-other.first ∷ c.loop-other.other-items) ≡ map calls_of xs) (sym c.in-Some.ensures.cases.0) (ap₂ (λ x xs. x ∷ xs) h.asked h.kept)
