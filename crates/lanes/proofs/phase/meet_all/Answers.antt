use Rattle.std.proofs.Common.{◌∙◌}
use Rattle.lanes.specs.Lanes.{passes_of}
use Rattle.lanes.proofs.phase.meet_all.Goals as goal

pub returns : goal.returns
returns g c =
    let first = c.meet_others.ensures in
    let second = c.meet_others-2.ensures in
    record {
      own = second.own;
      count = second.count ∙ first.count;
      met = (passes_of c.meet_others.new.lanes, first.met, second.met);
      asked = second.asked ∙ first.asked;
    }
