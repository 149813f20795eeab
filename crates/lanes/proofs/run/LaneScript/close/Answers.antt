use Rattle.std.proofs.Common.{rules}
use Rattle.lanes.proofs.run.LaneScript.close.Goals as goal

pub returns : goal.returns
returns g c = record {
  own = search rules;
  told = record { between = c.serve_waiting.new.self; served = c.in_ok-serve_waiting.ensures.told; met = c.meet.ensures.met };
  begun = search rules;
  grows = search rules;
  fault = search rules;
}
