use Rattle.std.proofs.Common.{rules}
use Rattle.lanes.proofs.WorkLemmas.{idle-none, idle-push, passes-push}
use Rattle.lanes.proofs.run.lanes_of.Goals as goal

pub loop-pass-init : goal.loop-pass-init
loop-pass-init g c = record {
  passes = search rules;
  count = search rules;
  idle = idle-none _ c.new-lanes.ensures.items;
}

pub loop-pass-preserved : goal.loop-pass-preserved
loop-pass-preserved g c = record {
  passes = passes-push c.loop-pass.lanes.items _ c.new.result c.in-Some.pass _ _ _ c.in_ok-push.ensures.items c.new.ensures.pass c.in-Some.ensures.steps.0 c.loop-pass.invariant.passes;
  count = search rules;
  idle = idle-push c.loop-pass.lanes.items _ c.new.result c.in_ok-push.ensures.items c.new.ensures.asked c.loop-pass.invariant.idle;
}
