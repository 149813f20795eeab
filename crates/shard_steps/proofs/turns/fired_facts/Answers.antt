use Rattle.timeouts.specs.Slots.{run_due}
use Rattle.timeouts.proofs.ClassLemmas.{due-timer}
use Rattle.shard_steps.proofs.turns.fired_facts.Goals as goal

pub timer_fired-requires : goal.timer_fired-requires
timer_fired-requires g c = let (retention, is) = c.requires in due-timer retention c.args.run.now.state c.args.due.run (run_due c.args.due) c.in-UserTimer.is is
