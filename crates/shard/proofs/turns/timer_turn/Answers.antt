use Rattle.std.proofs.Common.{◌≡◌, sym, ap, subst, ◌∙◌}
use Rattle.std.specs.Prelude.{Some, option_map}
use Rattle.service_model.specs.TimerTurns.{all_dues, due_now, least}
use Rattle.timeouts.specs.Slots.{run_due}
use Rattle.shard_store.specs.ShardView.{ShardState}
use Rattle.shard.proofs.turns.timer_turn.Goals as goal

pub fire_first-requires-clause-first : goal.fire_first-requires-clause-first
fire_first-requires-clause-first g c =
    let fires = sym c.in_ok-due.ensures.due ∙ ap (option_map run_due) c.in-Some.is in
    subst (λ (s : ShardState). due_now c.args.moment (least (all_dues s.setup.retention s.runs)) ≡ Some (run_due c.in-Some.due)) (sym c.in_ok-due.ensures.same) fires
