use Rattle.std.proofs.Common.{◌∙◌, ap, subst, sym}
use Rattle.service_model.specs.TimerTurns.{all_dues, due_now, least}
use Rattle.timeouts.proofs.FirstLemmas.{due-firsts}
use Rattle.shard_store.specs.ShardView.{ShardState, ShardView, state, states}
use Rattle.shard_issued.specs.Outstanding.{IsCaughtUp}
use Rattle.shard_issued.proofs.EachLemmas.{firsts-kept}
use Rattle.shard_issued.proofs.SendingLemmas.{runs-caught-up}
use Rattle.shard_store.proofs.store.Store.due_now.Goals as goal

pub returns-clause-due : goal.returns-clause-due
returns-clause-due g c =
    let caught_up = runs-caught-up c.self.inside.changed c.self.inside.transfers (subst (λ (v : ShardView). IsCaughtUp v.changed) (sym c.self.view_is) c.in_ok-catch_up.ensures.caught_up) in
    let kept = firsts-kept c.self.inside.setup.retention c.self.inside.deadlines.slots c.self.inside.changed (states c.self.inside.runs.items) caught_up c.self.invariant.3 in
    due-firsts c.self.inside.setup.retention c.self.inside.deadlines.slots (states c.self.inside.runs.items) c.args.moment c.due.result kept c.due.ensures.least c.due.ensures.none
    ∙ ap (λ (s : ShardState). due_now c.args.moment (least (all_dues s.setup.retention s.runs))) (ap state c.self.view_is ∙ c.in_ok-catch_up.ensures.same)
