use Rattle.std.proofs.Common.{ap, refl, ◌∙◌, ◌+◌}
use Rattle.task_completion.proofs.OutwardLemmas.{counts-first}
use Rattle.task_completion.proofs.JudgeLemmas.{agrees-first}
use Rattle.task_completion.proofs.so_far.SoFar.begin.Goals as goal

pub returns-clause-agrees : goal.returns-clause-agrees
returns-clause-agrees g c =
    agrees-first c.args.setup.now c.args.next c.args.run.now.state _ c.in_ok-held.ensures.grounded refl refl c.started.ensures c.new.ensures.items refl (ap (λ n. n + 2) c.in_ok-shown.ensures.count)
    (c.new-2.ensures ∙ c.in_ok-timers.ensures) (c.new-3.ensures ∙ c.in_ok-activities.ensures) c.in_ok-notes.ensures c.in_ok-held.ensures.fired
    (counts-first c.args.run.now.state c.in_ok-pending.pending c.in_ok-pending.ensures)
