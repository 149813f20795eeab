use Rattle.std.proofs.Common.{sym, subst, arith}
use Rattle.shard_steps.specs.Attempts.{HasNext}
use Rattle.shard_steps.proofs.EndingLemmas.{has-next}
use Rattle.shard_steps.proofs.verdicts.judged.Goals as goal

pub returns-clause-next : goal.returns-clause-next
returns-clause-next c =
    subst (λ v. HasNext c.args.attempt v) (sym c.verdict_on.ensures)
    (has-next c.args.policy.now _ c.args.cancel_requested c.args.attempt c.args.at c.args.deadline (omega (arith, c.ranges.attempt.fits)))
