use Rattle.std.proofs.Common.{subst}
use Rattle.shard_steps.specs.Attempts.{HasNext}
use Rattle.shard.proofs.RunningLemmas.{may-end}
use Rattle.shard.proofs.verdicts.fail_by_verdict.Goals as goal

pub note_attempt-requires-clause-may : goal.note_attempt-requires-clause-may
note_attempt-requires-clause-may g c =
    let t = c.args.request.now.task in
    let low = subst (λ v. HasNext t.attempt v) c.in-Retry.is c.requires.next in
    may-end c.args.store.now t c.args.attempt.now.index _ c.requires.running low
