use Rattle.std.proofs.Common.{◌≡◌, ◌∙◌, sym, ap, subst, Some}
use Rattle.std.specs.Prelude.{option_map}
use Rattle.wf_event.specs.declared.payloads.ActivityTaskScheduled.{ActivityTaskScheduled as ScheduledAttributes}
use Rattle.service_model.specs.Activities.{verdict_at}
use Rattle.service_model.specs.Deadlines.{scheduled_fields}
use Rattle.service_model.specs.Outcome.{Outcome}
use Rattle.service_model.specs.Retry.{FailedAttempt, Verdict}
use Rattle.shard_store.specs.Fitting.{FitsStep}
use Rattle.shard_store.specs.ShardView.{runs_at}
use Rattle.shard.specs.Running.{row_of}
use Rattle.shard_steps.proofs.EndingLemmas.{failed-by}
use Rattle.shard.proofs.verdicts.fail_activity.Goals as goal

pub returns-clause-plan : goal.returns-clause-plan
returns-clause-plan g c =
    let R = runs_at c.args.store.now c.args.moment in
    let q = c.args.request.now in
    let row = row_of c.in-Some.attempt in
    let v : Verdict = c.in-Some-verdict_of.verdict in
    let found = sym c.in_ok-attempt.ensures.found ∙ ap (option_map row_of) c.in-Some.is in
    let judged : Some v ≡ option_map (λ (a : ScheduledAttributes). verdict_at row a (FailedAttempt q.error_type q.non_retryable) c.args.moment) (scheduled_fields row.opened.attributes) =
    (sym c.in-Some-verdict_of.is) ∙ c.verdict_of.ensures.verdict ∙ ap (λ o. option_map (λ (a : ScheduledAttributes). verdict_at row a (FailedAttempt o q.non_retryable) c.args.moment) (scheduled_fields row.opened.attributes)) c.as_ref.ensures.value in
    let P : Outcome → Type 0 = λ o. FitsStep {T = g.row.T.Denot} c.fail_by_verdict.new.store c.in_ok-plan.plan c.args.moment o in
    subst P (sym (failed-by R q row v found judged)) c.in_ok-plan.ensures.plan
