use Rattle.std.proofs.Common.{◌≡◌, sym, ◌∙◌, arith, length, refl, Some, true, false}
use Rattle.std.specs.Prelude.{slice_get}
use Rattle.std.proofs.lemmas.Option.{slice_get_read, slice_get_within}
use Rattle.mutable_state.specs.Activities.{row_said}
use Rattle.mutable_state.specs.declared.activity.Activity.{Activity}
use Rattle.service_model.specs.RunState.{ActivityRow}
use Rattle.checkpoints.specs.Queues.{knows_by}
use Rattle.checkpoints.proofs.QueueLemmas.{all-got-pass, all-mapped, got-fails, next-passes}
use Rattle.checkpoints.proofs.queues.knows_each.Goals as goal

pub returns-then-not-knows_activity : goal.returns-then-not-knows_activity
returns-then-not-knows_activity c =
    let here : slice_get c.args.activities.now c.loop-place.place ≡ Some c.index-activities-place.result =
    slice_get_read c.args.activities.now (length c.args.activities.now) c.loop-place.place c.index-activities-place.result refl (omega (arith, c.loop-place-test.true, c.loop-place.auto)) c.index-activities-place.is in
    let fails : knows_by c.args.setup.now c.index-activities-place.result.scheduled.attributes ≡ false = sym c.knows_activity.ensures ∙ c.if-not-knows_activity.true in
    sym (all-mapped (λ (r : ActivityRow). knows_by c.args.setup.now r.opened.attributes) row_said c.args.activities.now
    ∙ got-fails (λ (a : Activity). knows_by c.args.setup.now a.scheduled.attributes) c.args.activities.now c.loop-place.place c.index-activities-place.result here fails)

pub loop-place-preserved : goal.loop-place-preserved
loop-place-preserved c = λ k a low got.
    let here : slice_get c.args.activities.now c.loop-place.place ≡ Some c.index-activities-place.result =
    slice_get_read c.args.activities.now (length c.args.activities.now) c.loop-place.place c.index-activities-place.result refl (omega (arith, c.loop-place-test.true, c.loop-place.auto)) c.index-activities-place.is in
    let passes : knows_by c.args.setup.now c.index-activities-place.result.scheduled.attributes ≡ true = sym c.knows_activity.ensures ∙ c.if-not-knows_activity.false in
    next-passes (λ (a : Activity). knows_by c.args.setup.now a.scheduled.attributes) c.args.activities.now c.loop-place.place k c.index-activities-place.result a c.loop-place.invariant here passes low got

pub returns : goal.returns
returns c =
    sym (all-mapped (λ (r : ActivityRow). knows_by c.args.setup.now r.opened.attributes) row_said c.args.activities.now
    ∙ all-got-pass (λ (a : Activity). knows_by c.args.setup.now a.scheduled.attributes) c.args.activities.now (λ k a got. c.loop-place.invariant k a
    (let low = slice_get_within c.args.activities.now k a got in omega (arith, low, c.loop-place-test.false, c.loop-place.auto)) got))
