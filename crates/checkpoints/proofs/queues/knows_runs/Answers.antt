use Rattle.std.proofs.Common.{◌≡◌, ◌≢◌, ℕ, ◌+◌, ◌<◌, ◌⊎◌, inl, inr, ap, sym, arith, ◌∙◌, slice_index_or, true, false}
use Rattle.std.proofs.lemmas.Bool.{cases_eq}
use Rattle.service_model.specs.RunState.{no_run}
use Rattle.shard_store.specs.ShardView.{runs_in, states}
use Rattle.shard_store.proofs.IndexLemmas.{at-place, length-states}
use Rattle.checkpoints.specs.Queues.{knows_run}
use Rattle.checkpoints.proofs.QueueLemmas.{all-pass, one-fails}
use Rattle.checkpoints.proofs.queues.knows_runs.Goals as goal

pub loop-index-preserved : goal.loop-index-preserved
loop-index-preserved g c = λ k low. by k low (cases_eq k c.loop-index.index)
  where
    by : (k : ℕ) → k < c.loop-index.index + 1 → (k ≡ c.loop-index.index) ⊎ (k ≢ c.loop-index.index) → knows_run c.args.store.now.setup (slice_index_or (states c.args.store.now.runs) k no_run) ≡ true
    by k low (inl same) =
        ap (λ j. knows_run c.args.store.now.setup (slice_index_or (states c.args.store.now.runs) j no_run)) same
        ∙ ap (knows_run c.args.store.now.setup) (sym (at-place (runs_in c.args.store.now) c.loop-index.index)) ∙ sym c.in_ok-knows_run_at.ensures ∙ c.if-not-branch.false
    by k low (inr other) = c.loop-index.invariant k (omega (arith, low, other))

pub returns-then-not-branch : goal.returns-then-not-branch
returns-then-not-branch g c =
    let fails : knows_run c.args.store.now.setup (slice_index_or (states c.args.store.now.runs) c.loop-index.index no_run) ≡ false =
    ap (knows_run c.args.store.now.setup) (sym (at-place (runs_in c.args.store.now) c.loop-index.index)) ∙ sym c.in_ok-knows_run_at.ensures ∙ c.if-not-branch.true in
    sym (one-fails (knows_run c.args.store.now.setup) (states c.args.store.now.runs) c.loop-index.index no_run
    (omega (arith, length-states c.args.store.now.runs, c.loop-index-test.true, c.count-index-end.ensures.count, c.loop-index.auto)) fails)

pub returns : goal.returns
returns g c =
    sym (all-pass (knows_run c.args.store.now.setup) (states c.args.store.now.runs) no_run (λ k low. c.loop-index.invariant k
    (omega (arith, low, length-states c.args.store.now.runs, c.loop-index-test.false, c.count-index-end.ensures.count, c.loop-index.auto))))
