-- the running attempt of an activity that a token names
use Rattle.std.proofs.Common.{◌≡◌, ℕ, Bool, true, false, cond, ◌==◌, ◌<◌, refl, sym, ap, subst, ◌∙◌, length, arith, Option, Some, None}
use Rattle.std.proofs.lemmas.Bool.Decides.{nat_tests}
use Rattle.std.specs.Prelude.{unwrap_or}
use Rattle.service_model_types.specs.declared.journal.Note.TheVariants.{Ended}
use Rattle.service_model_types.specs.declared.request.TakenTask.{TakenTask}
use Rattle.service_model.specs.Activities.{keep_running}
use Rattle.service_model.specs.Completion.{is_running_phase}
use Rattle.service_model.specs.Outcome.{if_some, run_at}
use Rattle.service_model.specs.RunState.{ActivityRow, is_open}
use Rattle.service_model.specs.Tasks.{pending_row}
use Rattle.mutable_state.specs.Steps.{IsNotLast, MayEnd}
use Rattle.shard_steps.specs.Attempts.{has_run_of, runs_at}
use Rattle.shard_steps.proofs.EndingLemmas.{are-same, pending-named, pending-of}
use Rattle.shard_steps.proofs.TaskLemmas.{and-right}
use Rattle.shard.specs.Running.{HasAttempt}
use Rattle.shard_store.specs.ShardView.{ShardView, ordinal_of, run_in, runs_in}

-- the running attempt that a token names is that of a pending activity
kept-row : (t : TakenTask) (o : Option ActivityRow) (r : ActivityRow) → keep_running t o ≡ Some r → (o ≡ Some r) × (r.attempt ≡ t.attempt)
kept-row t None r h = absurd (cc)
kept-row t (Some x) r h = by_test (runs_at t.attempt x) refl h
  where
    by_test : (b : Bool) → runs_at t.attempt x ≡ b → if_some b x ≡ Some r → (◌≡◌ {A = Option ActivityRow} (Some x) (Some r)) × (r.attempt ≡ t.attempt)
    by_test true is g =
        let same : x ≡ r = ap (λ o. unwrap_or o x) g in
        (g, ap (λ (y : ActivityRow). y.attempt) (sym same) ∙ are-same x.attempt t.attempt (and-right (is_running_phase x.phase) (x.attempt == t.attempt) is))
    by_test false is g = absurd (cc)

pub has-attempt : (v : ShardView) (t : TakenTask) (i : ℕ) (r : ActivityRow) → has_run_of (runs_in v) t.shard t.run ≡ true → ordinal_of i ≡ t.run → i < length v.runs → keep_running t (pending_row (run_in v i) t.event) ≡ Some r → is_open (run_in v i) ≡ true → HasAttempt v t i r
has-attempt v t i r has place there found opened =
    let R = runs_in v in
    let row = kept-row t (pending_row (run_in v i) t.event) r found in
    record {
      found = ap (λ b. cond b (keep_running t (pending_row (run_at R t.run) t.event)) None) has ∙ ap (λ k. keep_running t (pending_row (run_at R k) t.event)) (sym place) ∙ found;
      attempt = row.1;
      place = place;
      there = there;
      open_run = opened;
      pending_one = (pending-named t.event (run_in v i) r row.0).1;
      its_row = pending-of (run_in v i) t.event r row.0;
    }

-- such an attempt may end, where another one has a number
pub may-end : (v : ShardView) (t : TakenTask) (i : ℕ) (r : ActivityRow) → HasAttempt v t i r → t.attempt < 4294967295 → MayEnd Ended t.event (run_in v i)
may-end v t i r has low =
    let same = has.attempt in
    let other : (r.attempt == 4294967295) ≡ false = grind (arith, nat_tests) in
    subst IsNotLast (sym has.its_row) other
