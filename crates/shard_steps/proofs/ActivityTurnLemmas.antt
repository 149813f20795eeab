-- what a deadline of an activity that fires adds to its run may come
use Rattle.std.proofs.Common.{◌≡◌, ℕ, zero, suc, Bool, true, false, cond, ◌||◌, ◌==◌, List, [], ◌∷◌, refl, sym, ap, subst, ◌∙◌, Option, Some, None}
use Rattle.std.specs.Prelude.{filter, map, not, slice_get, unwrap_or}
use Rattle.wf_event.specs.declared.payloads.ActivityTaskScheduled.{ActivityTaskScheduled as ScheduledAttributes}
use Rattle.wf_event.specs.declared.role.Class.TheVariants.{Activity}
use Rattle.wf_event_values.specs.declared.policies.RetryState.TheVariants.{Timeout}
use Rattle.wf_event_values.specs.declared.policies.TimeoutKind.{TimeoutKind}
use Rattle.service_model_types.specs.declared.journal.Note.TheVariants.{Ended, Ready}
use Rattle.service_model.specs.Activities.{close_deadline, verdict_at}
use Rattle.service_model.specs.Completion.{is_running_phase}
use Rattle.service_model.specs.Deadlines.{scheduled_fields}
use Rattle.service_model.specs.Outcome.{noted}
use Rattle.service_model.specs.Pending.{is_settled}
use Rattle.service_model.specs.Retry.{TimedOutAttempt, Verdict, GivesUp, RetriesAt}
use Rattle.service_model.specs.RunState.{RunState, ActivityRow, held_attributes, is_open, pending, row_of, used}
use Rattle.service_model.specs.Tasks.{pending_row}
use Rattle.service_model.specs.TimerTurns.{activity_over, attempt_fields, attempt_over, attempt_verdict, timed_out}
use Rattle.mutable_state.specs.Steps.{FitStep, IsNotLast, has_id}
use Rattle.timeouts.specs.Firsts.{HasActivity}
use Rattle.shard_steps.proofs.EndingLemmas.{NotLast, ending-fits, is-itself, not-last, note-fits, or-right, pending-named, pending-of}

-- an activity's time is over
pub closed-fits : (at : ℕ) (s : RunState) (id : ℕ) (kind : TimeoutKind) (o : Option ActivityRow) → is_open s ≡ true → pending_row s id ≡ o → FitStep at s (activity_over s id kind o)
closed-fits at s id kind None opened is = tt
closed-fits at s id kind (Some r) opened is = ending-fits at s r (timed_out id kind Timeout) id (is_running_phase r.phase) opened (pending-named id s r is).1 refl

-- a running attempt's time is over, after any verdict
verdict-fits : (at : ℕ) (s : RunState) (id : ℕ) (kind : TimeoutKind) (r : ActivityRow) (v : Verdict) → is_open s ≡ true → r.opened.id ≡ id → has_id id (pending Activity s) ≡ true → row_of s id ≡ Some r → NotLast r.attempt v → FitStep at s (attempt_over s r kind v)
verdict-fits at s id kind r (GivesUp state) opened named there is last = ending-fits at s r (timed_out r.opened.id kind state) id true opened there (ap Some named)
verdict-fits at s id kind r (RetriesAt ready) opened named there is last =
    note-fits at r.opened.id s Ended opened (ap (λ k. has_id k (pending Activity s)) named ∙ there) (subst IsNotLast (sym (ap (row_of s) named ∙ is)) last)

fields-fit : (at : ℕ) (s : RunState) (id : ℕ) (kind : TimeoutKind) (r : ActivityRow) (o : Option ScheduledAttributes) → is_open s ≡ true → r.opened.id ≡ id → has_id id (pending Activity s) ≡ true → row_of s id ≡ Some r → FitStep at s (attempt_fields s at kind r o)
fields-fit at s id kind r None opened named there is = tt
fields-fit at s id kind r (Some a) opened named there is =
    verdict-fits at s id kind r (verdict_at r a TimedOutAttempt at) opened named there is (not-last a.retry TimedOutAttempt r.cancel_requested r.attempt at (close_deadline r a))

pub attempt-fits : (at : ℕ) (s : RunState) (id : ℕ) (kind : TimeoutKind) (o : Option ActivityRow) → is_open s ≡ true → pending_row s id ≡ o → FitStep at s (attempt_verdict s at kind o)
attempt-fits at s id kind None opened is = tt
attempt-fits at s id kind (Some r) opened is = let there = pending-named id s r is in fields-fit at s id kind r (scheduled_fields r.opened.attributes) opened there.0 there.1 (pending-of s id r is)

-- an activity that has a deadline is one in use
has-kept : (kept : ActivityRow → Bool) (rows : List ActivityRow) (k : ℕ) (r : ActivityRow) → slice_get (filter kept rows) k ≡ Some r → has_id r.opened.id (map (λ (x : ActivityRow). x.opened) rows) ≡ true
has-kept kept [] k r there = absurd (cc)
has-kept kept (x ∷ rows) k r there = by_test (kept x) k there (λ n. has-kept kept rows n r)
  where
    rest : Bool
    rest = has_id r.opened.id (map (λ (y : ActivityRow). y.opened) rows)

    by_test : (b : Bool) (n : ℕ) → slice_get (cond b (x ∷ filter kept rows) (filter kept rows)) n ≡ Some r → ((m : ℕ) → slice_get (filter kept rows) m ≡ Some r → rest ≡ true) → ((x.opened.id == r.opened.id) || rest) ≡ true
    by_test true zero is again = let same : x ≡ r = ap (λ o. unwrap_or o x) is in ap (λ (y : ActivityRow). (y.opened.id == r.opened.id) || rest) same ∙ ap (λ b. b || rest) (is-itself r.opened.id)
    by_test true (suc n) is again = or-right (x.opened.id == r.opened.id) rest (again n is)
    by_test false n is again = or-right (x.opened.id == r.opened.id) rest (again n is)

-- what a filter keeps passes its test
is-kept : (kept : ActivityRow → Bool) (rows : List ActivityRow) (k : ℕ) (r : ActivityRow) → slice_get (filter kept rows) k ≡ Some r → kept r ≡ true
is-kept kept [] k r there = absurd (cc)
is-kept kept (x ∷ rows) k r there = by_test (kept x) refl k there (λ n. is-kept kept rows n r)
  where
    by_test : (b : Bool) → kept x ≡ b → (n : ℕ) → slice_get (cond b (x ∷ filter kept rows) (filter kept rows)) n ≡ Some r → ((m : ℕ) → slice_get (filter kept rows) m ≡ Some r → kept r ≡ true) → kept r ≡ true
    by_test true is zero there again = ap (λ o. kept (unwrap_or o x)) (sym there) ∙ is
    by_test true is (suc n) there again = again n there
    by_test false is n there again = again n there

is-free : (b : Bool) → not b ≡ true → b ≡ false
is-free true h = absurd (cc)
is-free false h = refl

-- the next attempt is queued
pub ready-fits : (at id : ℕ) (s : RunState) → is_open s ≡ true → HasActivity s id → FitStep at s (noted id Ready ∷ [])
ready-fits at id s opened has =
    let there : has_id id (used Activity s) ≡ true = ap (λ k. has_id k (used Activity s)) (sym has.named) ∙ has-kept (λ (r : ActivityRow). not (is_settled Activity r.opened.id (held_attributes s))) s.activities has.place has.row has.there in
    let kept : not (is_settled Activity has.row.opened.id (held_attributes s)) ≡ true = is-kept (λ (r : ActivityRow). not (is_settled Activity r.opened.id (held_attributes s))) s.activities has.place has.row has.there in
    let free : is_settled Activity id (held_attributes s) ≡ false = ap (λ k. is_settled Activity k (held_attributes s)) (sym has.named) ∙ is-free (is_settled Activity has.row.opened.id (held_attributes s)) kept in
    (record { open_run = opened; in_use = there; may_queue = (free, refl); may_end = tt }, tt)
