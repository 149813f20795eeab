-- taking the attempt of an activity
use Rattle.std.proofs.Common.{◌≡◌, ℕ, Bool, true, false, cond, ◌||◌, ◌==◌, List, [], ◌∷◌, refl, sym, ap, ◌∙◌, Option, Some, None}
use Rattle.std.specs.Prelude.{find, map, IfSome}
use Rattle.wf_event.specs.declared.payloads.ActivityTaskScheduled.{ActivityTaskScheduled as ScheduledAttributes}
use Rattle.wf_event.specs.declared.role.Class.TheVariants.{Activity}
use Rattle.service_model_types.specs.declared.answer.ActivityTask.{ActivityTask as Task}
use Rattle.service_model_types.specs.declared.answer.Answer.TheVariants.{ActivityTask, Stale}
use Rattle.service_model_types.specs.declared.journal.Note.TheVariants.{Taken}
use Rattle.service_model_types.specs.declared.request.WaitingTask.{WaitingTask}
use Rattle.service_model.specs.Deadlines.{scheduled_fields}
use Rattle.service_model.specs.Outcome.{Outcome, Runs, answered, adds, noted, run_at, run_id}
use Rattle.service_model.specs.Pending.{is_settled}
use Rattle.service_model.specs.RunState.{RunState, ActivityRow, used, is_open, id_of, held_attributes}
use Rattle.service_model.specs.Tasks.{waits_activity, take_fields, take_row, pending_row}
use Rattle.mutable_state.specs.Steps.{has_id, FitStep}
use Rattle.shard_steps.specs.Attempts.{task_by, task_for}

-- what is done by the task, where there is one
abbrev pub taking : WaitingTask → Option Task → Outcome
taking h None = answered Stale
taking h (Some t) = adds h.run (noted h.event Taken ∷ []) (ActivityTask t)

fields-by : (R : Runs) (h : WaitingTask) (r : ActivityRow) (o : Option ScheduledAttributes) → take_fields R h r o ≡ taking h (task_by h (run_id R.setup h.run) (id_of (run_at R h.run)) r o)
fields-by R h r None = refl
fields-by R h r (Some a) = by_test (waits_activity h r)
  where
    task : Task
    task = record { activity_id = a.activity_id; activity_type = a.activity_type; attempt = h.attempt; details = r.details; input = a.input; run = run_id R.setup h.run; scheduled = h.event; workflow_id = id_of (run_at R h.run) }

    by_test : (b : Bool) → cond b (adds h.run (noted h.event Taken ∷ []) (ActivityTask task)) (answered Stale) ≡ taking h (cond b (Some task) None)
    by_test true = refl
    by_test false = refl

pub taken-by : (R : Runs) (h : WaitingTask) (row : Option ActivityRow) → take_row R h row ≡ taking h (task_for R h row)
taken-by R h None = refl
taken-by R h (Some r) = fields-by R h r (scheduled_fields r.opened.attributes)

-- the row of a pending activity is one in use
row-there : (id : ℕ) (rows : List ActivityRow) (r : ActivityRow) → find (λ (x : ActivityRow). x.opened.id == id) rows ≡ Some r → has_id id (map (λ (x : ActivityRow). x.opened) rows) ≡ true
row-there id [] r h = absurd (cc)
row-there id (x ∷ rows) r h = by_test (x.opened.id == id) h (row-there id rows r)
  where
    rest : Bool
    rest = has_id id (map (λ (y : ActivityRow). y.opened) rows)

    by_test : (b : Bool) → cond b (Some x) (find (λ (y : ActivityRow). y.opened.id == id) rows) ≡ Some r → (find (λ (y : ActivityRow). y.opened.id == id) rows ≡ Some r → rest ≡ true) → (b || rest) ≡ true
    by_test true g again = refl
    by_test false g again = again g

pub pending-there : (id : ℕ) (s : RunState) (r : ActivityRow) → pending_row s id ≡ Some r → has_id id (used Activity s) ≡ true
pending-there id s r h = by_test (is_settled Activity id (held_attributes s)) h
  where
    by_test : (b : Bool) → cond b None (find (λ (x : ActivityRow). x.opened.id == id) s.activities) ≡ Some r → has_id id (used Activity s) ≡ true
    by_test true g = absurd (cc)
    by_test false g = row-there id s.activities r g

-- its run is open
pub pending-open : (id : ℕ) (s : RunState) (r : ActivityRow) → (is_open s ≡ false → s.activities ≡ []) → pending_row s id ≡ Some r → is_open s ≡ true
pending-open id s r none h = by_test (is_open s) refl
  where
    no : (b : Bool) → ◌≡◌ {A = Option ActivityRow} (cond b None None) None
    no true = refl
    no false = refl

    by_test : (b : Bool) → is_open s ≡ b → is_open s ≡ true
    by_test true is = is
    by_test false is = absurd (
        let gone : pending_row s id ≡ None = ap (λ l. cond (is_settled Activity id (held_attributes s)) None (find (λ (x : ActivityRow). x.opened.id == id) l)) (none is) ∙ no (is_settled Activity id (held_attributes s)) in
        let clash : ◌≡◌ {A = Option ActivityRow} None (Some r) = sym gone ∙ h in
        cc)

-- the note may come
pub taken-fits : (at id : ℕ) (s : RunState) → is_open s ≡ true → has_id id (used Activity s) ≡ true → FitStep at s (noted id Taken ∷ [])
taken-fits at id s opened there = (record { open_run = opened; in_use = there; may_queue = tt; may_end = tt }, tt)

pub if-some : {A : Type 0} (o : Option A) (P : Type 0) → P → IfSome o (λ t. P)
if-some None P h = tt
if-some (Some x) P h = h
