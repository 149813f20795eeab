-- what passes the test may be a step of its own
use Rattle.std.proofs.Common.{◌≡◌, ℕ, Bool, true, false, not, cond, refl, sym, subst, List, [], ◌∷◌, Option, None, Some, map}
use Rattle.std.specs.Prelude.{◌&&◌, ◌||◌, ◌==◌, find}
use Rattle.wf_event.specs.declared.role.Class.TheVariants.{Activity}
use Rattle.wf_event.specs.declared.role.Opener.{Opener}
use Rattle.wf_event.specs.Role.{Role, TaskSchedules, TaskStarts, TaskEnds, Closes, TimerFires, TimerCancels, ComesFromOutside, Follows, role, settles}
use Rattle.service_model_types.specs.declared.journal.Fact.TheVariants.{Event as an_event, Note as a_note}
use Rattle.service_model_types.specs.declared.journal.Note.{Note}
use Rattle.service_model_types.specs.declared.journal.NoteFact.{NoteFact}
use Rattle.service_model_types.specs.declared.journal.Note.TheVariants.{Taken, Ended, Ready, Beat}
use Rattle.service_model.specs.Outcome.{is_no_task}
use Rattle.service_model.specs.Pending.{Task, NoTask, IsScheduled, IsStarted, is_settled}
use Rattle.service_model.specs.RunState.{RunState, ActivityRow, held_attributes, is_open, row_of}
use Rattle.service_model.specs.Tasks.{is_scheduled_task, is_started_task, pending_row}
use Rattle.mutable_state.specs.Steps.{FitsNote, FitsRole, IsFirst, MaySettle, MayQueue, MayEnd, IsNotLast, has_id}
use Rattle.snapshot_facts.specs.Restoring.{PassesMayCome, may_stand, settles_some, note_may_come}

left : (b c : Bool) → (b && c) ≡ true → b ≡ true
left true c h = refl
left false c h = h

right : (b c : Bool) → (b && c) ≡ true → c ≡ true
right true c h = h
right false c h = absurd (cc h)

no : (b : Bool) → not b ≡ true → b ≡ false
no false h = refl
no true h = absurd (cc h)

no-task : (t : Task) → is_no_task t ≡ true → t ≡ NoTask
no-task NoTask h = refl
no-task IsScheduled h = absurd (cc h)
no-task IsStarted h = absurd (cc h)

scheduled-task : (t : Task) → is_scheduled_task t ≡ true → t ≡ IsScheduled
scheduled-task IsScheduled h = refl
scheduled-task NoTask h = absurd (cc h)
scheduled-task IsStarted h = absurd (cc h)

started-task : (t : Task) → is_started_task t ≡ true → t ≡ IsStarted
started-task IsStarted h = refl
started-task NoTask h = absurd (cc h)
started-task IsScheduled h = absurd (cc h)

fits-role : (r : Role) (s : RunState) → may_stand r s.task ≡ true → FitsRole IsFirst r s []
fits-role TaskSchedules s h = (no-task s.task h, refl)
fits-role TaskStarts s h = (scheduled-task s.task h, tt, refl)
fits-role TaskEnds s h = (started-task s.task h, tt)
fits-role Closes s h = (tt, refl)
fits-role ComesFromOutside s h = tt
fits-role Follows s h = no (is_started_task s.task) h
fits-role (TimerFires started) s h = tt
fits-role (TimerCancels started) s h = no (is_started_task s.task) h

settles-it : (r : Role) (o : Option Opener) (s : RunState) → settles_some r o s ≡ true → MaySettle r o s
settles-it r None s h = tt
settles-it r (Some k) s h = h

found-used : (id : ℕ) (rows : List ActivityRow) (r : ActivityRow) → find (λ (x : ActivityRow). x.opened.id == id) rows ≡ Some r → has_id id (map (λ (x : ActivityRow). x.opened) rows) ≡ true
found-used id [] r h = absurd (cc)
found-used id (x ∷ rows) r h = by_test (x.opened.id == id) h (found-used id rows r)
  where
    rest : Option ActivityRow
    rest = find (λ (y : ActivityRow). y.opened.id == id) rows

    by_test : (b : Bool) → cond b (Some x) rest ≡ Some r → (rest ≡ Some r → has_id id (map (λ (y : ActivityRow). y.opened) rows) ≡ true) → (b || has_id id (map (λ (y : ActivityRow). y.opened) rows)) ≡ true
    by_test true h again = refl
    by_test false h again = again h

-- an activity that is pending is in use, and no event that settles it is buffered
pending-used : (s : RunState) (id : ℕ) (r : ActivityRow) → pending_row s id ≡ Some r → (is_settled Activity id (held_attributes s) ≡ false) × (row_of s id ≡ Some r)
pending-used s id r h = by_test (is_settled Activity id (held_attributes s)) refl h
  where
    by_test : (b : Bool) → is_settled Activity id (held_attributes s) ≡ b → cond b None (row_of s id) ≡ Some r → (is_settled Activity id (held_attributes s) ≡ false) × (row_of s id ≡ Some r)
    by_test true is h = absurd (cc)
    by_test false is h = (is, h)

queues : (n : Note) (s : RunState) (id : ℕ) → is_settled Activity id (held_attributes s) ≡ false → MayQueue n id s []
queues Ready s id h = (h, refl)
queues Taken s id h = tt
queues Ended s id h = tt
queues (Beat details) s id h = tt

ends-it : (n : Note) (s : RunState) (id : ℕ) (r : ActivityRow) → row_of s id ≡ Some r → note_may_come n (Some r) ≡ true → MayEnd n id s
ends-it Ended s id r is h = subst IsNotLast (sym is) (no (r.attempt == 4294967295) h)
ends-it Ready s id r is h = tt
ends-it Taken s id r is h = tt
ends-it (Beat details) s id r is h = tt

fits-note : (s : RunState) (n : NoteFact) (o : Option ActivityRow) → pending_row s n.activity ≡ o → is_open s ≡ true → note_may_come n.note o ≡ true → FitsNote s n []
fits-note s n None is running h = absurd (cc)
fits-note s n (Some r) is running h =
    let there = pending-used s n.activity r is in
    record {
      open_run = running;
      in_use = found-used n.activity s.activities r there.1;
      may_queue = queues n.note s n.activity there.0;
      may_end = ends-it n.note s n.activity r there.1 h;
    }

pub tested : PassesMayCome
tested at s (an_event f) h =
    let a = right _ _ h in let b = right _ _ a in let c = right _ _ b in let d = right _ _ c in (
      record {
        open_run = left _ _ h;
        fits_role = fits-role (role f.attributes) s (left _ _ a);
        begins_none = no _ (left _ _ b);
        may_settle = settles-it (role f.attributes) (settles f.attributes) s (left _ _ c);
        may_ask = left _ _ d;
        first_signal = no _ (right _ _ d);
      },
      tt,
    )
tested at s (a_note n) h = (fits-note s n (pending_row s n.activity) refl (left _ _ h) (right _ _ h), tt)
