-- what is in use and what is pending, by the rows that a run answers
use Rattle.std.proofs.Common.{◌≡◌, ℕ, Bool, true, false, not, cond, refl, sym, ap, ap₂, ◌∙◌, List, [], ◌∷◌, Option, Some, map, filter}
use Rattle.std.specs.Prelude.{◌&&◌, ◌||◌, ◌==◌}
use Rattle.std.specs.List.{list_any}
use Rattle.wf_event.specs.declared.event.Event.{Event}
use Rattle.wf_event.specs.declared.role.Class.{Class}
use Rattle.wf_event.specs.declared.role.Opener.{Opener}
use Rattle.wf_event.specs.Role.{Role, TaskSchedules, TaskStarts, TaskEnds, Closes, TimerFires, TimerCancels, ComesFromOutside, Follows}
use Rattle.service_model.specs.Pending.{is_settled}
use Rattle.service_model.specs.RunState.{RunState, held_attributes, used}
use Rattle.mutable_state.specs.Readers.{used_row, used_rows}
use Rattle.mutable_state.specs.Steps.{has_id, may_settle}
use Rattle.snapshot_facts.specs.Restoring.{is_pending_row, is_timer_cancel, is_used_row, settles_some}

and-true : (b : Bool) → (b && true) ≡ b
and-true true = refl
and-true false = refl

and-false : (b : Bool) → (b && false) ≡ false
and-false true = refl
and-false false = refl

-- what is in use
pub rows-used : (c : Class) (s : RunState) (id : ℕ) (es : List Event) → list_any (is_used_row id) (map (used_row c s) es) ≡ has_id id es
rows-used c s id [] = refl
rows-used c s id (e ∷ es) = ap (λ b. (e.id == id) || b) (rows-used c s id es)

-- what is pending
pub rows-pending : (c : Class) (s : RunState) (id : ℕ) (es : List Event) → list_any (is_pending_row id) (map (used_row c s) es) ≡ has_id id (filter (λ (e : Event). not (is_settled c e.id (held_attributes s))) es)
rows-pending c s id [] = refl
rows-pending c s id (e ∷ es) = by_test (is_settled c e.id (held_attributes s)) (rows-pending c s id es)
  where
    left : List Event
    left = filter (λ (x : Event). not (is_settled c x.id (held_attributes s))) es

    by_test : (b : Bool) → list_any (is_pending_row id) (map (used_row c s) es) ≡ has_id id left → (((e.id == id) && not b) || list_any (is_pending_row id) (map (used_row c s) es)) ≡ has_id id (cond (not b) (e ∷ left) left)
    by_test true again = ap (λ a. a || list_any (is_pending_row id) (map (used_row c s) es)) (and-false (e.id == id)) ∙ again
    by_test false again = ap₂ (λ a b. a || b) (and-true (e.id == id)) again

-- a timer's cancel settles what is in use
pub cancels-used : (r : Role) (o : Option Opener) (k : Opener) (s : RunState) → o ≡ Some k → is_timer_cancel r ≡ true → list_any (is_used_row k.event) (used_rows k.class s) ≡ settles_some r o s
cancels-used (TimerCancels started) o k s is h = rows-used k.class s k.event (used k.class s) ∙ ap (λ (x : Option Opener). settles_some (TimerCancels started) x s) (sym is)
cancels-used TaskSchedules o k s is h = absurd (cc)
cancels-used TaskStarts o k s is h = absurd (cc)
cancels-used TaskEnds o k s is h = absurd (cc)
cancels-used Closes o k s is h = absurd (cc)
cancels-used ComesFromOutside o k s is h = absurd (cc)
cancels-used Follows o k s is h = absurd (cc)
cancels-used (TimerFires started) o k s is h = absurd (cc)

pending-is : (k : Opener) (s : RunState) → list_any (is_pending_row k.event) (used_rows k.class s) ≡ may_settle Follows k s
pending-is k s = rows-pending k.class s k.event (used k.class s)

-- any other event what is pending
pub settles-pending : (r : Role) (o : Option Opener) (k : Opener) (s : RunState) → o ≡ Some k → is_timer_cancel r ≡ false → list_any (is_pending_row k.event) (used_rows k.class s) ≡ settles_some r o s
settles-pending (TimerCancels started) o k s is h = absurd (cc)
settles-pending TaskSchedules o k s is h = pending-is k s ∙ ap (λ (x : Option Opener). settles_some TaskSchedules x s) (sym is)
settles-pending TaskStarts o k s is h = pending-is k s ∙ ap (λ (x : Option Opener). settles_some TaskStarts x s) (sym is)
settles-pending TaskEnds o k s is h = pending-is k s ∙ ap (λ (x : Option Opener). settles_some TaskEnds x s) (sym is)
settles-pending Closes o k s is h = pending-is k s ∙ ap (λ (x : Option Opener). settles_some Closes x s) (sym is)
settles-pending ComesFromOutside o k s is h = pending-is k s ∙ ap (λ (x : Option Opener). settles_some ComesFromOutside x s) (sym is)
settles-pending Follows o k s is h = pending-is k s ∙ ap (λ (x : Option Opener). settles_some Follows x s) (sym is)
settles-pending (TimerFires started) o k s is h = pending-is k s ∙ ap (λ (x : Option Opener). settles_some (TimerFires started) x s) (sym is)
