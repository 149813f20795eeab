-- what is answered of a run by what its keeper answers
use Rattle.std.proofs.Common.{◌≡◌, ℕ, Bool, true, false, not, cond, List, [], ◌∷◌, length, suc, refl, ap, ◌∙◌, Option, Some}
use Rattle.std.specs.Prelude.{filter, map}
use Rattle.wf_event.specs.declared.event.Event.{Event}
use Rattle.wf_event.specs.declared.role.Class.{Class}
use Rattle.wf_event.specs.declared.role.Class.TheVariants.{Activity, Timer, Child, Signal, Cancel}
use Rattle.service_model_types.specs.declared.journal.NewEvent.{NewEvent}
use Rattle.service_model.specs.Pending.{is_settled}
use Rattle.service_model.specs.RunState.{RunState, ActivityRow, held_attributes, pending, used}
use Rattle.mutable_state.specs.declared.pending.Pending.{Pending}
use Rattle.mutable_state.specs.Activities.{HasNoActivityClosed}
use Rattle.mutable_state.specs.PendingRows.{HasNothingClosed}
use Rattle.mutable_state.specs.Opens.{event_at}
use Rattle.mutable_state.specs.Readers.{UsedRow, used_row, used_rows, fired_timer, AreShown, started_timer}
use Rattle.mutable_state.specs.RunView.{pending_in}
use Rattle.mutable_state.proofs.TimerLemmas.{timer-read}
use Rattle.service_model.specs.TimerTurns.{timer_name}
use Rattle.timeouts.specs.Firsts.{HasTimer}

-- how many of what is in use are pending
pending-counted : (c : Class) (s : RunState) → length (filter (λ (r : UsedRow). not r.is_settled) (used_rows c s)) ≡ length (pending c s)
pending-counted c s = counted (used c s)
  where
    free : UsedRow → Bool
    free r = not r.is_settled

    is_free : Event → Bool
    is_free e = not (is_settled c e.id (held_attributes s))

    counted : (es : List Event) → length (filter free (map (used_row c s) es)) ≡ length (filter is_free es)
    counted [] = refl
    counted (e ∷ es) = by_test (is_free e) (counted es)
      where
        by_test : (b : Bool) → length (filter free (map (used_row c s) es)) ≡ length (filter is_free es) →
            length (cond b (used_row c s e ∷ filter free (map (used_row c s) es)) (filter free (map (used_row c s) es))) ≡ length (cond b (e ∷ filter is_free es) (filter is_free es))
        by_test true again = ap suc again
        by_test false again = again

pub rows-counted : (c : Class) (s : RunState) (rows : List UsedRow) → rows ≡ used_rows c s → length (filter (λ (r : UsedRow). not r.is_settled) rows) ≡ length (pending c s)
rows-counted c s rows is = ap (λ (l : List UsedRow). length (filter (λ (r : UsedRow). not r.is_settled) l)) is ∙ pending-counted c s

-- class by class
pub all-counted : (s : RunState) (a t h g k : ℕ) → a ≡ length (pending Activity s) → t ≡ length (pending Timer s) → h ≡ length (pending Child s) → g ≡ length (pending Signal s) → k ≡ length (pending Cancel s) →
    ◌≡◌ {A = Pending} (record { activities = a; timers = t; children = h; signals = g; cancels = k }) (pending_in s)
all-counted s a t h g k ea et eh eg ek = rw (ea, et, eh, eg, ek) refl

-- the timers that events fire that are buffered
pub firings-are : (held : List NewEvent) → map (λ (e : NewEvent). fired_timer e.attributes) held ≡ map fired_timer (map (λ (e : NewEvent). e.attributes) held)
firings-are [] = refl
firings-are (e ∷ held) = ap (λ l. fired_timer e.attributes ∷ l) (firings-are held)

-- where nothing is in use no activity is
pub no-activity : (s : RunState) → HasNothingClosed s → HasNoActivityClosed s
no-activity s nothing = λ h. none s.activities (nothing h Activity)
  where
    none : (rows : List ActivityRow) → map (λ (r : ActivityRow). r.opened) rows ≡ [] → rows ≡ []
    none [] is = refl
    none (r ∷ rows) is = absurd (cc)

-- the id of a pending timer, as it is read of the history
pub timer-found : (s : RunState) (id : ℕ) (events : List Event) (found : Option (List ℕ)) → HasTimer s id → AreShown s.shown s.timers → events ≡ s.shown → found ≡ started_timer (event_at id events) → found ≡ Some (timer_name s id)
timer-found s id events found pending shown is read = read ∙ ap (λ es. started_timer (event_at id es)) is ∙ timer-read s id pending shown
