-- a pending timer, by the event that started it
use Rattle.std.proofs.Common.{◌≡◌, ℕ, zero, suc, Bool, true, false, cond, ◌==◌, List, [], ◌∷◌, refl, sym, ap, ◌∙◌, subst, Option, Some, None}
use Rattle.std.specs.Prelude.{not, filter, find, slice_get, unwrap_or}
use Rattle.std.specs.Option.{option_map_or}
use Rattle.std.specs.List.{cons_option}
use Rattle.wf_event.specs.declared.event.Event.{Event}
use Rattle.wf_event.specs.declared.role.Class.{Class}
use Rattle.wf_event.specs.declared.role.Class.TheVariants.{Timer}
use Rattle.service_model.specs.Pending.{is_settled}
use Rattle.service_model.specs.RunState.{RunState, held_attributes}
use Rattle.service_model.specs.TimerTurns.{timer_id_in, timer_name}
use Rattle.buffered.specs.Buffers.{event_at}
use Rattle.timeouts.specs.Firsts.{HasTimer}
use Rattle.mutable_state.specs.declared.open.Open.{Open}
use Rattle.mutable_state.specs.Opens.{is_of, opened_at, used_in}
use Rattle.mutable_state.specs.Readers.{AreShown, started_timer}
use Rattle.mutable_state.proofs.KeptLemmas.{opened-is}
use Rattle.mutable_state.proofs.OpenLemmas.{nat-self, nat-same}

-- what is kept of a class is shown
pub kept-shown : (c : Class) (os : List Open) (es : List Event) → AreShown es (used_in c os es)
kept-shown c [] es = tt
kept-shown c (o ∷ os) es = by_option (opened_at c es o) refl (kept-shown c os es)
  where
    there : (e : Event) (b : Bool) → cond b (event_at o.opener.event es) None ≡ Some e → event_at o.opener.event es ≡ Some e
    there e true is = is
    there e false is = absurd (cc)

    by_option : (r : Option Event) → opened_at c es o ≡ r → AreShown es (used_in c os es) → AreShown es (cons_option r (used_in c os es))
    by_option None is rest = rest
    by_option (Some e) is rest = (ap (λ n. event_at n es) (opened-is c es o e is).id_is ∙ there e (is_of c o) is, rest)

some-same : (a b : Event) → ◌≡◌ {A = Option Event} (Some a) (Some b) → a ≡ b
some-same a b e = ap (λ o. unwrap_or o a) e

record Member (e : Event) (es : List Event) : Type 0 where
  place : ℕ
  is : slice_get es place ≡ Some e

passed : (p : Event → Bool) (es : List Event) (k : ℕ) (e : Event) → slice_get (filter p es) k ≡ Some e → Member e es
passed p [] k e there = absurd (cc)
passed p (x ∷ es) k e there = by_test (p x) k (λ n is. passed p es n e is) there
  where
    by_test : (b : Bool) (n : ℕ) → ((m : ℕ) → slice_get (filter p es) m ≡ Some e → Member e es) → slice_get (cond b (x ∷ filter p es) (filter p es)) n ≡ Some e → Member e (x ∷ es)
    by_test true zero again is = record { place = 0; is = is }
    by_test true (suc n) again is = let m = again n is in record { place = suc m.place; is = m.is }
    by_test false n again is = let m = again n is in record { place = suc m.place; is = m.is }

shown-at : (es used : List Event) (k : ℕ) (e : Event) → AreShown es used → slice_get used k ≡ Some e → event_at e.id es ≡ Some e
shown-at es [] k e h there = absurd (cc)
shown-at es (x ∷ used) zero e h there = let same = some-same x e there in subst (λ (y : Event). event_at y.id es ≡ Some y) same h.0
shown-at es (x ∷ used) (suc k) e h there = shown-at es used k e h.1 there

-- of those that are shown only one has an id
found-one : (es used : List Event) (k : ℕ) (e : Event) → AreShown es used → event_at e.id es ≡ Some e → slice_get used k ≡ Some e → find (λ (x : Event). x.id == e.id) used ≡ Some e
found-one es [] k e h shown there = absurd (cc)
found-one es (x ∷ used) zero e h shown there =
    let same : x ≡ e = some-same x e there in
    ap (λ b. cond b (Some x) (find (λ (y : Event). y.id == e.id) used)) (ap (λ (y : Event). y.id == e.id) same ∙ nat-self e.id) ∙ ap Some same
found-one es (x ∷ used) (suc k) e h shown there = by_test (x.id == e.id) refl (found-one es used k e h.1 shown there)
  where
    by_test : (b : Bool) → (x.id == e.id) ≡ b → find (λ (y : Event). y.id == e.id) used ≡ Some e → cond b (Some x) (find (λ (y : Event). y.id == e.id) used) ≡ Some e
    by_test true is rest = sym h.0 ∙ ap (λ n. event_at n es) (nat-same x.id e.id is) ∙ shown
    by_test false is rest = rest

-- the event that started a pending timer is the history's with that id
pub timer-shown : (s : RunState) (id : ℕ) (h : HasTimer s id) → AreShown s.shown s.timers → event_at id s.shown ≡ Some h.event
timer-shown s id h shown =
    let m = passed (λ (e : Event). not (is_settled Timer e.id (held_attributes s))) s.timers h.place h.event h.there in
    ap (λ n. event_at n s.shown) (sym h.named) ∙ shown-at s.shown s.timers m.place h.event shown m.is

-- and its name is what that event says
pub timer-named : (s : RunState) (id : ℕ) (h : HasTimer s id) → AreShown s.shown s.timers → timer_name s id ≡ h.timer.timer_id
timer-named s id h shown =
    let m = passed (λ (e : Event). not (is_settled Timer e.id (held_attributes s))) s.timers h.place h.event h.there in
    let one = found-one s.shown s.timers m.place h.event shown (shown-at s.shown s.timers m.place h.event shown m.is) m.is in
    ap (λ n. option_map_or (λ (e : Event). timer_id_in e.attributes) (find (λ (e : Event). e.id == n) s.timers) []) (sym h.named)
    ∙ ap (λ o. option_map_or (λ (e : Event). timer_id_in e.attributes) o []) one
    ∙ ap timer_id_in h.starts

-- so what the history says under the id is the timer's name
pub timer-read : (s : RunState) (id : ℕ) → HasTimer s id → AreShown s.shown s.timers → started_timer (event_at id s.shown) ≡ Some (timer_name s id)
timer-read s id h shown = ap started_timer (timer-shown s id h shown) ∙ ap (λ a. started_timer (Some (record { id = h.event.id; at = h.event.at; attributes = a }))) h.starts ∙ ap Some (sym (timer-named s id h shown))
