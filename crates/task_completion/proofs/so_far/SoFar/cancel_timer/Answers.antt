use Rattle.std.proofs.Common.{rules, ◌≡◌, ◌∙◌, ℕ, sym, ap, not, filter, ◌==◌, List, [], ◌∷◌, ◌++◌}
use Rattle.std.specs.Prelude.{Option, Some, Ok}
use Rattle.std.proofs.lemmas.Fn.{filter_same}
use Rattle.wf_event.specs.declared.attributes.Attributes.{Attributes}
use Rattle.wf_event.specs.declared.attributes.Attributes.TheVariants.{TimerCanceled}
use Rattle.mutable_state.specs.Readers.{UsedRow}
use Rattle.task_completion.specs.Judging.{Kept, After, event_named, is_firing_of, timer_canceled}
use Rattle.task_completion.proofs.so_far.SoFar.cancel_timer.Goals as goal

pub returns : goal.returns
returns c =
    let a = c.self.inside in
    let id = c.args.timer_id.now in
    let started = c.in-Some.started in
    let k : Kept = record { setup = a.setup.now; next = a.next; began = a.started.now; facts = a.facts.items; is_closed = a.is_closed; first = a.first; timers = a.timers; activities = a.activities; notes = a.notes.items; held = a.held.items; outward = a.outward } in
    let named : event_named id a.timers ≡ Some started = sym c.event_named.ensures ∙ c.in-Some.is in
    let same : c.in_ok-timer_id.timer_id ≡ id = search rules in
    let facts : c.push.new.self.items ≡ a.facts.items ++ TimerCanceled (record { timer_id = id; started = started }) ∷ [] =
    c.in_ok-push.ensures.items ∙ ap (λ n. a.facts.items ++ TimerCanceled (record { timer_id = n; started = started }) ∷ []) same in
    let held : c.retain.new.self.items ≡ filter (λ f. not (is_firing_of started f)) a.held.items = filter_same _ (λ f. not (is_firing_of started f)) _ (λ x b q h. search rules) _ _ c.retain.ensures.filtered in
    let made : List Attributes → List UsedRow → List (Option ℕ) → After = λ fs ts hs. Ok (record { setup = a.setup.now; next = a.next; began = a.started.now; facts = fs; is_closed = a.is_closed; first = a.first; timers = ts; activities = a.activities; notes = a.notes.items; held = hs; outward = a.outward }) in
    sym (ap (λ fs. made fs c.remove.new.self c.retain.new.self.items) facts
    ∙ ap (λ ts. made (a.facts.items ++ TimerCanceled (record { timer_id = id; started = started }) ∷ []) ts c.retain.new.self.items) c.remove.ensures
    ∙ ap (made (a.facts.items ++ TimerCanceled (record { timer_id = id; started = started }) ∷ []) (filter (λ (r : UsedRow). not (r.event == started)) a.timers)) held
    ∙ ap (λ o. timer_canceled id o k) (sym named)
    ∙ ap (λ (v : Kept). timer_canceled id (event_named id v.timers) v) c.self.view_is)
