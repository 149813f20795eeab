use Rattle.std.proofs.Common.{◌≡◌, ◌∙◌, sym, ap, true, List, [], ◌∷◌, ◌++◌, append_assoc}
use Rattle.wf_event.specs.declared.attributes.Attributes.{Attributes}
use Rattle.wf_event.specs.declared.attributes.Attributes.TheVariants.{ActivityTaskCancelRequested, ActivityTaskCanceled}
use Rattle.service_model.specs.Completion.{cancel_facts}
use Rattle.mutable_state.specs.Readers.{UsedRow}
use Rattle.task_completion.specs.Judging.{Kept, cancel_asked}
use Rattle.task_completion.proofs.so_far.SoFar.ask_to_cancel.Goals as goal

pub returns : goal.returns
returns c =
    let a = c.self.inside in
    let id = c.args.scheduled in
    let k : Kept = record { setup = a.setup.now; next = a.next; began = a.started.now; facts = a.facts.items; is_closed = a.is_closed; first = a.first; timers = a.timers; activities = a.activities; notes = a.notes.items; held = a.held.items; outward = a.outward } in
    let asked : c.push.new.self.items ≡ a.facts.items ++ ActivityTaskCancelRequested id ∷ [] = c.in_ok-push.ensures.items in
    let facts : c.push-2.new.self.items ≡ a.facts.items ++ cancel_facts id true =
    c.in_ok-push-2.ensures.items
    ∙ ap (λ d. c.push.new.self.items ++ ActivityTaskCanceled (record { scheduled = id; details = d }) ∷ []) c.empty-details.ensures
    ∙ ap (λ l. l ++ ActivityTaskCanceled (record { scheduled = id; details = [] }) ∷ []) asked
    ∙ append_assoc a.facts.items (ActivityTaskCancelRequested id ∷ []) (ActivityTaskCanceled (record { scheduled = id; details = [] }) ∷ []) in
    let made : List Attributes → List UsedRow → Kept = λ fs rs. record { setup = a.setup.now; next = a.next; began = a.started.now; facts = fs; is_closed = a.is_closed; first = a.first; timers = a.timers; activities = rs; notes = a.notes.items; held = a.held.items; outward = a.outward } in
    ap (λ fs. made fs c.remove.new.self) facts
    ∙ ap (made (a.facts.items ++ cancel_facts id true)) c.remove.ensures
    ∙ ap (λ b. cancel_asked id b k) (sym c.if-not-at_once.false)
    ∙ ap (cancel_asked id c.args.at_once) c.self.view_is
