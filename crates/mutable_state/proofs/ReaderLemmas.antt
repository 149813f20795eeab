-- what a run's readers answer, by what is kept of it
use Rattle.std.proofs.Common.{◌≡◌, ℕ, ◌+◌, ◌<◌, Bool, true, false, cond, List, [], ◌∷◌, ◌++◌, length, take, append-nil, refl, sym, ap, ◌∙◌, subst, Option, Some, None}
use Rattle.std.specs.Prelude.{map, filter_map, option_map}
use Rattle.std.specs.List.{AllByRecursion, cons_option}
use Rattle.std.proofs.Math.ListN.{get_or}
use Rattle.std.proofs.lemmas.List.{take_more}
use Rattle.std.proofs.lemmas.List.Elements.{filter_map-append}
use Rattle.wf_event.specs.declared.event.Event.{Event}
use Rattle.wf_event.specs.declared.role.Class.{Class}
use Rattle.wf_event_values.specs.declared.policies.Status.{Status}
use Rattle.service_model_types.specs.declared.journal.CancelRequest.{CancelRequest}
use Rattle.service_model.specs.Pending.{is_settled}
use Rattle.buffered.specs.Buffers.{Buffer}
use Rattle.mutable_state.specs.declared.open.Open.{Open}
use Rattle.mutable_state.specs.declared.task.WorkflowTask.{WorkflowTask}
use Rattle.mutable_state.specs.Formed.{IsFromOutside, IdsTo}
use Rattle.mutable_state.specs.Opens.{event_at, is_of, used_in, AgreesWith}
use Rattle.mutable_state.specs.Readers.{UsedRow, name_of, used_row, used_at, used_rows, IsGrounded}
use Rattle.mutable_state.specs.Steps.{carried}
use Rattle.mutable_state.specs.RunView.{state_in}
use Rattle.mutable_state.proofs.KeptLemmas.{Opened, opened-is, used-state, all-used}

-- what is kept of a class is what its events say
pub rows-in : (c : Class) (b : Buffer) (os : List Open) → AllByRecursion (λ (o : Open). o.is_settled ≡ is_settled o.opener.class o.opener.event (carried b.held)) os →
    filter_map (used_at c b.events) os ≡ map (λ (e : Event). record { event = e.id; name = name_of e.attributes; is_settled = is_settled c e.id (carried b.held) }) (used_in c os b.events)
rows-in c b [] marks = refl
rows-in c b (o ∷ os) marks = by_test (is_of c o) refl (event_at o.opener.event b.events) refl (rows-in c b os marks.1)
  where
    row : Event → UsedRow
    row e = record { event = e.id; name = name_of e.attributes; is_settled = is_settled c e.id (carried b.held) }

    kept : Event → UsedRow
    kept e = record { event = o.opener.event; name = name_of e.attributes; is_settled = o.is_settled }

    same : (e : Event) → Opened c o e → kept e ≡ row e
    same e g =
        ap (λ n. record { event = n; name = name_of e.attributes; is_settled = o.is_settled }) (sym g.id_is)
        ∙ ap (λ t. record { event = e.id; name = name_of e.attributes; is_settled = t }) (marks.0 ∙ ap (λ d. is_settled d o.opener.event (carried b.held)) (sym g.class_is) ∙ ap (λ n. is_settled c n (carried b.held)) (sym g.id_is))

    by_test : (t : Bool) → is_of c o ≡ t → (r : Option Event) → event_at o.opener.event b.events ≡ r → filter_map (used_at c b.events) os ≡ map row (used_in c os b.events) →
        cons_option (cond t (option_map kept r) None) (filter_map (used_at c b.events) os) ≡ map row (cons_option (cond t r None) (used_in c os b.events))
    by_test true is None at again = again
    by_test true is (Some e) at again = ap (λ r. r ∷ filter_map (used_at c b.events) os) (same e (opened-is c b.events o e (ap (λ t. cond t (event_at o.opener.event b.events) None) is ∙ at))) ∙ ap (λ l. row e ∷ l) again
    by_test false is r at again = again

-- what is in use of a class, as the run answers it
pub rows-are : (c : Class) (b : Buffer) (request : Option (List ℕ)) (cancel : Option CancelRequest) (status : Status) (t : WorkflowTask) (keys : List (List ℕ)) (os : List Open) → AgreesWith b os → filter_map (used_at c b.events) os ≡ used_rows c (state_in b request cancel status t keys os)
rows-are c b request cancel status t keys os agrees =
    let s = state_in b request cancel status t keys os in
    rows-in c b os agrees.marks ∙ ap (map (used_row c s)) (sym (used-state b request cancel status t keys os c))

pub is-grounded : (b : Buffer) (request : Option (List ℕ)) (cancel : Option CancelRequest) (status : Status) (t : WorkflowTask) (keys : List (List ℕ)) (os : List Open) → AgreesWith b os → AllByRecursion IsFromOutside b.held → IsGrounded (state_in b request cancel status t keys os)
is-grounded b request cancel status t keys os agrees outside = record {
  ids = λ c. subst (IdsTo (length b.events)) (sym (used-state b request cancel status t keys os c)) (all-used c (length b.events) os b.events agrees.ids);
  settled = agrees.grounded;
  outside = outside;
}

-- one more of those that a loop looks at
pub rows-one : {A B : Type 0} (f : A → Option B) (os : List A) (i : ℕ) (d : A) (u : B) → i < length os → f (get_or os i d) ≡ Some u → filter_map f (take (i + 1) os) ≡ filter_map f (take i os) ++ u ∷ []
rows-one f os i d u there is = ap (filter_map f) (take_more os i d there) ∙ filter_map-append f (take i os) (get_or os i d ∷ []) ∙ ap (λ o. filter_map f (take i os) ++ cons_option o []) is

pub rows-none : {A B : Type 0} (f : A → Option B) (os : List A) (i : ℕ) (d : A) → i < length os → f (get_or os i d) ≡ None → filter_map f (take (i + 1) os) ≡ filter_map f (take i os)
rows-none f os i d there is = ap (filter_map f) (take_more os i d there) ∙ filter_map-append f (take i os) (get_or os i d ∷ []) ∙ ap (λ o. filter_map f (take i os) ++ cons_option o []) is ∙ append-nil (filter_map f (take i os))
