-- what is kept of activities, as it is asked for
use Rattle.std.proofs.Common.{◌≡◌, ℕ, Bool, true, false, not, cond, ◌&&◌, ◌==◌, List, [], ◌∷◌, refl, sym, ap, ◌∙◌, subst, Option, Some, None, IsSome}
use Rattle.std.specs.Prelude.{filter_map, find, map, option_map, option_and_then, unwrap_or}
use Rattle.std.specs.List.{AllByRecursion, cons_option}
use Rattle.wf_event.specs.declared.event.Event.{Event}
use Rattle.wf_event.specs.declared.attributes.Attributes.{Attributes}
use Rattle.wf_event.specs.declared.role.Class.TheVariants.{Activity}
use Rattle.wf_event.specs.Role.{Role, Closes, role, is_closing_role, is_outside_role, opens, settles, closing_status, class_number}
use Rattle.wf_event_values.specs.declared.policies.Status.{Status}
use Rattle.service_model_types.specs.declared.journal.CancelRequest.{CancelRequest}
use Rattle.service_model_types.specs.declared.journal.Note.{Note}
use Rattle.service_model_types.specs.declared.journal.Note.TheVariants.{Taken, Ended, Ready, Beat}
use Rattle.service_model_types.specs.declared.journal.NoteFact.{NoteFact}
use Rattle.service_model.specs.Pending.{Task, is_settled}
use Rattle.service_model.specs.RunState.{ActivityRow, is_open_status}
use Rattle.service_model.specs.Tasks.{pending_row, is_started_task}
use Rattle.buffered.specs.Buffers.{Buffer, event_at}
use Rattle.mutable_state.specs.declared.open.Open.{Open}
use Rattle.mutable_state.specs.declared.task.WorkflowTask.{WorkflowTask}
use Rattle.mutable_state.specs.Activities.{is_activity, noted_activity, noted_activities, activity_at}
use Rattle.mutable_state.specs.Noted.{kept_row}
use Rattle.mutable_state.specs.PendingRows.{OpenedThing, pending_at, kept_pending}
use Rattle.mutable_state.specs.Opens.{MayAddTo, MayNote, is_of, activity_of, opened_at, row_at, rows_in, open_with, marked, unmarked, added, without, AgreesWith}
use Rattle.mutable_state.specs.Steps.{IsNotLast, MayEnd, carried, comes_last}
use Rattle.mutable_state.specs.RunView.{state_in}
use Rattle.mutable_state.proofs.AddLemmas.{closes_by, closing-is}
use Rattle.mutable_state.proofs.OpenLemmas.{same-as}
use Rattle.mutable_state.proofs.KeptLemmas.{find-passes, eq-back, one-is}

-- the first row under an id is that of the first thing that is the activity
find-row : (id : ℕ) (es : List Event) (os : List Open) → AllByRecursion (λ (o : Open). IsSome (event_at o.opener.event es)) os →
    find (λ (r : ActivityRow). r.opened.id == id) (rows_in os es) ≡ option_and_then (row_at es) (find (is_activity id) os)
find-row id es [] h = refl
find-row id es (o ∷ os) h = by_class (is_of Activity o) refl (event_at o.opener.event es) refl h.0 (find-row id es os h.1)
  where
    is_row : ActivityRow → Bool
    is_row r = r.opened.id == id

    Goal : Option Event → Type 0
    Goal q = find is_row (cons_option (option_map (kept_row o.notes) q) (rows_in os es)) ≡ option_and_then (row_at es) (cond (is_activity id o) (Some o) (find (is_activity id) os))

    by_one : (e : Event) → opened_at Activity es o ≡ Some e → (b : Bool) → is_activity id o ≡ b → find is_row (rows_in os es) ≡ option_and_then (row_at es) (find (is_activity id) os) →
        cond (e.id == id) (Some (kept_row o.notes e)) (find is_row (rows_in os es)) ≡ option_and_then (row_at es) (cond b (Some o) (find (is_activity id) os))
    by_one e at true is again =
        ap (λ t. cond t (Some (kept_row o.notes e)) (find is_row (rows_in os es))) (eq-back e.id id ∙ sym (one-is id es o e at) ∙ is)
        ∙ sym (ap (option_map (kept_row o.notes)) at)
    by_one e at false is again =
        ap (λ t. cond t (Some (kept_row o.notes e)) (find is_row (rows_in os es))) (eq-back e.id id ∙ sym (one-is id es o e at) ∙ is)
        ∙ again

    by_class : (t : Bool) → is_of Activity o ≡ t → (r : Option Event) → event_at o.opener.event es ≡ r → IsSome r → find is_row (rows_in os es) ≡ option_and_then (row_at es) (find (is_activity id) os) → Goal (opened_at Activity es o)
    by_class true is None at some again = absurd (cc)
    by_class true is (Some e) at some again =
        let here : opened_at Activity es o ≡ Some e = ap (λ t. cond t (event_at o.opener.event es) None) is ∙ at in
        subst Goal (sym here) (by_one e here (is_activity id o) refl again)
    by_class false is r at some again =
        let gone : opened_at Activity es o ≡ None = ap (λ t. cond t (event_at o.opener.event es) None) is in
        let other : is_activity id o ≡ false = ap (λ t. t && (o.opener.event == id)) (eq-back (class_number o.opener.class) (class_number Activity) ∙ is) in
        subst Goal (sym gone) (again ∙ ap (λ b. option_and_then (row_at es) (cond b (Some o) (find (is_activity id) os))) (sym other))

-- what is pending of what this activity is, as its row
abbrev row_in : OpenedThing → ActivityRow
row_in v = kept_row v.notes v.event

pub pending-activity : (b : Buffer) (request : Option (List ℕ)) (cancel : Option CancelRequest) (status : Status) (t : WorkflowTask) (keys : List (List ℕ)) (os : List Open) (id : ℕ) → AgreesWith b os →
    option_map row_in (kept_pending b.events os (activity_of id)) ≡ pending_row (state_in b request cancel status t keys os) id
pending-activity b request cancel status t keys os id h =
    by_find (find (is_activity id) os) refl
    ∙ ap (cond (is_settled Activity id (carried b.held)) None) (sym (find-row id b.events os h.there))
  where
    Mark : Open → Type 0
    Mark o = o.is_settled ≡ is_settled o.opener.class o.opener.event (carried b.held)

    none : (t : Bool) → ◌≡◌ {A = Option ActivityRow} None (cond t None None)
    none true = refl
    none false = refl

    inside : (o : Open) (t : Bool) (q : Option Event) → option_map row_in (cond t None (option_map (λ (e : Event). record { event = e; notes = o.notes }) q)) ≡ cond t None (option_map (kept_row o.notes) q)
    inside o true q = refl
    inside o false None = refl
    inside o false (Some e) = refl

    by_find : (f : Option Open) → find (is_activity id) os ≡ f → option_map row_in (option_and_then (pending_at b.events id) f) ≡ cond (is_settled Activity id (carried b.held)) None (option_and_then (row_at b.events) f)
    by_find None is = none (is_settled Activity id (carried b.held))
    by_find (Some o) is =
        let f = find-passes Mark (is_activity id) os o h.marks is in
        let s = same-as o.opener.class o.opener.event (activity_of id) f.1 in
        let mark : o.is_settled ≡ is_settled Activity id (carried b.held) = f.0 ∙ ap (λ c. is_settled c o.opener.event (carried b.held)) s.class_is ∙ ap (λ n. is_settled Activity n (carried b.held)) s.id_is in
        let of_class : is_of Activity o ≡ true = ap (λ c. class_number Activity == class_number c) s.class_is in
        inside o o.is_settled (event_at id b.events)
        ∙ ap (λ t. cond t None (option_map (kept_row o.notes) (event_at id b.events))) mark
        ∙ ap (λ q. cond (is_settled Activity id (carried b.held)) None (option_map (kept_row o.notes) q))
        (ap (λ n. event_at n b.events) (sym s.id_is) ∙ sym (ap (λ t. cond t (event_at o.opener.event b.events) None) of_class))

-- a note that may come may be made on what is kept
row-kept : (es : List Event) (id : ℕ) (o : Open) → is_activity id o ≡ true → IsSome (event_at o.opener.event es) → IsNotLast (row_at es o) → (o.notes.attempt == 4294967295) ≡ false
row-kept es id o one there may = by_event (event_at o.opener.event es) refl there
  where
    of_class : is_of Activity o ≡ true
    of_class = ap (λ c. class_number Activity == class_number c) (same-as o.opener.class o.opener.event (activity_of id) one).class_is

    by_event : (q : Option Event) → event_at o.opener.event es ≡ q → IsSome q → (o.notes.attempt == 4294967295) ≡ false
    by_event None at some = absurd (cc)
    by_event (Some e) at some =
        let here : row_at es o ≡ Some (kept_row o.notes e) = ap (option_map (kept_row o.notes)) (ap (λ t. cond t (event_at o.opener.event es) None) of_class ∙ at) in
        subst IsNotLast here may

pub may-note : (b : Buffer) (request : Option (List ℕ)) (cancel : Option CancelRequest) (status : Status) (t : WorkflowTask) (keys : List (List ℕ)) (os : List Open) (n : NoteFact) → AgreesWith b os →
    MayEnd n.note n.activity (state_in b request cancel status t keys os) → MayNote n os
may-note b request cancel status t keys os n h = by_find (find (is_activity n.activity) os) refl n.note
  where
    There : Open → Type 0
    There o = IsSome (event_at o.opener.event b.events)

    by_find : (f : Option Open) → find (is_activity n.activity) os ≡ f → (note : Note) → MayEnd note n.activity (state_in b request cancel status t keys os) → MayAddTo (record { activity = n.activity; note = note }) f
    by_find None is note may = tt
    by_find (Some o) is Ended may =
        let f = find-passes There (is_activity n.activity) os o h.there is in
        row-kept b.events n.activity o f.1 f.0 (subst IsNotLast (find-row n.activity b.events os h.there ∙ ap (option_and_then (row_at b.events)) is) may)
    by_find (Some o) is Taken may = tt
    by_find (Some o) is Ready may = tt
    by_find (Some o) is (Beat details) may = tt

-- nothing is in use in a run that an event closes
rows-closing : (t : Task) (a : Attributes) (n : ℕ) (os : List Open) → is_closing_role (role a) ≡ true → open_with t a n os ≡ []
rows-closing t a n os closes =
    ap (λ b. cond b (marked (settles a) os) (cond (is_closing_role (role a)) [] rest)) (not-held (role a) closes)
    ∙ ap (λ b. cond b [] rest) closes
  where
    rest : List Open
    rest = added (opens a) n (without (settles a) (cond (comes_last t a) (unmarked os) os))

    and-no : (b : Bool) → (b && false) ≡ false
    and-no true = refl
    and-no false = refl

    not-held : (r : Role) → is_closing_role r ≡ true → (is_started_task t && is_outside_role r) ≡ false
    not-held Closes h = and-no (is_started_task t)
    not-held _ h = absurd (cc)

pub rows-after : (t : Task) (a : Attributes) (status : Status) (n : ℕ) (os : List Open) → is_open_status status ≡ true → is_open_status (unwrap_or (closing_status a) status) ≡ false → open_with t a n os ≡ []
unfolding closes_by
rows-after t a status n os opened closed = rows-closing t a n os (closing-is a ∙ by_status (closing_status a) closed)
  where
    by_status : (o : Option Status) → is_open_status (unwrap_or o status) ≡ false → closes_by o ≡ true
    by_status None h = absurd (cc (opened, h))
    by_status (Some k) h = ap not h

-- what is noted of the activities in use
noted-rows : (es : List Event) (os : List Open) → filter_map (activity_at es) os ≡ map noted_activity (rows_in os es)
noted-rows es [] = refl
noted-rows es (o ∷ os) = by_row (row_at es o) (noted-rows es os)
  where
    by_row : (r : Option ActivityRow) → filter_map (activity_at es) os ≡ map noted_activity (rows_in os es) → cons_option (option_map noted_activity r) (filter_map (activity_at es) os) ≡ map noted_activity (cons_option r (rows_in os es))
    by_row None again = again
    by_row (Some r) again = ap (λ l. noted_activity r ∷ l) again

pub noted-are : (b : Buffer) (request : Option (List ℕ)) (cancel : Option CancelRequest) (status : Status) (t : WorkflowTask) (keys : List (List ℕ)) (os : List Open) → filter_map (activity_at b.events) os ≡ noted_activities (state_in b request cancel status t keys os)
noted-are b request cancel status t keys os = noted-rows b.events os
