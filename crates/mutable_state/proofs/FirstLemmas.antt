-- the first deadline of each thing that is kept, and of all
use Rattle.std.proofs.Common.{◌≡◌, ℕ, ◌+◌, Bool, true, false, cond, not, ◌&&◌, ◌==◌, List, [], ◌∷◌, ◌++◌, refl, sym, ap, ◌∙◌, subst, append-nil, append_assoc, IsSome, arith, inl, inr, length}
use Rattle.std.specs.List.{AllByRecursion}
use Rattle.std.specs.Prelude.{Option, Some, None, option_map, option_to_list, flat_map, map, is_some, nat_lt, unwrap_or, ◌||◌}
use Rattle.std.proofs.lemmas.Bool.Decides.{nat_tests}
use Rattle.wf_event.specs.declared.event.Event.{Event}
use Rattle.wf_event.specs.declared.attributes.Attributes.{Attributes}
use Rattle.wf_event.specs.declared.attributes.Attributes.TheVariants.{TimerStarted}
use Rattle.wf_event.specs.declared.payloads.ActivityTaskScheduled.{ActivityTaskScheduled as ScheduledAttributes}
use Rattle.wf_event.specs.declared.role.Class.TheVariants.{Activity, Timer}
use Rattle.wf_event.specs.Role.{Role, TimerCancels, role}
use Rattle.wf_event_values.specs.declared.policies.DeadlineClass.{DeadlineClass}
use Rattle.wf_event_values.specs.declared.policies.DeadlineClass.TheVariants.{ScheduleToClose, ScheduleToStart, Heartbeat, StartToClose, UserTimer}
use Rattle.service_model_types.specs.declared.journal.NewEvent.{NewEvent}
use Rattle.service_model.specs.Deadlines.{Due, due_after, by_phase, row_dues, scheduled_fields, activity_dues, timer_dues}
use Rattle.service_model.specs.Pending.{Task, Phase, IsQueued, IsRunning, IsWaiting}
use Rattle.service_model.specs.RunState.{ActivityRow}
use Rattle.service_model.specs.TimerTurns.{RunDue, is_before, lesser, least, class_place}
use Rattle.timeouts.specs.declared.due.Due.{Due as Kept}
use Rattle.timeouts.specs.Firsts.{of_run, first_of}
use Rattle.timeouts.specs.Slots.{run_due, lesser_of_two, IsOneOf}
use Rattle.timeouts.proofs.FirstLemmas.{first_of-append, either as one-either}
use Rattle.timeouts.proofs.LeastLemmas.{least-append, least-fires, least-is, least-none, one-left, one-right, all_of_members as all-of}
use Rattle.buffered.specs.Buffers.{Buffer, event_at, with_ids, with_id, pushed, flushed, held_back}
use Rattle.mutable_state.specs.declared.notes.Notes.{Notes}
use Rattle.mutable_state.specs.declared.open.Open.{Open}
use Rattle.mutable_state.specs.Dues.{dues_of, kept_dues, activity_dues_of, kept_activity_dues, first_in}
use Rattle.mutable_state.specs.Dues as kept
use Rattle.mutable_state.specs.Filed.{all_firsts, with_run, IsOfEvent, KeepsDues}
use Rattle.mutable_state.specs.Noted.{kept_row}
use Rattle.mutable_state.specs.Opens.{OpenRows, is_unmarked, is_of, is_pending_of}
use Rattle.mutable_state.specs.Rows.{asked_one}
use Rattle.mutable_state.specs.Steps.{unheld_by, is_held_back, comes_last, with_new}
use Rattle.mutable_state.proofs.KeptLemmas.{event-more, find-passes}
use Rattle.mutable_state.proofs.OpenLemmas.{nat-same}

-- whose event a deadline names

abbrev pub AreNamed : ℕ → List Due → Type 0
AreNamed id ds = AllByRecursion (λ (d : Due). d.event ≡ id) ds

both-named : (id : ℕ) (xs ys : List Due) → AreNamed id xs → AreNamed id ys → AreNamed id (xs ++ ys)
both-named id [] ys a b = b
both-named id (x ∷ xs) ys a b = (a.0, both-named id xs ys a.1 b)

after-named : (moment duration : ℕ) (c : DeadlineClass) (id : ℕ) → AreNamed id (due_after moment duration c id)
after-named moment duration c id = by (duration == 0)
  where
    by : (b : Bool) → AreNamed id (cond b [] (record { due = moment + duration; class = c; event = id } ∷ []))
    by true = tt
    by false = (refl, tt)

phase-named : (r : ActivityRow) (a : ScheduledAttributes) (p : Phase) → AreNamed r.opened.id (by_phase r a p)
phase-named r a IsQueued = after-named (unwrap_or r.ready r.opened.at) a.schedule_to_start ScheduleToStart r.opened.id
phase-named r a IsRunning =
    let beat = unwrap_or r.sign_of_life r.opened.at in
    let taken = unwrap_or r.taken r.opened.at in
    both-named r.opened.id (due_after beat a.heartbeat Heartbeat r.opened.id) (due_after taken a.start_to_close StartToClose r.opened.id)
    (after-named beat a.heartbeat Heartbeat r.opened.id) (after-named taken a.start_to_close StartToClose r.opened.id)
phase-named r a IsWaiting = (refl, tt)

row-named : (r : ActivityRow) (o : Option ScheduledAttributes) → AreNamed r.opened.id (row_dues r o)
row-named r None = tt
row-named r (Some a) = both-named r.opened.id (due_after r.opened.at a.schedule_to_close ScheduleToClose r.opened.id) (by_phase r a r.phase) (after-named r.opened.at a.schedule_to_close ScheduleToClose r.opened.id) (phase-named r a r.phase)

timer-by : (id at : ℕ) (a : Attributes) → AreNamed id (timer_dues (record { id = id; at = at; attributes = a }))
timer-by id at (TimerStarted a) = after-named at a.duration UserTimer id
timer-by id at _ = tt

-- those of an event that was found, or none
activity-named : (n : Notes) (id : ℕ) (o : Option Event) → ((e : Event) → o ≡ Some e → e.id ≡ id) → AreNamed id (activity_dues_of n o)
activity-named n id None is = tt
activity-named n id (Some e) is = subst (λ k. AreNamed k (activity_dues (kept_row n e))) (is e refl) (row-named (kept_row n e) (scheduled_fields e.attributes))

timer-named : (id : ℕ) (o : Option Event) → ((e : Event) → o ≡ Some e → e.id ≡ id) → AreNamed id (dues_of o)
timer-named id None is = tt
timer-named id (Some e) is = subst (λ k. AreNamed k (timer_dues e)) (is e refl) (timer-by e.id e.at e.attributes)

where-named : (id : ℕ) (b : Bool) (ds : List Due) → AreNamed id ds → AreNamed id (cond b ds [])
where-named id true ds h = h
where-named id false ds h = tt

found-id : (id : ℕ) (es : List Event) (e : Event) → event_at id es ≡ Some e → e.id ≡ id
found-id id es e is = nat-same e.id id (find-passes (λ (x : Event). Unit {0}) (λ (x : Event). x.id == id) es e (all es) is).1
  where
    all : (es : List Event) → AllByRecursion (λ (x : Event). Unit {0}) es
    all [] = tt
    all (x ∷ es) = (tt, all es)

all-named : (es : List Event) (o : Open) → AreNamed o.opener.event (kept.row_dues es o)
all-named es o = both-named o.opener.event (kept_activity_dues es o) (kept_dues es o)
    (where-named o.opener.event (is_pending_of Activity o) (activity_dues_of o.notes (event_at o.opener.event es)) (activity-named o.notes o.opener.event (event_at o.opener.event es) (found-id o.opener.event es)))
    (where-named o.opener.event (is_pending_of Timer o) (dues_of (event_at o.opener.event es)) (timer-named o.opener.event (event_at o.opener.event es) (found-id o.opener.event es)))

one-named : (n id : ℕ) (ds : List Due) (x : RunDue) → AreNamed id ds → IsOneOf x (of_run n ds) → x.at.event ≡ id
one-named n id [] x h one = absurd one
one-named n id (d ∷ ds) x h (inl is) = ap (λ (y : RunDue). y.at.event) is ∙ h.0
one-named n id (d ∷ ds) x h (inr rest) = one-named n id ds x h.1 rest

-- the first one names the event
pub named-first : (es : List Event) (o : Open) (r : Option Kept) → option_map run_due r ≡ first_in es o → IsOfEvent o.opener.event r
named-first es o None is = tt
named-first es o (Some d) is = one-named 0 o.opener.event (kept.row_dues es o) (run_due d) (all-named es o) (least-fires (of_run 0 (kept.row_dues es o)) (run_due d) (sym is)).0

-- what is settled has none
pub settled-none : (es : List Event) (o : Open) → o.is_settled ≡ true → first_in es o ≡ None
unfolding least
settled-none es o is =
    ap (λ b. first_of 0 (cond (not b && is_of Activity o) (activity_dues_of o.notes (event_at o.opener.event es)) [] ++ cond (not b && is_of Timer o) (dues_of (event_at o.opener.event es)) [])) is

pub unmarked-some : (es : List Event) (o : Open) → is_some (first_in es o) ≡ true → is_unmarked o ≡ true
unmarked-some es o some = by o.is_settled refl
  where
    by : (b : Bool) → o.is_settled ≡ b → not o.is_settled ≡ true
    by true is = absurd (let clash : false ≡ true = sym (ap is_some (settled-none es o is)) ∙ some in cc)
    by false is = ap not is

-- a request to cancel changes none
phase-asked : (n : Notes) (e : Event) (a : ScheduledAttributes) (p : Phase) → by_phase (kept_row (record n { cancel_requested = true }) e) a p ≡ by_phase (kept_row n e) a p
phase-asked n e a IsQueued = refl
phase-asked n e a IsRunning = refl
phase-asked n e a IsWaiting = refl

fields-asked : (n : Notes) (e : Event) (s : Option ScheduledAttributes) → row_dues (kept_row (record n { cancel_requested = true }) e) s ≡ row_dues (kept_row n e) s
fields-asked n e None = refl
fields-asked n e (Some a) = ap (λ l. due_after e.at a.schedule_to_close ScheduleToClose e.id ++ l) (phase-asked n e a n.phase)

activity-asked : (n : Notes) (o : Option Event) → activity_dues_of (record n { cancel_requested = true }) o ≡ activity_dues_of n o
activity-asked n None = refl
activity-asked n (Some e) = fields-asked n e (scheduled_fields e.attributes)

pub asked-first : (es : List Event) (o : Open) → first_in es (asked_one o) ≡ first_in es o
asked-first es o = ap (λ l. first_of 0 (cond (is_pending_of Activity o) l [] ++ kept_dues es o)) (activity-asked o.notes (event_at o.opener.event es))

-- a history that goes on changes none
grown-first : (es more : List Event) (o : Open) → IsSome (event_at o.opener.event es) → first_in es o ≡ first_in (es ++ more) o
grown-first es more o there =
    ap (λ e. first_of 0 (cond (is_pending_of Activity o) (activity_dues_of o.notes e) [] ++ cond (is_pending_of Timer o) (dues_of e) [])) (sym (event-more o.opener.event es more there))

pub grown-firsts : (es more : List Event) (os : List Open) → AllByRecursion (λ (o : Open). IsSome (event_at o.opener.event es)) os → map (first_in es) os ≡ map (first_in (es ++ more)) os
grown-firsts es more [] there = refl
grown-firsts es more (o ∷ os) there = ap (λ f. f ∷ map (first_in es) os) (grown-first es more o there.0) ∙ ap (λ l. first_in (es ++ more) o ∷ l) (grown-firsts es more os there.1)

pub keeps-grown : (es es' : List Event) (v : OpenRows) → AllByRecursion (λ (o : Open). IsSome (event_at o.opener.event es)) v.rows → (more : List Event) × (es' ≡ es ++ more) → KeepsDues es v → KeepsDues es' v
keeps-grown es es' v there (more, is) h = h ∙ grown-firsts es more v.rows there ∙ ap (λ l. map (first_in l) v.rows) (sym is)

pub flush-grows : (b : Buffer) → (more : List Event) × ((flushed b).events ≡ b.events ++ more)
flush-grows b = (with_ids (length b.events + 1) b.held, refl)

pub new-grows : (t : Task) (e : NewEvent) (b : Buffer) → (more : List Event) × ((with_new t e b).events ≡ b.events ++ more)
new-grows t e b = by (is_held_back t e.attributes) (comes_last t e.attributes)
  where
    pushes : (c : Buffer) → c.events ≡ b.events → (more : List Event) × ((pushed c e).events ≡ b.events ++ more)
    pushes c same = (with_id (length c.events + 1) e ∷ [], ap (λ l. l ++ with_id (length c.events + 1) e ∷ []) same)

    unheld-same : (r : Role) → (unheld_by r b).events ≡ b.events
    unheld-same (TimerCancels started) = refl
    unheld-same _ = refl

    by : (h l : Bool) → (more : List Event) × ((cond h (held_back b e) (cond l (pushed (flushed b) e) (pushed (unheld_by (role e.attributes) b) e))).events ≡ b.events ++ more)
    by true l = ([], sym (append-nil b.events))
    by false true =
        let w = with_ids (length b.events + 1) b.held in
        let x = with_id (length (flushed b).events + 1) e in
        (w ++ x ∷ [], append_assoc b.events w (x ∷ []))
    by false false = pushes (unheld_by (role e.attributes) b) (unheld-same (role e.attributes))

-- the first of all is the first of the first ones

one-or : (o : Option RunDue) → least (option_to_list o) ≡ o
unfolding least
one-or None = refl
one-or (Some d) = refl

of-firsts : (es : List Event) (os : List Open) → least (all_firsts (map (first_in es) os)) ≡ first_of 0 (flat_map (kept.row_dues es) os)
of-firsts es [] = refl
of-firsts es (o ∷ os) =
    least-append (option_to_list (first_in es o)) (all_firsts (map (first_in es) os))
    ∙ ap (λ x. lesser_of_two x (least (all_firsts (map (first_in es) os)))) (one-or (first_in es o))
    ∙ ap (lesser_of_two (first_in es o)) (of-firsts es os)
    ∙ sym (first_of-append 0 (kept.row_dues es o) (flat_map (kept.row_dues es) os))

-- the run's ordinal decides nothing within one run
not-less : (n : ℕ) → nat_lt n n ≡ false
not-less n = grind (arith, nat_tests)

itself : (n : ℕ) → (n == n) ≡ true
itself n = grind (arith, nat_tests)

any-run : (n : ℕ) (rest : Bool) → (nat_lt n n || ((n == n) && rest)) ≡ rest
any-run n rest = ap (λ b. b || ((n == n) && rest)) (not-less n) ∙ ap (λ b. b && rest) (itself n)

same-test : (n due d : ℕ) (rest : Bool) → (nat_lt due d || ((due == d) && (nat_lt 0 0 || ((0 == 0) && rest)))) ≡ (nat_lt due d || ((due == d) && (nat_lt n n || ((n == n) && rest))))
same-test n due d rest = ap (λ b. nat_lt due d || ((due == d) && b)) (any-run 0 rest ∙ sym (any-run n rest))

same-order : (n : ℕ) (d e : Due) → is_before (record { run = 0; at = e }) (record { run = 0; at = d }) ≡ is_before (record { run = n; at = e }) (record { run = n; at = d })
same-order n d e = same-test n e.due d.due (nat_lt (class_place e.class) (class_place d.class) || ((class_place e.class == class_place d.class) && nat_lt e.event d.event))

pub run-first : (n : ℕ) (ds : List Due) → option_map (with_run n) (first_of 0 ds) ≡ first_of n ds
unfolding least
run-first n [] = refl
run-first n (d ∷ ds) = by (first_of 0 ds) refl (run-first n ds)
  where
    by : (o : Option RunDue) → first_of 0 ds ≡ o → option_map (with_run n) (first_of 0 ds) ≡ first_of n ds → option_map (with_run n) (Some (lesser (record { run = 0; at = d }) (first_of 0 ds))) ≡ Some (lesser (record { run = n; at = d }) (first_of n ds))
    by None is rest =
        ap (λ o. Some (with_run n (lesser (record { run = 0; at = d }) o))) is
        ∙ sym (ap (λ o. Some (lesser (record { run = n; at = d }) o)) (sym rest ∙ ap (option_map (with_run n)) is))
    by (Some e) is rest =
        ap (λ o. Some (with_run n (lesser (record { run = 0; at = d }) o))) is
        ∙ by_test (is_before e (record { run = 0; at = d })) refl
        ∙ sym (ap (λ o. Some (lesser (record { run = n; at = d }) o)) (sym rest ∙ ap (option_map (with_run n)) is))
      where
        zero-run : e.run ≡ 0
        zero-run = at-zero (of_run 0 ds) refl e (least-fires (of_run 0 ds) e is).0
          where
            at-zero : (xs : List RunDue) → of_run 0 ds ≡ xs → (x : RunDue) → IsOneOf x (of_run 0 ds) → x.run ≡ 0
            at-zero xs same x one = all-zero ds x one
              where
                all-zero : (ds : List Due) (x : RunDue) → IsOneOf x (of_run 0 ds) → x.run ≡ 0
                all-zero [] x one = absurd one
                all-zero (d ∷ ds) x (inl is) = ap (λ (y : RunDue). y.run) is
                all-zero (d ∷ ds) x (inr rest) = all-zero ds x rest

        same : is_before e (record { run = 0; at = d }) ≡ is_before (with_run n e) (record { run = n; at = d })
        same = ap (λ (k : ℕ). is_before (record { run = k; at = e.at }) (record { run = 0; at = d })) zero-run ∙ same-order n d e.at

        by_test : (b : Bool) → is_before e (record { run = 0; at = d }) ≡ b → Some (with_run n (cond (is_before e (record { run = 0; at = d })) e (record { run = 0; at = d }))) ≡ Some (cond (is_before (with_run n e) (record { run = n; at = d })) (with_run n e) (record { run = n; at = d }))
        by_test true h = ap (λ b. Some (with_run n (cond b e (record { run = 0; at = d })))) h ∙ sym (ap (λ b. Some (cond b (with_run n e) (record { run = n; at = d }))) (sym same ∙ h))
        by_test false h = ap (λ b. Some (with_run n (cond b e (record { run = 0; at = d })))) h ∙ sym (ap (λ b. Some (cond b (with_run n e) (record { run = n; at = d }))) (sym same ∙ h))

at-one : (P : RunDue → Type 0) (ds : List RunDue) (x : RunDue) → AllByRecursion P ds → IsOneOf x ds → P x
at-one P [] x h one = absurd one
at-one P (d ∷ ds) x h (inl is) = subst P (sym is) h.0
at-one P (d ∷ ds) x h (inr rest) = at-one P ds x h.1 rest

least-nil : least [] ≡ None
unfolding least
least-nil = refl

same-least : (xs ys : List RunDue) → ((x : RunDue) → IsOneOf x xs → IsOneOf x ys) → ((x : RunDue) → IsOneOf x ys → IsOneOf x xs) → least xs ≡ least ys
same-least xs ys to from = by (least xs) refl
  where
    none : (zs : List RunDue) → xs ≡ [] → ys ≡ zs → least ys ≡ None
    none [] is same = ap least same ∙ least-nil
    none (z ∷ zs) is same = absurd (subst (λ l. IsOneOf z l) is (from z (subst (IsOneOf z) (sym same) (inl refl))))

    by : (o : Option RunDue) → least xs ≡ o → least xs ≡ least ys
    by None is = is ∙ sym (none ys (least-none xs is) refl)
    by (Some x) is =
        let first = least-fires xs x is in
        is ∙ sym (least-is ys x (to x first.0, all-of _ ys (λ y one. at-one (λ e. is_before e x ≡ false) xs y first.1 (from y one))))

-- the order of four makes nothing of the first of them
changed-about : (a t p q : List RunDue) (x : RunDue) → IsOneOf x ((a ++ t) ++ (p ++ q)) → IsOneOf x ((a ++ p) ++ (t ++ q))
changed-about a t p q x one = one-either x (a ++ t) (p ++ q) _
    (λ h. one-either x a t _ (λ k. one-left x (a ++ p) (t ++ q) (one-left x a p k)) (λ k. one-right x (a ++ p) (t ++ q) (one-left x t q k)) h)
    (λ h. one-either x p q _ (λ k. one-left x (a ++ p) (t ++ q) (one-right x a p k)) (λ k. one-right x (a ++ p) (t ++ q) (one-right x t q k)) h)
    one

interchange : (a t p q : List RunDue) → lesser_of_two (lesser_of_two (least a) (least t)) (lesser_of_two (least p) (least q)) ≡ lesser_of_two (lesser_of_two (least a) (least p)) (lesser_of_two (least t) (least q))
interchange a t p q =
    sym (four a t p q) ∙ same-least ((a ++ t) ++ (p ++ q)) ((a ++ p) ++ (t ++ q)) (changed-about a t p q) (changed-about a p t q) ∙ four a p t q
  where
    four : (a t p q : List RunDue) → least ((a ++ t) ++ (p ++ q)) ≡ lesser_of_two (lesser_of_two (least a) (least t)) (lesser_of_two (least p) (least q))
    four a t p q = least-append (a ++ t) (p ++ q) ∙ ap (λ o. lesser_of_two o (least (p ++ q))) (least-append a t) ∙ ap (lesser_of_two (lesser_of_two (least a) (least t))) (least-append p q)

none-twice : (n : ℕ) → first_of n [] ≡ lesser_of_two (first_of n []) (first_of n [])
unfolding least
none-twice n = refl

-- of activities and timers together, or of the ones and the others
pub apart-firsts : (n : ℕ) (f g : Open → List Due) (os : List Open) → first_of n (flat_map (λ o. f o ++ g o) os) ≡ lesser_of_two (first_of n (flat_map f os)) (first_of n (flat_map g os))
apart-firsts n f g [] = none-twice n
apart-firsts n f g (o ∷ os) =
    first_of-append n (f o ++ g o) (flat_map (λ o. f o ++ g o) os)
    ∙ ap (λ x. lesser_of_two x (first_of n (flat_map (λ o. f o ++ g o) os))) (first_of-append n (f o) (g o))
    ∙ ap (lesser_of_two (lesser_of_two (first_of n (f o)) (first_of n (g o)))) (apart-firsts n f g os)
    ∙ interchange (of_run n (f o)) (of_run n (g o)) (of_run n (flat_map f os)) (of_run n (flat_map g os))
    ∙ ap (lesser_of_two (lesser_of_two (first_of n (f o)) (first_of n (flat_map f os)))) (sym (first_of-append n (g o) (flat_map g os)))
    ∙ ap (λ x. lesser_of_two x (first_of n (g o ++ flat_map g os))) (sym (first_of-append n (f o) (flat_map f os)))

-- what the heap has first, as that of the run with this ordinal
pub all-first : (n : ℕ) (es : List Event) (v : OpenRows) → KeepsDues es v →
    option_map (with_run n) (least (all_firsts v.firsts)) ≡ lesser_of_two (first_of n (flat_map (kept_activity_dues es) v.rows)) (first_of n (flat_map (kept_dues es) v.rows))
all-first n es v h =
    ap (λ l. option_map (with_run n) (least (all_firsts l))) h
    ∙ ap (option_map (with_run n)) (of-firsts es v.rows)
    ∙ run-first n (flat_map (kept.row_dues es) v.rows)
    ∙ apart-firsts n (kept_activity_dues es) (kept_dues es) v.rows
