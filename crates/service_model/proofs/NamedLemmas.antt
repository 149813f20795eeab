-- each task that waits goes to a queue that the service knows
use Rattle.std.proofs.Common.{◌≡◌, ℕ, zero, suc, ◌+◌, ◌-◌, ◌<◌, Bool, true, false, cond, List, [], ◌∷◌, ◌++◌, length, refl, ap, ◌∙◌, subst, arith, Option, Some, None}
use Rattle.std.proofs.lemmas.Bool.Decides.{nat_tests}
use Rattle.std.specs.Prelude.{filter, find, flat_map, is_some, map, nat_lt, option_and_then, option_map, slice_index_or, slice_set, unwrap_or, ◌&&◌, ◌||◌, ◌==◌, bytes_eq, not}
use Rattle.std.specs.List.{AllByRecursion, cons_option, enumerate_from, fold, list_any, position, position_or_len}
use Rattle.wf_event.specs.declared.event.Event.{Event}
use Rattle.wf_event.specs.declared.attributes.Attributes.{Attributes}
use Rattle.wf_event.specs.declared.attributes.Attributes.TheVariants.{WorkflowExecutionStarted, WorkflowTaskScheduled, ActivityTaskScheduled}
use Rattle.wf_event.specs.declared.payloads.ActivityTaskScheduled.{ActivityTaskScheduled as ScheduledAttributes}
use Rattle.wf_event.specs.declared.role.Class.TheVariants as class
use Rattle.wf_event_values.specs.declared.policies.TaskKind.TheVariants.{Activity}
use Rattle.service_model_types.specs.Routing.{knows_queue}
use Rattle.service_model_types.specs.declared.content.Content.{Content}
use Rattle.service_model_types.specs.declared.content.Dispatch.{Dispatch}
use Rattle.service_model_types.specs.declared.content.Setup.{Setup}
use Rattle.service_model_types.specs.declared.journal.Fact.{Fact}
use Rattle.service_model_types.specs.declared.journal.Fact.TheVariants.{Event as an_event, Note as a_note}
use Rattle.service_model_types.specs.declared.journal.JournalEntry.{JournalEntry}
use Rattle.service_model_types.specs.declared.request.Request.{Request}
use Rattle.service_model.specs.Deadlines.{scheduled_fields}
use Rattle.service_model.specs.Issued.{row_dispatch, task_dispatch}
use Rattle.service_model.specs.Journal.{Journal, Made, events_made, first_some, latest, made_at}
use Rattle.service_model.specs.Outcome.{Added, Counting, CountsNothing, AcceptsFrom, AcknowledgesTo, CountsDispatch, Outcome}
use Rattle.service_model.specs.Pending.{in_use, is_closed, is_in_use, is_settled}
use Rattle.service_model.specs.RunState.{ActivityRow, Beginning, RunState, activity_row, beginning, beginning_by, beginning_part, held_attributes, is_there, last_task, no_run, row_of, state_of}
use Rattle.service_model.specs.Service.{Entry, after, content_after, entries, journal_at, moment_of, opening, outcome, replay, runs_of, with_added, with_count, with_created, with_removed}
use Rattle.service_model.specs.Shown.{shown}
use Rattle.service_model.specs.Tasks.{is_queued, is_scheduled_task, pending_row}
use Rattle.service_model.specs.Waiting.{queued_dispatch, waiting, waiting_of, waiting_task}
use Rattle.service_model.specs.WaitingLaws.{IsNamed, WaitingAreNamed}
use Rattle.service_model.proofs.AddingLemmas.{AddedThere, AddsThere, outcome-adds}
use Rattle.service_model.proofs.QueueLemmas.{AddsKnown, MakesKnown, AllHaveQueues, AllKnown, HasQueue, IsKnown, IsKnownFact, Names, all-both, outcome-names}
use Rattle.service_model.proofs.ShownLemmas.{IfHas, all-found, all-kept, all-made, all-shown}
use Rattle.service_model.proofs.ThereLemmas.{none-there}

-- the journal's events name known queues
abbrev IsKnownEntry : Setup → JournalEntry → Type 0
IsKnownEntry setup e = IsKnownFact setup e.fact

abbrev pub IsKnownRun : Setup → Journal → Type 0
IsKnownRun setup J = AllByRecursion (IsKnownEntry setup) J

-- the queue of a run's workflow tasks is that of its beginning
abbrev HasKnownQueue : Setup → Option Beginning → Type 0
HasKnownQueue setup None = Unit {0}
HasKnownQueue setup (Some b) = knows_queue setup b.attributes.task_queue ≡ true

first-known : (setup : Setup) (o p : Option Beginning) → HasKnownQueue setup o → HasKnownQueue setup p → HasKnownQueue setup (first_some o p)
first-known setup None p h k = k
first-known setup (Some b) p h k = h

began-known : (setup : Setup) (at : ℕ) (request : Option (List ℕ)) (a : Attributes) → IsKnown setup a → HasKnownQueue setup (beginning_by at request a)
began-known setup at request (WorkflowExecutionStarted a) h = h
began-known setup at request _ h = tt

latest-known : (setup : Setup) (J : Journal) → AllByRecursion (IsKnownEntry setup) J → HasKnownQueue setup (latest beginning_part (events_made J))
latest-known setup [] h = tt
latest-known setup (e ∷ J) h = by_fact e.fact h.0 (latest-known setup J h.1)
  where
    by_fact : (f : Fact) → IsKnownFact setup f → HasKnownQueue setup (latest beginning_part (events_made J)) → HasKnownQueue setup (latest beginning_part (cons_option (made_at e.step e.moment f) (events_made J)))
    by_fact (an_event f) known rest = first-known setup (latest beginning_part (events_made J)) _ rest (began-known setup e.moment f.request_id f.attributes known)
    by_fact (a_note n) known rest = rest

-- that of a run that is there
abbrev HasIfThere : Setup → RunState → Type 0
HasIfThere setup s = is_there s ≡ true → HasQueue setup s

has-queue : (setup : Setup) (J : Journal) → IsKnownRun setup J → HasIfThere setup (state_of J)
unfolding beginning
has-queue setup J h there = by_beginning (latest beginning_part (events_made J)) (latest-known setup J h) there
  where
    by_beginning : (o : Option Beginning) → HasKnownQueue setup o → is_some o ≡ true → knows_queue setup (unwrap_or (option_map (λ (b : Beginning). b.attributes.task_queue) o) []) ≡ true
    by_beginning None known begun = absurd (cc)
    by_beginning (Some b) known begun = known

-- what stands at a place, and a list with another member there
at-place : {A : Type 0} (P : A → Type 0) (xs : List A) (n : ℕ) (d : A) → AllByRecursion P xs → P d → P (slice_index_or xs n d)
at-place P [] n d h other = other
at-place P (x ∷ xs) zero d h other = h.0
at-place P (x ∷ xs) (suc n) d h other = at-place P xs n d h.1 other

set-all : {A : Type 0} (P : A → Type 0) (xs : List A) (n : ℕ) (x : A) → AllByRecursion P xs → (n < length xs → P x) → AllByRecursion P (slice_set xs n x)
set-all P [] n x h here = tt
set-all P (y ∷ xs) zero x h here = (here (omega arith), h.1)
set-all P (y ∷ xs) (suc n) x h here = (h.0, set-all P xs n x h.1 (λ there. here (omega arith)))

-- a run as a step leaves it
entries-known : (setup : Setup) (step moment n : ℕ) (facts : List Fact) → AllKnown setup facts → AllByRecursion (IsKnownEntry setup) (entries step moment n facts)
entries-known setup step moment n [] h = tt
entries-known setup step moment n (f ∷ facts) h = (h.0, entries-known setup step moment (n + 1) facts h.1)

-- all runs of a content
abbrev pub AreKnownRuns : Content → Type 0
AreKnownRuns S = AllByRecursion (IsKnownRun S.setup) S.runs

have-queues : (setup : Setup) (runs : List Journal) → AllByRecursion (IsKnownRun setup) runs → AllByRecursion (HasIfThere setup) (map state_of runs)
have-queues setup [] h = tt
have-queues setup (J ∷ runs) h = (has-queue setup J h.0, have-queues setup runs h.1)

all-have : (S : Content) (m : ℕ) → AreKnownRuns S → AllHaveQueues (runs_of S m)
unfolding no_run
all-have S m h n there = at-place (HasIfThere S.setup) (map state_of S.runs) (n - 1) no_run (have-queues S.setup S.runs h) (λ begun. absurd (let f = none-there.0 in cc (f, begun))) there

added-known : (S : Content) (step moment : ℕ) (o : Outcome) → AreKnownRuns S → AddsThere (runs_of S moment) o → Names (runs_of S moment) o → AllByRecursion (IsKnownRun S.setup) (with_added step moment o.added S.runs)
added-known S step moment o h adds named = by_added o.added adds.is named.added
  where
    by_added : (a : Option Added) → AddedThere (runs_of S moment) a → AddsKnown (runs_of S moment) a → AllByRecursion (IsKnownRun S.setup) (with_added step moment a S.runs)
    by_added None there known = h
    by_added (Some a) there known =
        set-all (IsKnownRun S.setup) S.runs (a.run - 1) (journal_at S.runs a.run ++ entries step moment 0 a.facts) h (λ low.
        all-both (IsKnownEntry S.setup) (journal_at S.runs a.run) (entries step moment 0 a.facts) (at-place (IsKnownRun S.setup) S.runs (a.run - 1) [] h tt)
        (entries-known S.setup step moment 0 a.facts (known there)))

removed-known : (setup : Setup) (o : Option ℕ) (runs : List Journal) → AllByRecursion (IsKnownRun setup) runs → AllByRecursion (IsKnownRun setup) (with_removed o runs)
removed-known setup None runs h = h
removed-known setup (Some n) runs h = set-all (IsKnownRun setup) runs (n - 1) [] h (λ low. tt)

created-known : (S : Content) (step moment : ℕ) (o : Option (List Fact)) (runs : List Journal) → AllByRecursion (IsKnownRun S.setup) runs → MakesKnown S.setup o → AllByRecursion (IsKnownRun S.setup) (with_created step moment o runs)
created-known S step moment None runs h known = h
created-known S step moment (Some facts) runs h known = all-both (IsKnownRun S.setup) runs _ h (entries-known S.setup step moment 0 facts known, tt)

counted-known : (c : Counting) (S : Content) → AreKnownRuns S → AreKnownRuns (with_count c S)
counted-known CountsNothing S h = h
counted-known (AcceptsFrom n) S h = h
counted-known (AcknowledgesTo to) S h = h
counted-known CountsDispatch S h = h

step-known : (S : Content) (moment : ℕ) (o : Outcome) → AreKnownRuns S → AddsThere (runs_of S moment) o → Names (runs_of S moment) o → AreKnownRuns (content_after S moment o)
step-known S moment o h adds named =
    counted-known o.counting _ (created-known S (S.steps + 1) moment o.created _ (removed-known S.setup o.removed _ (added-known S (S.steps + 1) moment o h adds named)) named.created)

pub known-after : (S : Content) (q : Request) → AreKnownRuns S → AreKnownRuns (after S q)
unfolding after
known-after S q h = step-known S (moment_of S q.at) (outcome S (moment_of S q.at) q.operation) h (outcome-adds S (moment_of S q.at) q.operation) (outcome-names S (moment_of S q.at) q.operation (all-have S (moment_of S q.at) h))

pub known-replayed : (S : Content) (R : List Entry) → AreKnownRuns S → AreKnownRuns (fold (λ T (e : Entry). after T e.request) S R)
known-replayed S [] h = h
known-replayed S (e ∷ R) h = known-replayed (after S e.request) R (known-after S e.request h)

-- the setup stays
setup-counted : (c : Counting) (S : Content) → (with_count c S).setup ≡ S.setup
setup-counted CountsNothing S = refl
setup-counted (AcceptsFrom n) S = refl
setup-counted (AcknowledgesTo to) S = refl
setup-counted CountsDispatch S = refl

setup-after : (S : Content) (q : Request) → (after S q).setup ≡ S.setup
unfolding after
setup-after S q = setup-counted (outcome S (moment_of S q.at) q.operation).counting _

pub setup-replayed : (S : Content) (R : List Entry) → (fold (λ T (e : Entry). after T e.request) S R).setup ≡ S.setup
setup-replayed S [] = refl
setup-replayed S (e ∷ R) = setup-replayed (after S e.request) R ∙ setup-after S e.request

-- the events that a history shows are known
abbrev IsKnownEvent : Setup → Event → Type 0
IsKnownEvent setup e = IsKnown setup e.attributes

made-one : (setup : Setup) (step at : ℕ) (f : Fact) → IsKnownFact setup f → IfHas (λ (m : Made). IsKnown setup m.attributes) (made_at step at f)
made-one setup step at (an_event f) h = h
made-one setup step at (a_note n) h = tt

shown-known : (setup : Setup) (J : Journal) → AllByRecursion (IsKnownEntry setup) J → AllByRecursion (IsKnownEvent setup) (shown J)
shown-known setup J h =
    all-shown (IsKnown setup) J
    (all-found (IsKnownEntry setup) (λ (m : Made). IsKnown setup m.attributes) (λ (e : JournalEntry). made_at e.step e.moment e.fact) J (λ e known. made-one setup e.step e.moment e.fact known) h)

-- the rows of the activities in use are of such events
abbrev IsKnownRow : Setup → ActivityRow → Type 0
IsKnownRow setup r = IsKnownEvent setup r.opened

rows-known : (setup : Setup) (J : Journal) → AllByRecursion (IsKnownEntry setup) J → AllByRecursion (IsKnownRow setup) (state_of J).activities
unfolding in_use
rows-known setup J h = all-made (IsKnownEvent setup) (IsKnownRow setup) (activity_row J) (in_use class.Activity J) (λ e known. known) (by_close (is_closed J))
  where
    by_close : (b : Bool) → AllByRecursion (IsKnownEvent setup) (cond b [] (filter (is_in_use class.Activity J) (shown J)))
    by_close true = tt
    by_close false = all-kept (IsKnownEvent setup) (is_in_use class.Activity J) (shown J) (shown-known setup J h)

row-found : (setup : Setup) (test : ActivityRow → Bool) (rows : List ActivityRow) → AllByRecursion (IsKnownRow setup) rows → IfHas (IsKnownRow setup) (find test rows)
row-found setup test [] h = tt
row-found setup test (r ∷ rows) h = by_test (test r) (row-found setup test rows h.1)
  where
    by_test : (b : Bool) → IfHas (IsKnownRow setup) (find test rows) → IfHas (IsKnownRow setup) (cond b (Some r) (find test rows))
    by_test true rest = h.0
    by_test false rest = rest

pending-found : (setup : Setup) (s : RunState) (id : ℕ) → AllByRecursion (IsKnownRow setup) s.activities → IfHas (IsKnownRow setup) (pending_row s id)
pending-found setup s id h = by_settled (is_settled class.Activity id (held_attributes s))
  where
    by_settled : (b : Bool) → IfHas (IsKnownRow setup) (cond b None (row_of s id))
    by_settled true = tt
    by_settled false = row-found setup (λ (r : ActivityRow). r.opened.id == id) s.activities h

-- a task that waits
row-named : (setup : Setup) (run : ℕ) (r : ActivityRow) → IsKnownRow setup r → IfHas (IsNamed setup) (queued_dispatch setup run r)
row-named setup run r h = by_phase (is_queued r.phase)
  where
    by_kind : (a : Attributes) → IsKnown setup a → IfHas (IsNamed setup) (option_map (λ (a : ScheduledAttributes). record { queue = a.task_queue; hint = record { kind = Activity; shard = setup.shard; run = run; event = r.opened.id; attempt = r.attempt } }) (scheduled_fields a))
    by_kind (ActivityTaskScheduled a) known = record { queue = known; shard = refl }
    by_kind _ known = tt

    by_phase : (b : Bool) → IfHas (IsNamed setup) (cond b (row_dispatch setup run r) None)
    by_phase true = by_kind r.opened.attributes h
    by_phase false = tt

task-named : (setup : Setup) (run : ℕ) (s : RunState) (id at : ℕ) (a : Attributes) → AllByRecursion (IsKnownRow setup) s.activities → IsKnown setup a → IfHas (IsNamed setup) (waiting_task setup run s (record { id = id; at = at; attributes = a }))
task-named setup run s id at (WorkflowTaskScheduled a) rows h = by_phase (is_scheduled_task s.task && ((last_task s).scheduled == id))
  where
    by_phase : (b : Bool) → IfHas (IsNamed setup) (cond b (task_dispatch setup run (record { id = id; at = at; attributes = WorkflowTaskScheduled a })) None)
    by_phase true = record { queue = h; shard = refl }
    by_phase false = tt
task-named setup run s id at (ActivityTaskScheduled a) rows h = by_row (pending_row s id) (pending-found setup s id rows)
  where
    by_row : (o : Option ActivityRow) → IfHas (IsKnownRow setup) o → IfHas (IsNamed setup) (option_and_then (queued_dispatch setup run) o)
    by_row None known = tt
    by_row (Some r) known = row-named setup run r known
task-named setup run s id at _ rows h = tt

run-named : (setup : Setup) (run : ℕ) (J : Journal) → IsKnownRun setup J → AllByRecursion (IsNamed setup) (waiting_of setup run (state_of J))
run-named setup run J h =
    all-found (IsKnownEvent setup) (IsNamed setup) (waiting_task setup run (state_of J)) (shown J)
    (λ e known. task-named setup run (state_of J) e.id e.at e.attributes (rows-known setup J h) known) (shown-known setup J h)

runs-named : (setup : Setup) (n : ℕ) (runs : List Journal) → AllByRecursion (IsKnownRun setup) runs → AllByRecursion (IsNamed setup) (flat_map (λ (p : ℕ × RunState). waiting_of setup p.0 p.1) (enumerate_from n (map state_of runs)))
runs-named setup n [] h = tt
runs-named setup n (J ∷ runs) h = all-both (IsNamed setup) (waiting_of setup n (state_of J)) _ (run-named setup n J h.0) (runs-named setup (n + 1) runs h.1)

pub waiting-are-named : WaitingAreNamed
waiting-are-named setup R =
    let S = replay setup R in
    subst (λ (t : Setup). AllByRecursion (IsNamed t) (waiting S)) (setup-replayed (opening setup) R)
    (runs-named S.setup 1 S.runs (known-replayed (opening setup) R tt))

-- a name that is known has a place among those that are
first-below : {A : Type 0} (p : A → Bool) (xs : List A) → list_any p xs ≡ true → position_or_len p xs < length xs
first-below p [] h = absurd (cc)
first-below p (x ∷ xs) h = by_test (p x) h (first-below p xs)
  where
    by_test : (b : Bool) → (b || list_any p xs) ≡ true → (list_any p xs ≡ true → position_or_len p xs < length xs) → cond (not b) (1 + position_or_len p xs) 0 < suc (length xs)
    by_test true any rest = omega arith
    by_test false any rest = let low = rest any in omega arith

pub place-known : (setup : Setup) (d : Dispatch) → IsNamed setup d → (n : ℕ) × (position (λ q. bytes_eq q d.queue) setup.queues ≡ Some n)
place-known setup d h =
    let n = position_or_len (λ q. bytes_eq q d.queue) setup.queues in
    let low : n < length setup.queues = first-below (λ q. bytes_eq q d.queue) setup.queues h.queue in
    let test : nat_lt n (length setup.queues) ≡ true = grind (arith, nat_tests) in
    (n, ap (λ b. cond b (Some n) None) test)
