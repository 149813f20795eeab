-- what every record leaves: each step may be done, so each content keeps of the one before it what it is to keep
use Rattle.std.proofs.Common.{◌≡◌, ℕ, ◌+◌, ◌-◌, ◌≤◌, zero, suc, Bool, true, false, cond, List, [], ◌∷◌, ◌++◌, refl, sym, ap, ◌∙◌, subst, arith, append-nil, Option, Some, None, slice_set}
use Rattle.std.proofs.lemmas.List.Sums.{fold-append}
use Rattle.std.specs.Prelude.{filter, map, max, not, slice_get, slice_index_or, unwrap_or, ◌||◌}
use Rattle.std.specs.List.{AllByRecursion, fold, list_any}
use Rattle.wf_event.specs.declared.attributes.Attributes.{Attributes}
use Rattle.wf_event.specs.declared.attributes.Attributes.TheVariants.{WorkflowExecutionCompleted, WorkflowExecutionFailed, WorkflowExecutionTimedOut, WorkflowExecutionCanceled, WorkflowExecutionTerminated, WorkflowExecutionContinuedAsNew}
use Rattle.wf_event.specs.declared.event.Event.{Event}
use Rattle.wf_event.specs.declared.role.Class.{Class}
use Rattle.wf_event.specs.declared.role.Class.TheVariants as class
use Rattle.wf_event.specs.Role.{closing_status, is_closing_role, role}
use Rattle.wf_event_values.specs.declared.policies.Status.{Status}
use Rattle.wf_event_values.specs.declared.policies.Status.TheVariants.{Running}
use Rattle.service_model_types.specs.declared.content.Content.{Content}
use Rattle.service_model_types.specs.declared.content.Setup.{Setup}
use Rattle.service_model_types.specs.declared.journal.Fact.{Fact}
use Rattle.service_model_types.specs.declared.request.Request.{Request}
use Rattle.service_model.specs.Aging.{ClosesAt, IsAged, IsOldestRun}
use Rattle.service_model.specs.Growth.{HasOneOpen, KeepsHistories}
use Rattle.service_model.specs.GrowthLaws.{keeps-on, keeps-same}
use Rattle.service_model.specs.Journal.{Journal, Made, events_made, first_some, latest}
use Rattle.service_model.specs.Outcome.{Added, Counting, CountsNothing, AcceptsFrom, AcknowledgesTo, CountsDispatch, Outcome, run_at}
use Rattle.service_model.specs.Pending.{NoTask, in_use, is_closed, is_in_use, is_settled, task, task_of}
use Rattle.service_model.specs.RunState.{ActivityRow, activity_row, held_attributes, id_of, is_open, is_open_status, is_there, no_run, pending, state_of, used}
use Rattle.service_model.specs.Shown.{shown}
use Rattle.service_model.specs.Service.{Entry, after, content_after, entries, journal_at, moment_of, opening, outcome, replay, runs_of, with_added, with_count, with_created, with_removed}
use Rattle.service_model_laws.specs.RecordLaws.{OlderGoesFirstInRecords, RecordsHaveOneOpen, RecordsKeepHistories}
use Rattle.service_model.proofs.GrowthLemmas.{MayAdd, MayMake, MayStep, MayTake, keeps-step}
use Rattle.service_model.proofs.ListLemmas.{all-push, map-get}
use Rattle.service_model.proofs.ThereLemmas.{there-open}
use Rattle.mutable_state.specs.Formed.{IsFormed, Stands}
use Rattle.mutable_state.specs.Steps.{FitStep, IsLater, after_step, has_id}
use Rattle.mutable_state.proofs.ClosingLemmas.{closes-after, closes-begun}
use Rattle.mutable_state.proofs.GrowthLemmas.{beginning-stays, step-begins}
use Rattle.mutable_state.proofs.JournalLemmas.{formed-later, formed-none, grounded-of, stands-begun, stands-next}
use Rattle.shard_steps.specs.Starts.{first_facts, new_run}
use Rattle.shard_store.proofs.OpenLemmas.{none-aged, none-made, of-journals}
use Rattle.shard_store.proofs.StepLemmas.{id-of-begun, no-facts}
use Rattle.service_model_laws.proofs.DoLemmas.{AddedMay, AreUsable, CreatedMay, IsUsable, MayDo, RemovedMay, outcome-may, states_added}

-- ---- a run that stands for a journal

open-role : (a : Attributes) → is_closing_role (role a) ≡ false → closing_status a ≡ None
unfolding role closing_status
open-role (WorkflowExecutionCompleted r) h = absurd (cc h)
open-role (WorkflowExecutionFailed m) h = absurd (cc h)
open-role WorkflowExecutionTimedOut h = absurd (cc h)
open-role (WorkflowExecutionCanceled d) h = absurd (cc h)
open-role (WorkflowExecutionTerminated r) h = absurd (cc h)
open-role (WorkflowExecutionContinuedAsNew c) h = absurd (cc h)
open-role _ h = refl

not-closing : (es : List Made) → list_any (λ (e : Made). is_closing_role (role e.attributes)) es ≡ false → latest (λ (e : Made). closing_status e.attributes) es ≡ None
not-closing [] h = refl
not-closing (e ∷ es) h = by_test (is_closing_role (role e.attributes)) refl h (not-closing es)
  where
    by_test : (b : Bool) → is_closing_role (role e.attributes) ≡ b → (b || list_any (λ (x : Made). is_closing_role (role x.attributes)) es) ≡ false
        → (list_any (λ (x : Made). is_closing_role (role x.attributes)) es ≡ false → latest (λ (x : Made). closing_status x.attributes) es ≡ None)
        → first_some (latest (λ (x : Made). closing_status x.attributes) es) (closing_status e.attributes) ≡ None
    by_test true is h rest = absurd (cc h)
    by_test false is h rest = ap (λ o. first_some o (closing_status e.attributes)) (rest h) ∙ open-role e.attributes is

-- a run without a closing event is open
unclosed-open : (J : Journal) → is_closed J ≡ false → is_there (state_of J) ≡ true → is_open (state_of J) ≡ true
unclosed-open J h there = there-open (state_of J) there ∙ ap (λ (o : Option Status). is_open_status (unwrap_or o Running)) (not-closing (events_made J) h)

closed-none : (J : Journal) → is_closed J ≡ true → task J ≡ NoTask
unfolding task
closed-none J h = ap (λ b. cond b NoTask (unwrap_or (latest (λ (e : Made). task_of (role e.attributes)) (events_made J)) NoTask)) h

closed-unused : (c : Class) (J : Journal) → is_closed J ≡ true → in_use c J ≡ []
unfolding in_use
closed-unused c J h = ap (λ b. cond b [] (filter (is_in_use c J) (shown J))) h

-- what is in ready of a class is found in the journal
used-in : (c : Class) (J : Journal) → is_closed J ≡ true → used c (state_of J) ≡ []
used-in class.Activity J h = ap (λ es. map (λ (r : ActivityRow). r.opened) (map (activity_row J) es)) (closed-unused class.Activity J h)
used-in class.Timer J h = closed-unused class.Timer J h
used-in class.Child J h = closed-unused class.Child J h
used-in class.Signal J h = closed-unused class.Signal J h
used-in class.Cancel J h = closed-unused class.Cancel J h

usable : (steps : ℕ) (J : Journal) → IsFormed steps J → IsUsable (state_of J)
usable steps J h = record {
  grounded = grounded-of steps J h;
  no_task = λ there over. by_close (is_closed J) refl there over;
  open_use = λ c id there has. by_use c id (is_closed J) refl there has;
}
  where
    by_close : (b : Bool) → is_closed J ≡ b → is_there (state_of J) ≡ true → is_open (state_of J) ≡ false → task J ≡ NoTask
    by_close true is there over = closed-none J is
    by_close false is there over = absurd (let clash = sym (unclosed-open J is there) ∙ over in cc clash)

    by_use : (c : Class) (id : ℕ) (b : Bool) → is_closed J ≡ b → is_there (state_of J) ≡ true → has_id id (pending c (state_of J)) ≡ true → is_open (state_of J) ≡ true
    by_use c id true is there has = absurd (let clash = sym has ∙ ap (λ es. has_id id (filter (λ (e : Event). not (is_settled c e.id (held_attributes (state_of J)))) es)) (used-in c J is) in cc clash)
    by_use c id false is there has = unclosed-open J is there

-- ---- lists of journals

state-at : (Js : List Journal) (n : ℕ) → slice_index_or (map state_of Js) n no_run ≡ state_of (slice_index_or Js n [])
unfolding no_run
state-at [] n = refl
state-at (K ∷ Js) zero = refl
state-at (K ∷ Js) (suc n) = state-at Js n

formed-at : (steps : ℕ) (Js : List Journal) (n : ℕ) → AllByRecursion (IsFormed steps) Js → IsFormed steps (slice_index_or Js n [])
formed-at steps [] n h = formed-none steps
formed-at steps (J ∷ Js) zero h = h.0
formed-at steps (J ∷ Js) (suc n) h = formed-at steps Js n h.1

all-later : (steps : ℕ) (Js : List Journal) → AllByRecursion (IsFormed steps) Js → AllByRecursion (IsFormed (steps + 1)) Js
all-later steps [] h = tt
all-later steps (J ∷ Js) h = (formed-later steps J h.0, all-later steps Js h.1)

all-set : (P : Journal → Type 0) (Js : List Journal) (n : ℕ) (J : Journal) → AllByRecursion P Js → P J → AllByRecursion P (slice_set Js n J)
all-set P [] n J h is = tt
all-set P (K ∷ Js) zero J h is = (is, h.1)
all-set P (K ∷ Js) (suc n) J h is = (h.0, all-set P Js n J h.1 is)

map-set : (Js : List Journal) (n : ℕ) (J : Journal) → map state_of (slice_set Js n J) ≡ slice_set (map state_of Js) n (state_of J)
map-set [] n J = refl
map-set (K ∷ Js) zero J = refl
map-set (K ∷ Js) (suc n) J = ap (λ t. state_of K ∷ t) (map-set Js n J)

-- ---- a content

-- a content whose journals are formed as steps form them, and whose runs of one workflow ID close one after another
pub record IsStood (S : Content) : Type 0 where
  pub formed : AllByRecursion (IsFormed S.steps) S.runs
  pub one : HasOneOpen S
  pub aged : IsAged S

all-usable : (S : Content) (m : ℕ) → IsStood S → AreUsable (runs_of S m)
all-usable S m h n = subst IsUsable (sym (state-at S.runs (n - 1))) (usable S.steps (slice_index_or S.runs (n - 1) []) (formed-at S.steps S.runs (n - 1) h.formed))

-- the journal to which a step adds, before and after it
pub record IsAdded (S : Content) (m : ℕ) (a : Added) : Type 0 where
  pub fits : FitStep m (state_of (journal_at S.runs a.run)) a.facts
  pub stood : Stands S.steps (journal_at S.runs a.run) (state_of (journal_at S.runs a.run))
  pub behind : Stands (S.steps + 1) (journal_at S.runs a.run ++ entries (S.steps + 1) m 0 a.facts) (after_step m a.facts (state_of (journal_at S.runs a.run)))

is-added : (S : Content) (m : ℕ) (a : Added) → IsStood S → FitStep m (run_at (runs_of S m) a.run) a.facts → IsAdded S m a
is-added S m a h may =
    let J = journal_at S.runs a.run in
    let fits : FitStep m (state_of J) a.facts = subst (λ s. FitStep m s a.facts) (state-at S.runs (a.run - 1)) may in
    let stood : Stands S.steps J (state_of J) = record { says = refl; formed = formed-at S.steps S.runs (a.run - 1) h.formed } in
    record { fits = fits; stood = stood; behind = stands-next S.steps m J a.facts (state_of J) (after_step m a.facts (state_of J)) stood fits refl }

added-may : (S : Content) (m : ℕ) (a : Option Added) → IsStood S → AddedMay (runs_of S m) a → MayAdd S m a
added-may S m None h may = tt
added-may S m (Some a) h may =
    let J = journal_at S.runs a.run in
    let s = state_of J in
    let k = is-added S m a h may in
    let begins = step-begins m a.facts s in
    record {
      shows = (begins.more, ap (λ t. t.shown) k.behind.says ∙ begins.is);
      closed = λ over. ap (λ fs. J ++ entries (S.steps + 1) m 0 fs) (no-facts m s a.facts over k.fits) ∙ append-nil J;
      began = ap (λ t. t.beginning) k.behind.says ∙ beginning-stays m a.facts s;
      closes = λ opened over. subst (ClosesAt m) (sym k.behind.says) (closes-after S.steps m J a.facts s k.stood k.fits opened (ap is_open (sym k.behind.says) ∙ over));
    }

-- the runs with what is added are those of the journals with it
added-says : (S : Content) (m : ℕ) (a : Option Added) → IsStood S → AddedMay (runs_of S m) a → states_added (runs_of S m) a ≡ map state_of (with_added (S.steps + 1) m a S.runs)
added-says S m None h may = refl
added-says S m (Some a) h may =
    let J = journal_at S.runs a.run in
    let k = is-added S m a h may in
    let n = a.run - 1 in
    ap (λ s. slice_set (map state_of S.runs) n (after_step m a.facts s)) (state-at S.runs n) ∙ ap (slice_set (map state_of S.runs) n) (sym k.behind.says)
    ∙ sym (map-set S.runs n (J ++ entries (S.steps + 1) m 0 a.facts))

added-formed : (S : Content) (m : ℕ) (a : Option Added) → IsStood S → AddedMay (runs_of S m) a → AllByRecursion (IsFormed (S.steps + 1)) (with_added (S.steps + 1) m a S.runs)
added-formed S m None h may = all-later S.steps S.runs h.formed
added-formed S m (Some a) h may = all-set (IsFormed (S.steps + 1)) S.runs (a.run - 1) _ (all-later S.steps S.runs h.formed) (is-added S m a h may).behind.formed

removed-formed : (steps : ℕ) (o : Option ℕ) (Js : List Journal) → AllByRecursion (IsFormed steps) Js → AllByRecursion (IsFormed steps) (with_removed o Js)
removed-formed steps None Js h = h
removed-formed steps (Some n) Js h = all-set (IsFormed steps) Js (n - 1) [] h (formed-none steps)

created-formed : (S : Content) (m : ℕ) (a : Option Added) (o : Option (List Fact)) (Js : List Journal) → CreatedMay (runs_of S m) a o → AllByRecursion (IsFormed (S.steps + 1)) Js → AllByRecursion (IsFormed (S.steps + 1)) (with_created (S.steps + 1) m o Js)
created-formed S m a None Js may h = h
created-formed S m a (Some facts) Js may h =
    let b = may.beginning in
    let P : List Fact → Type 0 = λ fs. IsFormed (S.steps + 1) (entries (S.steps + 1) m 0 fs) in
    all-push (IsFormed (S.steps + 1)) Js _ h (subst P (sym may.is) (stands-begun S.steps m b.request_id b.started b.facts (may.begins.fits IsLater)).formed)

taken-may : (S : Content) (m : ℕ) (a : Option Added) (c : Option (List Fact)) (o : Option ℕ) → IsStood S → RemovedMay (runs_of S m) a c o → MayTake (with_added (S.steps + 1) m a S.runs) o
taken-may S m a c None h may = tt
taken-may S m a c (Some n) h may =
    subst (λ (x : Option Added). IsOldestRun (map state_of (with_added (S.steps + 1) m x S.runs)) (n - 1)) (sym may.0) (may.2 S.last_moment (of-journals S h.one) h.aged)

created-may : (S : Content) (m : ℕ) (a : Option Added) (c : Option (List Fact)) (o : Option ℕ) → IsStood S → AddedMay (runs_of S m) a → CreatedMay (runs_of S m) a c → RemovedMay (runs_of S m) a c o
    → MayMake S m (with_removed o (with_added (S.steps + 1) m a S.runs)) c
created-may S m a None o h added may taken = tt
created-may S m a (Some facts) (Some n) h added may taken = absurd (let clash = taken.1 in cc clash)
created-may S m a (Some facts) None h added may taken =
    let runs = with_added (S.steps + 1) m a S.runs in
    let b = may.beginning in
    let X = entries (S.steps + 1) m 0 (first_facts b) in
    let begun : state_of X ≡ new_run m b = (stands-begun S.steps m b.request_id b.started b.facts (may.begins.fits IsLater)).says in
    let named : id_of (state_of X) ≡ b.started.workflow_id = ap id_of begun ∙ id-of-begun m b.facts b.request_id b.started in
    subst (λ fs. MayMake S m runs (Some fs)) (sym may.is) (record {
      free = λ one. record {
        each = λ k J at same. (may.free (of-journals S one)).each k (state_of J) (ap (λ l. slice_get l k) (added-says S m a h added) ∙ map-get state_of runs k J at) (same ∙ named);
      };
      closes = λ over. subst (ClosesAt m) (sym begun) (closes-begun m b.request_id b.started b.facts (may.begins.fits IsLater) (ap is_open (sym begun) ∙ over));
    })

-- ---- a step

not-before : (at last : ℕ) → last ≤ max at last
not-before at last = omega arith

may-step : (S : Content) (m : ℕ) (o : Outcome) → IsStood S → S.last_moment ≤ m → MayDo (runs_of S m) o → MayStep S m o
may-step S m o h later may = record {
  later = later;
  adds = added-may S m o.added h may.added;
  takes = taken-may S m o.added o.created o.removed h may.removed;
  makes = created-may S m o.added o.created o.removed h may.added may.created may.removed;
}

counted-formed : (c : Counting) (T : Content) → AllByRecursion (IsFormed T.steps) T.runs → AllByRecursion (IsFormed (with_count c T).steps) (with_count c T).runs
counted-formed CountsNothing T h = h
counted-formed (AcceptsFrom n) T h = h
counted-formed (AcknowledgesTo n) T h = h
counted-formed CountsDispatch T h = h

pub record StepKeeps (S T : Content) : Type 0 where
  pub keeps : KeepsHistories S T
  pub stood : IsStood T

step-keeps : (S : Content) (m : ℕ) (o : Outcome) → IsStood S → S.last_moment ≤ m → MayDo (runs_of S m) o → StepKeeps S (content_after S m o)
step-keeps S m o h later may =
    let keeps = keeps-step S m o (may-step S m o h later may) in
    record {
      keeps = keeps;
      stood = record {
        formed = counted-formed o.counting _ (created-formed S m o.added o.created _ may.created (removed-formed (S.steps + 1) o.removed _ (added-formed S m o.added h may.added)));
        one = keeps.one h.one;
        aged = (keeps.aged h.one h.aged).0;
      };
    }

after-keeps : (S : Content) (q : Request) → IsStood S → StepKeeps S (after S q)
unfolding after
after-keeps S q h =
    let m = moment_of S q.at in
    step-keeps S m (outcome S m q.operation) h (not-before q.at S.last_moment) (outcome-may S m q.operation (all-usable S m h))

-- ---- a record

fold-keeps : (S : Content) (R : List Entry) → IsStood S → StepKeeps S (fold (λ T (e : Entry). after T e.request) S R)
fold-keeps S [] h = record { keeps = keeps-same S; stood = h }
fold-keeps S (e ∷ R) h =
    let first = after-keeps S e.request h in
    let rest = fold-keeps (after S e.request) R first.stood in
    record { keeps = keeps-on S (after S e.request) _ first.keeps rest.keeps; stood = rest.stood }

stood-opening : (setup : Setup) → IsStood (opening setup)
stood-opening setup = record { formed = tt; one = none-made setup; aged = none-aged setup }

stood-replayed : (setup : Setup) (R : List Entry) → IsStood (replay setup R)
stood-replayed setup R = (fold-keeps (opening setup) R (stood-opening setup)).stood

pub records-keep : RecordsKeepHistories
records-keep setup R more =
    subst (KeepsHistories (replay setup R)) (sym (fold-append (λ T (e : Entry). after T e.request) (opening setup) R more)) (fold-keeps (replay setup R) more (stood-replayed setup R)).keeps

pub records-have-one : RecordsHaveOneOpen
records-have-one setup R = (stood-replayed setup R).one

pub records-age : OlderGoesFirstInRecords
records-age setup R more =
    let stood = stood-replayed setup R in
    ((records-keep setup R more).aged stood.one stood.aged).1
