-- a shard that did what was planned stands for the next content
use Rattle.std.proofs.Common.{◌≡◌, ℕ, ◌+◌, ◌-◌, ◌<◌, ◌≤◌, ◌⊎◌, inl, inr, ⊎_elim, false, true, List, [], ◌∷◌, ◌++◌, length, refl, sym, ap, ◌∙◌, arith, Option, Some, None, zero, suc, slice_index_or, slice_set, subst, append-nil, append_assoc, length-append, length-set}
use Rattle.std.proofs.lemmas.List.{drop-append-le, drop-drop, length-drop, length-map}
use Rattle.std.specs.Prelude.{drop, filter_map, is_some, map, option_and_then, option_to_list, slice_get, unwrap_or, option_map}
use Rattle.std.specs.List.{AllByRecursion}
use Rattle.wf_event.specs.declared.event.Event.{Event}
use Rattle.wf_event.specs.declared.payloads.WorkflowExecutionStarted.{WorkflowExecutionStarted as StartedAttributes}
use Rattle.service_model_types.specs.declared.content.Content.{Content}
use Rattle.service_model_types.specs.declared.content.Dispatch.{Dispatch}
use Rattle.service_model_types.specs.declared.content.Setup.{Setup}
use Rattle.service_model_types.specs.declared.journal.Fact.{Fact}
use Rattle.service_model_types.specs.declared.journal.Fact.TheVariants.{Event as an_event, Note as a_note}
use Rattle.service_model_types.specs.declared.transfer.Sent.{Sent}
use Rattle.service_model_types.specs.declared.transfer.TransferContent.{TransferContent}
use Rattle.service_model.specs.Growth.{KeepsHistories}
use Rattle.service_model.specs.Journal.{Journal}
use Rattle.service_model.specs.RunState.{RunState, Beginning, state_of, no_run, id_of, is_open, is_there}
use Rattle.service_model.specs.Outcome.{Outcome, Added, Counting, CountsNothing, AcceptsFrom, AcknowledgesTo, CountsDispatch}
use Rattle.service_model.specs.Issued.{dispatches_of, ready_dispatch, task_dispatch, transfers_of}
use Rattle.service_model.specs.Service.{dispatched_for, dispatched_new, entries, sent_for, with_added, with_created, with_count, with_removed, content_after}
use Rattle.service_model.specs.Service as content
use Rattle.service_model.specs.Shown.{shown, numbered, put_all}
use Rattle.service_model.specs.Windows.{placed}
use Rattle.mutable_state.specs.declared.change.StepFacts.{StepFacts}
use Rattle.mutable_state.specs.Formed.{IsFormed, Stands}
use Rattle.mutable_state.specs.Steps.{begun, after_step, FitStep, IsLater}
use Rattle.mutable_state.proofs.GrowthLemmas.{Begins, step-begins, beginning-stays}
use Rattle.mutable_state.proofs.JournalLemmas.{formed-later, formed-none, stands-next, stands-begun}
use Rattle.shard_store.specs.ShardView.{ShardView, ShardState, state, states}
use Rattle.shard_store.specs.Fitting.{FitsAdded, FitsAnswer, FitsChange, FitsCount, FitsCreated, FitsMore, FitsStep, FitsTaken, IsMade, accepted_by, acknowledged_by, added_of, after_added, after_answer, after_change, after_count, after_taken, answer_of, count_of, counted_by, created_of, grown, issued_for, issued_new, outgoing_added, outgoing_answered, runs_added, runs_created, runs_taken, state_after, state_at, taken_of, transfers_for, waiting_added, waiting_created}
use Rattle.transfer.specs.Logs.{Waiting, one_counted, with_issued}
use Rattle.transfer.specs.Outboxes.{AreIssued, counted_to, rest_of, waiting_to, with_all_sent}
use Rattle.shard_issued.specs.Issuing.{queued_dispatch, waiting_in}
use Rattle.shard_steps.specs.Starts.{first_facts, new_run}
use Rattle.shard_steps.specs.declared.starts.Beginning.{Beginning as NewBeginning}
use Rattle.shard_store.specs.Standing.{StandsFor, Grows}
use Rattle.shard_store.specs.declared.plan.Change.{Change}
use Rattle.shard_store.specs.declared.plan.Count.{Count}
use Rattle.shard_store.specs.declared.plan.Count.TheVariants as count
use Rattle.shard_store.specs.declared.plan.MoreOf.{MoreOf}
use Rattle.shard_store.specs.declared.plan.NewRun.{NewRun}
use Rattle.shard_store.specs.declared.plan.Plan.{Plan}
use Rattle.shard_issued.proofs.DispatchLemmas.{ready-facts}
use Rattle.service_model.proofs.ListLemmas.{all-push, map-push}
use Rattle.shard_store.proofs.IndexLemmas.{length-states}
use Rattle.transfer.proofs.ContentLemmas.{counted-sent, issued-counted as acknowledged-issued, issued-sent, rest-counted, rest-sent, waits-more, with_all_sent-behind, with_all_sent-nil}

-- a later step changes nothing of the runs that it leaves alone
all-later : (steps : ℕ) (Js : List Journal) → AllByRecursion (IsFormed steps) Js → AllByRecursion (IsFormed (steps + 1)) Js
all-later steps [] h = tt
all-later steps (J ∷ Js) h = (formed-later steps J h.0, all-later steps Js h.1)

-- lists of journals
map-set : (Js : List Journal) (n : ℕ) (J : Journal) → map state_of (slice_set Js n J) ≡ slice_set (map state_of Js) n (state_of J)
map-set [] n J = refl
map-set (K ∷ Js) zero J = refl
map-set (K ∷ Js) (suc n) J = ap (λ t. state_of K ∷ t) (map-set Js n J)

state-at : (Js : List Journal) (n : ℕ) → state_at (map state_of Js) n ≡ state_of (slice_index_or Js n [])
unfolding no_run
state-at [] n = refl
state-at (K ∷ Js) zero = refl
state-at (K ∷ Js) (suc n) = state-at Js n

all-set : {A : Type 0} (P : A → Type 0) (xs : List A) (n : ℕ) (x : A) → AllByRecursion P xs → P x → AllByRecursion P (slice_set xs n x)
all-set P [] n x h here = tt
all-set P (y ∷ xs) zero x h here = (here, h.1)
all-set P (y ∷ xs) (suc n) x h here = (h.0, all-set P xs n x h.1 here)

all-at : (steps : ℕ) (Js : List Journal) (n : ℕ) → n < length Js → AllByRecursion (IsFormed steps) Js → IsFormed steps (slice_index_or Js n [])
all-at steps [] n there h = absurd (omega arith)
all-at steps (J ∷ Js) zero there h = h.0
all-at steps (J ∷ Js) (suc n) there h = all-at steps Js n (omega arith) h.1

-- the journals after a step of that outcome
runs_of_step : Content → ℕ → Outcome → List Journal
runs_of_step S moment o = with_created (S.steps + 1) moment o.created (with_removed o.removed (with_added (S.steps + 1) moment o.added S.runs))

-- the journal that a step adds to, before and after
pub record AddedTo (S : Content) (v : ShardView) (moment : ℕ) (m : MoreOf) (facts : List Fact) (J K : Journal) : Type 0 where
  pub before : state_of J ≡ state_at (states v.runs) m.index
  pub stood : Stands S.steps J (state_at (states v.runs) m.index)
  pub behind : Stands (S.steps + 1) K (after_step moment facts (state_at (states v.runs) m.index))

pub added-stands : (S : Content) (v : ShardView) (moment : ℕ) (m : MoreOf) (facts : List Fact) → StandsFor v S → FitsMore v moment m facts →
    AddedTo S v moment m facts (slice_index_or S.runs m.index []) (slice_index_or S.runs m.index [] ++ entries (S.steps + 1) moment 0 facts)
added-stands S v moment m facts h fits =
    let J = slice_index_or S.runs m.index [] in
    let known-runs : map state_of S.runs ≡ states v.runs = sym (ap (λ s. s.runs) h.says) in
    let there : m.index < length S.runs = omega (arith, fits.has_room.there, ap length known-runs, length-map S.runs state_of, length-states v.runs) in
    let here : state_of J ≡ state_at (states v.runs) m.index = sym (state-at S.runs m.index) ∙ ap (λ t. state_at t m.index) known-runs in
    let may : FitStep moment (state_at (states v.runs) m.index) facts = subst (λ (c : StepFacts). FitStep c.moment (state_at (states v.runs) m.index) c.facts) fits.change fits.has_room.fits in
    let stood : Stands S.steps J (state_at (states v.runs) m.index) = record { says = here; formed = all-at S.steps S.runs m.index there h.formed } in
    record {
      before = here;
      stood = stood;
      behind = stands-next S.steps moment J facts (state_at (states v.runs) m.index) (after_step moment facts (state_at (states v.runs) m.index)) stood may refl;
    }

-- where a step adds to a run, its journal is put in the place of the older one
added-is : (S : Content) (moment : ℕ) (m : MoreOf) (facts : List Fact) (o : Option Added) → o ≡ Some (record { run = m.index + 1; facts = facts }) →
    with_added (S.steps + 1) moment o S.runs ≡ slice_set S.runs m.index (slice_index_or S.runs m.index [] ++ entries (S.steps + 1) moment 0 facts)
added-is S moment m facts o is =
    let place : m.index + 1 - 1 ≡ m.index = omega arith in
    ap (λ a. with_added (S.steps + 1) moment a S.runs) is ∙ ap (λ k. slice_set S.runs k (slice_index_or S.runs k [] ++ entries (S.steps + 1) moment 0 facts)) place

pub record DoneRuns (S : Content) (Js : List Journal) (runs : List RunState) : Type 0 where
  pub says : map state_of Js ≡ runs
  pub formed : AllByRecursion (IsFormed (S.steps + 1)) Js

pub added-done : (S : Content) (v : ShardView) (moment : ℕ) (m : Option MoreOf) (o : Option Added) → StandsFor v S → FitsAdded v moment m o → DoneRuns S (with_added (S.steps + 1) moment o S.runs) (runs_added m (states v.runs))
added-done S v moment None o h none =
    let is : with_added (S.steps + 1) moment o S.runs ≡ S.runs = ap (λ a. with_added (S.steps + 1) moment a S.runs) none in
    let P : List Journal → Type 0 = λ Js. AllByRecursion (IsFormed (S.steps + 1)) Js in
    record { says = ap (map state_of) is ∙ sym (ap (λ s. s.runs) h.says); formed = subst P (sym is) (all-later S.steps S.runs h.formed) }
added-done S v moment (Some m) o h (facts, added, fits) =
    let n = m.index in
    let K = slice_index_or S.runs n [] ++ entries (S.steps + 1) moment 0 facts in
    let is = added-is S moment m facts o added in
    let known-runs : map state_of S.runs ≡ states v.runs = sym (ap (λ s. s.runs) h.says) in
    let stands = (added-stands S v moment m facts h fits).behind in
    let P : List Journal → Type 0 = λ Js. AllByRecursion (IsFormed (S.steps + 1)) Js in
    record {
      says = ap (map state_of) is ∙ map-set S.runs n K ∙ ap (λ t. slice_set t n (state_of K)) known-runs
          ∙ ap (λ s. slice_set (states v.runs) n s) (stands.says ∙ ap (λ (c : StepFacts). after_step c.moment c.facts (state_at (states v.runs) n)) (sym fits.change));
      formed = subst P (sym is) (all-set (IsFormed (S.steps + 1)) S.runs n K (all-later S.steps S.runs h.formed) stands.formed);
    }

-- where a step deletes a run, its journal is the one without facts
none-stands : state_of [] ≡ no_run
unfolding no_run
none-stands = refl

taken-done : {T : Type 0} (S : Content) (v : ShardView) (c : Change T) (i o : Option ℕ) (Js : List Journal) (runs : List RunState) → DoneRuns S Js runs → FitsTaken v c i o → DoneRuns S (with_removed o Js) (runs_taken i runs)
taken-done S v c None o Js runs before none =
    let is : with_removed o Js ≡ Js = ap (λ t. with_removed t Js) none in
    let P : List Journal → Type 0 = λ l. AllByRecursion (IsFormed (S.steps + 1)) l in
    record { says = ap (map state_of) is ∙ before.says; formed = subst P (sym is) before.formed }
taken-done S v c (Some i) o Js runs before (removed, may, alone) =
    let place : i + 1 - 1 ≡ i = omega arith in
    let is : with_removed o Js ≡ slice_set Js i [] = ap (λ t. with_removed t Js) removed ∙ ap (λ k. slice_set Js k []) place in
    let P : List Journal → Type 0 = λ l. AllByRecursion (IsFormed (S.steps + 1)) l in
    record {
      says = ap (map state_of) is ∙ map-set Js i [] ∙ ap (λ t. slice_set t i (state_of [])) before.says ∙ ap (slice_set runs i) none-stands;
      formed = subst P (sym is) (all-set (IsFormed (S.steps + 1)) Js i [] before.formed (formed-none (S.steps + 1)));
    }

pub created-stands : {T : Type 0} (S : Content) (v : ShardView) (moment : ℕ) (n : NewRun T) (b : NewBeginning) → IsMade v moment n b → Stands (S.steps + 1) (entries (S.steps + 1) moment 0 (first_facts b)) (new_run moment b)
created-stands S v moment n b made = stands-begun S.steps moment b.request_id b.started b.facts (made.begins.fits IsLater)

created-done : {T : Type 0} (S : Content) (v : ShardView) (moment : ℕ) (n : Option (NewRun T)) (o : Option (List Fact)) (Js : List Journal) (runs : List RunState) → DoneRuns S Js runs → FitsCreated v moment n o → DoneRuns S (with_created (S.steps + 1) moment o Js) (runs_created n runs)
created-done S v moment None o Js runs before none =
    let is : with_created (S.steps + 1) moment o Js ≡ Js = ap (λ t. with_created (S.steps + 1) moment t Js) none in
    let P : List Journal → Type 0 = λ l. AllByRecursion (IsFormed (S.steps + 1)) l in
    record { says = ap (map state_of) is ∙ before.says; formed = subst P (sym is) before.formed }
created-done S v moment (Some n) o Js runs before (b, created, made) =
    let J = entries (S.steps + 1) moment 0 (first_facts b) in
    let is : with_created (S.steps + 1) moment o Js ≡ Js ++ J ∷ [] = ap (λ t. with_created (S.steps + 1) moment t Js) created in
    let stands = created-stands S v moment n b made in
    let P : List Journal → Type 0 = λ l. AllByRecursion (IsFormed (S.steps + 1)) l in
    record {
      says = ap (map state_of) is ∙ map-push state_of Js J ∙ ap (λ t. t ++ state_of J ∷ []) before.says ∙ ap (λ t. runs ++ t ∷ []) (stands.says ∙ sym made.made);
      formed = subst P (sym is) (all-push (IsFormed (S.steps + 1)) Js J before.formed stands.formed);
    }

done : {T : Type 0} (S : Content) (v : ShardView) (moment : ℕ) (c : Change T) (o : Outcome) → StandsFor v S → FitsChange v moment c o → DoneRuns S (runs_of_step S moment o) (runs_created (created_of c) (runs_taken (taken_of c) (runs_added (added_of c) (states v.runs))))
unfolding runs_of_step
done S v moment c o h fits = created-done S v moment (created_of c) o.created _ _ (taken-done S v c (taken_of c) o.removed _ _ (added-done S v moment (added_of c) o.added h fits.added) fits.taken) fits.created

-- counts change nothing else
record SameBut (S T : Content) : Type 0 where
  setup : S.setup ≡ T.setup
  runs : S.runs ≡ T.runs
  last : S.last_moment ≡ T.last_moment
  steps : S.steps ≡ T.steps

counted_alone : (c : Counting) (S : Content) → SameBut (with_count c S) S
counted_alone CountsNothing S = record { setup = refl; runs = refl; last = refl; steps = refl }
counted_alone (AcceptsFrom n) S = record { setup = refl; runs = refl; last = refl; steps = refl }
counted_alone (AcknowledgesTo n) S = record { setup = refl; runs = refl; last = refl; steps = refl }
counted_alone CountsDispatch S = record { setup = refl; runs = refl; last = refl; steps = refl }

none-shown : shown [] ≡ []
unfolding numbered placed put_all
none-shown = refl

-- what is issued for the run to which a step adds
abbrev issued_added : Option MoreOf → ShardState → List Dispatch
issued_added None s = []
issued_added (Some m) s = issued_for m s

issued-added : (S : Content) (v : ShardView) (moment : ℕ) (m : Option MoreOf) (o : Option Added) → StandsFor v S → FitsAdded v moment m o → dispatched_for S (S.steps + 1) moment o ≡ issued_added m (state v)
issued-added S v moment None o h none = ap (dispatched_for S (S.steps + 1) moment) none
issued-added S v moment (Some m) o h (facts, added, fits) =
    let n = m.index in
    let step = S.steps + 1 in
    let place : m.index + 1 - 1 ≡ n = omega arith in
    let J : ℕ → Journal = λ k. slice_index_or S.runs k [] in
    let K : ℕ → Journal = λ k. J k ++ entries step moment 0 facts in
    let stands = added-stands S v moment m facts h fits in
    let s = state_at (states v.runs) n in
    let setup : S.setup ≡ v.setup = ap (λ t. t.setup) (sym h.says) in
    ap (dispatched_for S step moment) added
    ∙ ap (λ k. dispatches_of S.setup (n + 1) (state_of (J k)) (state_of (K k)) facts) place
    ∙ ap (λ t. dispatches_of t (n + 1) (state_of (J n)) (state_of (K n)) facts) setup
    ∙ ap (λ t. dispatches_of v.setup (n + 1) t (state_of (K n)) facts) stands.before
    ∙ ap (λ t. dispatches_of v.setup (n + 1) s t facts) stands.behind.says
    ∙ ap (λ (c : StepFacts). dispatches_of v.setup (n + 1) s (after_step c.moment c.facts s) c.facts) (sym fits.change)

-- what is issued for the run that it makes
abbrev issued_created : {T : Type 0} → Option (NewRun T) → ShardState → List Dispatch
issued_created None s = []
issued_created (Some n) s = issued_new n s

issued-created : {T : Type 0} (S : Content) (v : ShardView) (moment : ℕ) (n : Option (NewRun T)) (o : Option (List Fact)) (s : ShardState) → s.setup ≡ S.setup → length s.runs ≡ length S.runs → FitsCreated v moment n o → dispatched_new S (S.steps + 1) moment o ≡ issued_created n s
issued-created S v moment None o s same count none = ap (dispatched_new S (S.steps + 1) moment) none
issued-created S v moment (Some n) o s same count (b, created, made) =
    let J = entries (S.steps + 1) moment 0 (first_facts b) in
    let k = length s.runs + 1 in
    let stands = created-stands S v moment n b made in
    let is : state_of J ≡ n.run.state = stands.says ∙ sym made.made in
    let ready : filter_map (ready_dispatch s.setup k (new_run moment b)) b.facts ≡ [] =
    ready-facts s.setup k moment _ (begun moment b.request_id b.started) b.facts (made.begins.fits IsLater) ∙ ap (λ i. option_to_list (option_and_then (queued_dispatch s.setup k (new_run moment b)) i)) made.begins.queues_none in
    ap (dispatched_new S (S.steps + 1) moment) created
    ∙ ap (λ t. dispatches_of S.setup (t + 1) (state_of []) (state_of J) (first_facts b)) (sym count)
    ∙ ap (λ t. dispatches_of t k (state_of []) (state_of J) (first_facts b)) (sym same)
    ∙ ap (λ l. filter_map (task_dispatch s.setup k) (drop (length l) (state_of J).shown) ++ filter_map (ready_dispatch s.setup k (state_of J)) b.facts) none-shown
    ∙ ap (λ (x : RunState). filter_map (task_dispatch s.setup k) (state_of J).shown ++ filter_map (ready_dispatch s.setup k x) b.facts) stands.says
    ∙ ap (λ l. filter_map (task_dispatch s.setup k) (state_of J).shown ++ l) ready
    ∙ append-nil (filter_map (task_dispatch s.setup k) (state_of J).shown)
    ∙ ap (λ (x : RunState). filter_map (task_dispatch s.setup k) x.shown) is

-- what waits after a change, by what was issued
waiting-added : (m : Option MoreOf) (s : ShardState) → waiting_added m s ≡ with_issued s.waiting (issued_added m s)
waiting-added None s = ap (λ l. record { items = l; counted = s.waiting.counted }) (sym (append-nil s.waiting.items))
waiting-added (Some m) s = refl

waiting-created : {T : Type 0} (n : Option (NewRun T)) (s : ShardState) → waiting_created n s ≡ with_issued s.waiting (issued_created n s)
waiting-created None s = ap (λ l. record { items = l; counted = s.waiting.counted }) (sym (append-nil s.waiting.items))
waiting-created (Some n) s = refl

issued-counted : (m : Option MoreOf) (k : Count) (s : ShardState) → issued_added m (after_count k s) ≡ issued_added m s
issued-counted None k s = refl
issued-counted (Some m) k s = refl

length-added : (m : Option MoreOf) (runs : List RunState) → length (runs_added m runs) ≡ length runs
length-added None runs = refl
length-added (Some m) runs = length-set runs m.index (grown m runs)

length-taken : (i : Option ℕ) (runs : List RunState) → length (runs_taken i runs) ≡ length runs
length-taken None runs = refl
length-taken (Some i) runs = length-set runs i no_run

-- what waits after a step
record Waits (S : Content) (w : Waiting Dispatch) : Type 0 where
  says : waiting_in S ≡ w
  counted : S.dispatched ≤ length S.dispatches

-- more was issued, and no dispatch was counted
left-waits : (S : Content) (v : ShardView) (B : Content) (X : List Dispatch) → StandsFor v S → B.dispatches ≡ S.dispatches ++ X → B.dispatched ≡ S.dispatched → Waits B (with_issued v.waiting X)
left-waits S v B X h all so_far =
    let W : List Dispatch → ℕ → Waiting Dispatch = λ l k. record { items = l; counted = k } in
    let were : v.waiting ≡ waiting_in S = ap (λ s. s.waiting) h.says in
    record {
      says = ap (λ l. W (drop B.dispatched l) B.dispatched) all ∙ ap (λ k. W (drop k (S.dispatches ++ X)) k) so_far
          ∙ ap (λ l. W l S.dispatched) (drop-append-le S.dispatched S.dispatches X h.counted)
          ∙ ap (λ (w : Waiting Dispatch). W (w.items ++ X) w.counted) (sym were);
      counted = omega (arith, h.counted, so_far, ap length all, length-append S.dispatches X);
    }

-- more was issued, and a count was moved on
counted-waits : (S : Content) (v : ShardView) (k : Count) (o : Counting) (B : Content) (X : List Dispatch) → StandsFor v S → FitsCount v k o → B.dispatches ≡ S.dispatches ++ X → B.dispatched ≡ S.dispatched → Waits (with_count o B) (with_issued (counted_by k v.waiting) X)
counted-waits S v count.Nothing o B X h is all so_far =
    let w = left-waits S v B X h all so_far in
    let P : Counting → Type 0 = λ c. Waits (with_count c B) (with_issued v.waiting X) in
    subst P (sym is) (record { says = w.says; counted = w.counted })
counted-waits S v (count.Accepts from) o B X h (is, counts) all so_far =
    let w = left-waits S v B X h all so_far in
    let P : Counting → Type 0 = λ c. Waits (with_count c B) (with_issued v.waiting X) in
    subst P (sym is) (record { says = w.says; counted = w.counted })
counted-waits S v (count.Acknowledges to) o B X h (is, counts) all so_far =
    let w = left-waits S v B X h all so_far in
    let P : Counting → Type 0 = λ c. Waits (with_count c B) (with_issued v.waiting X) in
    subst P (sym is) (record { says = w.says; counted = w.counted })
counted-waits S v count.Dispatch o B X h (is, counts) all so_far =
    let W : List Dispatch → ℕ → Waiting Dispatch = λ l k. record { items = l; counted = k } in
    let were : v.waiting ≡ waiting_in S = ap (λ s. s.waiting) h.says in
    let some : 0 < length (drop S.dispatched S.dispatches) = subst (λ (w : Waiting Dispatch). 0 < length w.items) were counts.some in
    let low : S.dispatched + 1 ≤ length S.dispatches = omega (arith, some, length-drop S.dispatched S.dispatches) in
    let P : Counting → Type 0 = λ c. Waits (with_count c B) (with_issued (one_counted v.waiting) X) in
    subst P (sym is) (record {
      says = ap (λ l. W (drop (B.dispatched + 1) l) (B.dispatched + 1)) all ∙ ap (λ k. W (drop (k + 1) (S.dispatches ++ X)) (k + 1)) so_far
          ∙ ap (λ l. W l (S.dispatched + 1)) (drop-append-le (S.dispatched + 1) S.dispatches X low ∙ ap (λ l. l ++ X) (sym (drop-drop 1 S.dispatched S.dispatches)))
          ∙ ap (λ (w : Waiting Dispatch). W (drop 1 w.items ++ X) (w.counted + 1)) (sym were);
      counted = omega (arith, so_far, ap length all, low, length-append S.dispatches X);
    })

-- what waits after a step that was planned
all-waits : {T : Type 0} (S : Content) (v : ShardView) (moment : ℕ) (c : Change T) (o : Outcome) (B : Content) → StandsFor v S → FitsChange v moment c o →
    B.dispatches ≡ S.dispatches ++ (dispatched_for S (S.steps + 1) moment o.added ++ dispatched_new S (S.steps + 1) moment o.created) → B.dispatched ≡ S.dispatched → Waits (with_count o.counting B) (after_change c (state v)).waiting
all-waits S v moment c o B h fits all so_far =
    let w = counted_by (count_of c) v.waiting in
    let s = after_count (count_of c) (state v) in
    let t = after_taken (taken_of c) (after_answer (answer_of c) (after_added (added_of c) s)) in
    let X = issued_added (added_of c) s in
    let Y = issued_created (created_of c) t in
    let known-runs : length (states v.runs) ≡ length S.runs = ap (λ s. length s.runs) h.says ∙ length-map S.runs state_of in
    let first : dispatched_for S (S.steps + 1) moment o.added ≡ X = issued-added S v moment (added_of c) o.added h fits.added ∙ sym (issued-counted (added_of c) (count_of c) (state v)) in
    let second : dispatched_new S (S.steps + 1) moment o.created ≡ Y = issued-created S v moment (created_of c) o.created t (ap (λ s. s.setup) h.says) (length-taken (taken_of c) (runs_added (added_of c) (states v.runs)) ∙ length-added (added_of c) (states v.runs) ∙ known-runs) fits.created in
    let issued : B.dispatches ≡ S.dispatches ++ (X ++ Y) = all ∙ ap (λ l. S.dispatches ++ (l ++ dispatched_new S (S.steps + 1) moment o.created)) first ∙ ap (λ l. S.dispatches ++ (X ++ l)) second in
    let is : (after_change c (state v)).waiting ≡ with_issued w (X ++ Y) =
    waiting-created (created_of c) t ∙ ap (λ x. with_issued x Y) (waiting-added (added_of c) s) ∙ ap (λ l. record { items = l; counted = w.counted }) (append_assoc w.items X Y) in
    subst (Waits (with_count o.counting B)) (sym is) (counted-waits S v (count_of c) o.counting B (X ++ Y) h fits.count issued so_far)

-- the transfers of the run to which a step adds
abbrev sent_added : Option MoreOf → ShardState → List Sent
sent_added None s = []
sent_added (Some m) s = transfers_for m s

sent-added : (S : Content) (v : ShardView) (moment : ℕ) (m : Option MoreOf) (o : Option Added) → StandsFor v S → FitsAdded v moment m o → sent_for S (S.steps + 1) moment o ≡ sent_added m (state v)
sent-added S v moment None o h none = ap (sent_for S (S.steps + 1) moment) none
sent-added S v moment (Some m) o h (facts, added, fits) =
    let n = m.index in
    let step = S.steps + 1 in
    let place : m.index + 1 - 1 ≡ n = omega arith in
    let J : ℕ → Journal = λ k. slice_index_or S.runs k [] in
    let K : ℕ → Journal = λ k. J k ++ entries step moment 0 facts in
    let stands = added-stands S v moment m facts h fits in
    let s = state_at (states v.runs) n in
    let setup : S.setup ≡ v.setup = ap (λ t. t.setup) (sym h.says) in
    ap (sent_for S step moment) added
    ∙ ap (λ k. transfers_of S.setup (n + 1) (state_of (J k)) (state_of (K k))) place
    ∙ ap (λ t. transfers_of t (n + 1) (state_of (J n)) (state_of (K n))) setup
    ∙ ap (λ t. transfers_of v.setup (n + 1) t (state_of (K n))) stands.before
    ∙ ap (λ t. transfers_of v.setup (n + 1) s t) stands.behind.says
    ∙ ap (λ (c : StepFacts). transfers_of v.setup (n + 1) s (after_step c.moment c.facts s)) (sym fits.change)

-- what waits after a change, by what was sent
outgoing-added : (m : Option MoreOf) (s : ShardState) → outgoing_added m s ≡ with_all_sent (sent_added m s) 0 s.outgoing
outgoing-added None s = sym (with_all_sent-nil 0 s.outgoing)
outgoing-added (Some m) s = refl

outgoing-answered : (a : Option Sent) (all : List (Waiting TransferContent)) → outgoing_answered a all ≡ with_all_sent (option_to_list a) 0 all
outgoing-answered None all = sym (with_all_sent-nil 0 all)
outgoing-answered (Some a) all = refl

sent-counted : (m : Option MoreOf) (k : Count) (s : ShardState) → sent_added m (after_count k s) ≡ sent_added m s
sent-counted None k s = refl
sent-counted (Some m) k s = refl

answer-is : (v : ShardView) (a : Option Sent) (o : List Sent) → FitsAnswer v a o → o ≡ option_to_list a
answer-is v None o is = is
answer-is v (Some a) o (is, counts) = is

-- what waits of a content's transfers, where what is acknowledged was issued
record Sends (C : Content) (all : List (Waiting TransferContent)) : Type 0 where
  says : map rest_of C.outgoing ≡ all
  issued : AreIssued C.outgoing

-- more was sent, and a count was moved on
counted-sends : (v : ShardView) (k : Count) (o : Counting) (S B : Content) (X : List Sent) → FitsCount v k o → map rest_of S.outgoing ≡ v.outgoing → AreIssued S.outgoing → B.outgoing ≡ content.with_all_sent X 0 S.outgoing
    → Sends (with_count o B) (with_all_sent X 0 (acknowledged_by k v.outgoing))
counted-sends v k o S B X fits says issued sent = by k o fits
  where
    now : Sends B (with_all_sent X 0 v.outgoing)
    now = record {
      says = ap (map rest_of) sent ∙ rest-sent X 0 S.outgoing issued ∙ ap (with_all_sent X 0) says;
      issued = subst AreIssued (sym sent) (issued-sent X 0 S.outgoing issued);
    }

    by : (k : Count) (o : Counting) → FitsCount v k o → Sends (with_count o B) (with_all_sent X 0 (acknowledged_by k v.outgoing))
    by count.Nothing o is = subst (λ c. Sends (with_count c B) (with_all_sent X 0 v.outgoing)) (sym is) now
    by count.Dispatch o (is, counts) = subst (λ c. Sends (with_count c B) (with_all_sent X 0 v.outgoing)) (sym is) (record { says = now.says; issued = now.issued })
    by (count.Accepts from) o (is, counts) = subst (λ c. Sends (with_count c B) (with_all_sent X 0 v.outgoing)) (sym is) (record { says = now.says; issued = now.issued })
    by (count.Acknowledges to) o (is, counts) =
        let more = waits-more X 0 v.outgoing to counts.some in
        subst (λ c. Sends (with_count c B) (with_all_sent X 0 (counted_to v.outgoing to))) (sym is)
        (record {
          says = rest-counted B.outgoing to ∙ ap (λ l. counted_to l to) now.says ∙ counted-sent X v.outgoing to counts.some;
          issued = acknowledged-issued B.outgoing to now.issued (subst (λ l. 0 < length (waiting_to l to).items) (sym now.says) more);
        })

counted-accepts : (v : ShardView) (k : Count) (o : Counting) (B : Content) → FitsCount v k o → (with_count o B).accepted ≡ accepted_by k B.accepted
counted-accepts v count.Nothing o B is = ap (λ c. (with_count c B).accepted) is
counted-accepts v count.Dispatch o B (is, counts) = ap (λ c. (with_count c B).accepted) is
counted-accepts v (count.Accepts from) o B (is, counts) = ap (λ c. (with_count c B).accepted) is
counted-accepts v (count.Acknowledges to) o B (is, counts) = ap (λ c. (with_count c B).accepted) is

-- what waits for each shard after a step that was planned
all-sends : {T : Type 0} (S : Content) (v : ShardView) (moment : ℕ) (c : Change T) (o : Outcome) (B : Content) → StandsFor v S → FitsChange v moment c o →
    B.outgoing ≡ content.with_all_sent (sent_for S (S.steps + 1) moment o.added ++ o.answers) 0 S.outgoing → Sends (with_count o.counting B) (after_change c (state v)).outgoing
all-sends S v moment c o B h fits all =
    let s = after_count (count_of c) (state v) in
    let X = sent_added (added_of c) s in
    let Y = option_to_list (answer_of c) in
    let first : sent_for S (S.steps + 1) moment o.added ≡ X = sent-added S v moment (added_of c) o.added h fits.added ∙ sym (sent-counted (added_of c) (count_of c) (state v)) in
    let sent : B.outgoing ≡ content.with_all_sent (X ++ Y) 0 S.outgoing = all ∙ ap (λ l. content.with_all_sent (l ++ o.answers) 0 S.outgoing) first ∙ ap (λ l. content.with_all_sent (X ++ l) 0 S.outgoing) (answer-is v (answer_of c) o.answers fits.answer) in
    let sends = counted-sends v (count_of c) o.counting S B (X ++ Y) fits.count (sym (ap (λ (t : ShardState). t.outgoing) h.says)) h.issued sent in
    record {
      says = sends.says ∙ with_all_sent-behind X Y s.outgoing ∙ ap (with_all_sent Y 0) (sym (outgoing-added (added_of c) s)) ∙ sym (outgoing-answered (answer_of c) (outgoing_added (added_of c) s));
      issued = sends.issued;
    }

-- the content after a step of that outcome, but for its counts
step_content : Content → ℕ → Outcome → Content
step_content S moment o = content_after S moment (record o { counting = CountsNothing })

-- the shard stands for the content after the step that was planned
pub stands-after : {T : Type 0} (v w : ShardView) (S : Content) (m : ℕ) (o : Outcome) (plan : Plan T) → StandsFor v S → FitsStep v plan m o → KeepsHistories S (content_after S m o) → state w ≡ state_after plan (state v) → StandsFor w (content_after S m o)
unfolding runs_of_step step_content
stands-after v w S m o plan stands fits kept did =
    let B = step_content S m o in
    let C = content_after S m o in
    let D = after_change plan.change (state v) in
    let keeps = counted_alone o.counting B in
    let runs = done S v m plan.change o stands fits.change in
    let waits : Waits C D.waiting = all-waits S v m plan.change o B stands fits.change refl refl in
    let sends : Sends C D.outgoing = all-sends S v m plan.change o B stands fits.change refl in
    let accepts : C.accepted ≡ D.accepted = counted-accepts v (count_of plan.change) o.counting B fits.change.count ∙ ap (accepted_by (count_of plan.change)) (sym (ap (λ s. s.accepted) stands.says)) in
    let P : List Journal → Type 0 = λ Js. AllByRecursion (IsFormed C.steps) Js in
    let Q : ℕ → Type 0 = λ k. AllByRecursion (IsFormed k) (runs_of_step S m o) in
    let K : Setup → List RunState → ℕ → Waiting Dispatch → List (Waiting TransferContent) → List ℕ → ShardState = λ setup rs last w out acc. record { setup = setup; runs = rs; last = last; waiting = w; outgoing = out; accepted = acc } in
    record {
      says = did
          ∙ ap (λ t. K v.setup D.runs t D.waiting D.outgoing D.accepted) fits.moment
          ∙ ap (λ t. K t D.runs m D.waiting D.outgoing D.accepted) (ap (λ s. s.setup) stands.says ∙ sym keeps.setup)
          ∙ ap (λ t. K C.setup t m D.waiting D.outgoing D.accepted) (sym runs.says ∙ ap (map state_of) (sym keeps.runs))
          ∙ ap (λ t. K C.setup (map state_of C.runs) t D.waiting D.outgoing D.accepted) (sym keeps.last)
          ∙ ap (λ t. K C.setup (map state_of C.runs) C.last_moment t D.outgoing D.accepted) (sym waits.says)
          ∙ ap (λ t. K C.setup (map state_of C.runs) C.last_moment (waiting_in C) t D.accepted) (sym sends.says)
          ∙ ap (λ t. K C.setup (map state_of C.runs) C.last_moment (waiting_in C) (map rest_of C.outgoing) t) (sym accepts);
      formed = subst P (sym keeps.runs) (subst Q (sym keeps.steps) runs.formed);
      counted = waits.counted;
      issued = sends.issued;
      one = kept.one stands.one;
      aged = (kept.aged stands.one stands.aged).0;
    }

-- a run of this workflow ID keeps its ID in each step
pub id-of-begun : (at : ℕ) (more : List Fact) (request : Option (List ℕ)) (a : StartedAttributes) → id_of (after_step at more (begun at request a)) ≡ a.workflow_id
id-of-begun at more request a = ap (λ (o : Option Beginning). unwrap_or (option_map (λ (b : Beginning). b.attributes.workflow_id) o) []) (beginning-stays at more (begun at request a))

-- and is there
pub there-begun : (at : ℕ) (more : List Fact) (request : Option (List ℕ)) (a : StartedAttributes) → is_there (after_step at more (begun at request a)) ≡ true
there-begun at more request a = ap (λ (o : Option Beginning). is_some o) (beginning-stays at more (begun at request a))

grows-same : (n : ℕ) (runs : List RunState) (s : RunState) → slice_get runs n ≡ Some s → (t : RunState) × (more : List Event) × (slice_get runs n ≡ Some t) × ((t ≡ no_run) ⊎ (t.shown ≡ s.shown ++ more))
grows-same n runs s h = (s, [], h, inr (sym (append-nil s.shown)))

get-push : (n : ℕ) (runs : List RunState) (r s : RunState) → slice_get runs n ≡ Some s → slice_get (runs ++ r ∷ []) n ≡ Some s
get-push n [] r s h = absurd (cc)
get-push zero (x ∷ runs) r s h = h
get-push (suc n) (x ∷ runs) r s h = get-push n runs r s h

grows-set : (n i : ℕ) (runs : List RunState) (new s : RunState) → ((d : RunState) → Begins (slice_index_or runs i d).shown new.shown) → slice_get runs n ≡ Some s → (t : RunState) × (more : List Event) × (slice_get (slice_set runs i new) n ≡ Some t) × ((t ≡ no_run) ⊎ (t.shown ≡ s.shown ++ more))
grows-set n i [] new s begins h = absurd (cc)
grows-set zero zero (x ∷ runs) new s begins h = let b = begins x in (new, b.more, refl, inr (b.is ∙ ap (λ l. l ++ b.more) (ap (λ (y : RunState). y.shown) (some-same x s h))))
  where
    some-same : (a b : RunState) → Some a ≡ Some b → a ≡ b
    some-same a b e = cc
grows-set (suc n) zero (x ∷ runs) new s begins h = grows-same n runs s h
grows-set zero (suc i) (x ∷ runs) new s begins h = grows-same 0 (x ∷ runs) s h
grows-set (suc n) (suc i) (x ∷ runs) new s begins h = grows-set n i runs new s begins h

index-any : (l : List RunState) (k : ℕ) (c d : RunState) → k < length l → slice_index_or l k c ≡ slice_index_or l k d
index-any [] k c d h = absurd (omega arith)
index-any (x ∷ l) zero c d h = refl
index-any (x ∷ l) (suc k) c d h = index-any l k c d (omega arith)

grows-added : (v : ShardView) (at : ℕ) (m : Option MoreOf) (o : Option Added) → FitsAdded v at m o → Grows (states v.runs) (runs_added m (states v.runs))
grows-added v at None o fits = record { runs = λ n s h. grows-same n (states v.runs) s h }
grows-added v at (Some m) o (facts, added, fits) =
    let old = states v.runs in
    let there : m.index < length old = omega (arith, fits.has_room.there, length-states v.runs) in
    record {
      runs = λ n s h. grows-set n m.index old (grown m old) s
          (λ d. subst (λ (x : RunState). Begins x.shown (grown m old).shown) (index-any old m.index no_run d there) (step-begins m.plan.change.moment m.plan.change.facts (state_at old m.index))) h;
    }

stays-created : {T : Type 0} (n : Option (NewRun T)) (runs : List RunState) (k : ℕ) (s : RunState) → slice_get runs k ≡ Some s → slice_get (runs_created n runs) k ≡ Some s
stays-created None runs k s there = there
stays-created (Some n) runs k s there = get-push k runs n.run.state s there

stays-taken : (i : Option ℕ) (runs : List RunState) (k : ℕ) (s : RunState) → slice_get runs k ≡ Some s → (t : RunState) × (slice_get (runs_taken i runs) k ≡ Some t) × ((t ≡ no_run) ⊎ (t ≡ s))
stays-taken None runs k s there = (s, there, inr refl)
stays-taken (Some i) runs k s there = in_set runs i k there
  where
    in_set : (runs : List RunState) (i k : ℕ) → slice_get runs k ≡ Some s → (t : RunState) × (slice_get (slice_set runs i no_run) k ≡ Some t) × ((t ≡ no_run) ⊎ (t ≡ s))
    in_set [] i k h = absurd (cc)
    in_set (x ∷ runs) zero zero h = (no_run, refl, inl refl)
    in_set (x ∷ runs) zero (suc k) h = (s, h, inr refl)
    in_set (x ∷ runs) (suc i) zero h = (s, h, inr refl)
    in_set (x ∷ runs) (suc i) (suc k) h = in_set runs i k h

-- each older run showed before what it shows first after, or was deleted
pub grows-after : {T : Type 0} (v : ShardView) (at : ℕ) (plan : Plan T) (o : Outcome) (w : ShardView) → FitsChange v at plan.change o → state w ≡ state_after plan (state v) → Grows (states v.runs) (states w.runs)
grows-after v at plan o w fits did =
    let now = runs_added (added_of plan.change) (states v.runs) in
    let later = runs_taken (taken_of plan.change) now in
    subst (λ runs. Grows (states v.runs) runs) (sym (ap (λ s. s.runs) did)) (record {
      runs = λ n s there.
          let (t, more, found, is) = (grows-added v at (added_of plan.change) o.added fits.added).runs n s there in
          let (u, kept, how) = stays-taken (taken_of plan.change) now n t found in (
            u,
            more,
            stays-created (created_of plan.change) later n u kept,
            ⊎_elim (λ e. inl e) (λ (e : u ≡ t). ⊎_elim (λ f. inl (e ∙ f)) (λ f. inr (ap (λ (x : RunState). x.shown) e ∙ f)) is) how,
          );
    })

-- nothing may come to a closed run
pub no-facts : (at : ℕ) (s : RunState) (fs : List Fact) → is_open s ≡ false → FitStep at s fs → fs ≡ []
no-facts at s [] over fits = refl
no-facts at s (an_event f ∷ fs) over fits = absurd (cc (over, fits.0.open_run))
no-facts at s (a_note n ∷ fs) over fits = absurd (cc (over, fits.0.open_run))
