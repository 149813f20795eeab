-- what is so of the contents at which the shards of a service start, and of all that follow
use Rattle.std.proofs.Common.{◌≡◌, ℕ, ◌+◌, ◌<◌, Bool, true, false, zero, suc, List, [], ◌∷◌, refl, sym, ap, ◌∙◌, subst, arith, Option, Some, None}
use Rattle.std.proofs.lemmas.List.{length-replicate}
use Rattle.std.proofs.lemmas.List.FromFn.{length-map-range_with_len}
use Rattle.std.proofs.lemmas.Option.{slice_get_within}
use Rattle.std.specs.Prelude.{All, cond, filter_map, flat_map, length, map, option_and_then, option_map, slice_get, slice_index_or, ◌&&◌, ◌==◌}
use Rattle.std.specs.List.{AllByRecursion, cons_option, enumerate_from, range_with_len}
use Rattle.wf_event.specs.declared.attributes.Attributes.{Attributes}
use Rattle.wf_event.specs.declared.attributes.Attributes.TheVariants.{WorkflowTaskScheduled, ActivityTaskScheduled}
use Rattle.wf_event.specs.declared.event.Event.{Event}
use Rattle.wf_event.specs.declared.payloads.ActivityTaskScheduled.{ActivityTaskScheduled as ScheduledAttributes}
use Rattle.wf_event_values.specs.declared.policies.TaskKind.TheVariants.{Activity}
use Rattle.service_model_types.specs.declared.content.Content.{Content}
use Rattle.service_model_types.specs.declared.content.Dispatch.{Dispatch}
use Rattle.service_model_types.specs.declared.content.Setup.{Setup}
use Rattle.service_model_types.specs.declared.settings.Settings.{Settings}
use Rattle.service_model.specs.Deadlines.{scheduled_fields}
use Rattle.service_model.specs.Issued.{row_dispatch, task_dispatch}
use Rattle.service_model.specs.RunState.{ActivityRow, RunState, last_task, state_of}
use Rattle.service_model.specs.Service.{Entry, after, opening}
use Rattle.service_model.specs.Tasks.{is_queued, is_scheduled_task, pending_row}
use Rattle.service_model.specs.Waiting.{queued_dispatch, waiting, waiting_of, waiting_task}
use Rattle.service_model.proofs.DispatchLemmas.{IfOf, IsOf}
use Rattle.service_model.proofs.GroundLemmas.{setup-stays}
use Rattle.service_model.proofs.QueueLemmas.{all-both as all-append}
use Rattle.service_model.proofs.ShownLemmas.{all-kept}
use Rattle.gate.specs.Records.{replay}
use Rattle.shard_gate.specs.Sources.{hinted}
use Rattle.shard_gate.specs.Starts.{Start, content_behind, opened_with, waiting_in}
use Rattle.shard_gate.specs.declared.source.Source.{Source}
use Rattle.shard_gate.specs.declared.source.Source.TheVariants.{Records as FromRecords, Journal as FromJournal}
use Rattle.service.specs.Contents.{opening_contents, setup_of}
use Rattle.service.specs.ServiceViews.{Service}
use Rattle.service.specs.Services.{IsOpened}
use Rattle.service.specs.Starting.{AreStarts, IsStart, start_of}
use Rattle.service.proofs.ReopenLemmas.{each-at}

-- the content of a shard without runs may start one
start-empty : (K : Settings) (shard : ℕ) → IsStart K shard (opening (setup_of K shard))
start-empty K shard = record { setup = refl; accepted = length-replicate K.shards 0; dispatches = tt }

empty-from : (K : Settings) (n m k : ℕ) (S : Content) → slice_get (map (λ shard. opening (setup_of K shard)) (range_with_len n m)) k ≡ Some S → IsStart K (n + k) S
empty-from K n zero k S there = absurd (cc there)
empty-from K n (suc m) zero S there =
    let here : opening (setup_of K n) ≡ S = cc there in
    let place : n ≡ n + 0 = omega arith in
    subst (λ i. IsStart K i S) place (subst (IsStart K n) here (start-empty K n))
empty-from K n (suc m) (suc k) S there =
    let place : (n + 1) + k ≡ n + suc k = omega arith in
    subst (λ i. IsStart K i S) place (empty-from K (n + 1) m k S there)

-- so may those of all shards
pub starts-empty : (K : Settings) → AreStarts K (opening_contents K)
starts-empty K = record {
  count = length-map-range_with_len (λ shard. opening (setup_of K shard)) 0 K.shards;
  each = λ k S there. let place : 0 + k ≡ k = omega arith in subst (λ i. IsStart K i S) place (empty-from K 0 K.shards k S there);
}

at-or : {A : Type 0} (P : A → Type 0) (xs : List A) (k : ℕ) (d : A) → ((x : A) → slice_get xs k ≡ Some x → P x) → P d → P (slice_index_or xs k d)
at-or P [] k d there other = other
at-or P (x ∷ xs) zero d there other = there x refl
at-or P (x ∷ xs) (suc k) d there other = at-or P xs k d there other

-- what is so of the content at which any shard of a service started
pub start-is-fit : (x : Service) → IsOpened x → (shard : ℕ) → IsStart x.settings shard (start_of x shard)
start-is-fit x opened shard =
    at-or (IsStart x.settings shard) x.gate.origin.starts shard (opening (setup_of x.settings shard)) (opened.starts.each shard) (start-empty x.settings shard)

pub found-at : {A : Type 0} (xs : List A) (k : ℕ) (d x : A) → slice_get xs k ≡ Some x → x ≡ slice_index_or xs k d
found-at [] k d x there = absurd (cc there)
found-at (y ∷ xs) zero d x there = let here : y ≡ x = cc there in sym here
found-at (y ∷ xs) (suc k) d x there = found-at xs k d x there

-- a content keeps its setup, and counts the same shards
pub stays : (S : Content) (R : List Entry) → ((replay after S R).setup ≡ S.setup) × (length (replay after S R).accepted ≡ length S.accepted)
stays S [] = (refl, refl)
stays S (e ∷ R) = let one = setup-stays S e.request in let rest = stays (after S e.request) R in (rest.0 ∙ one.0, rest.1 ∙ one.1)

-- so it counts each shard that there is
pub counts-all : (K : Settings) (shard : ℕ) (S : Content) (R : List Entry) → IsStart K shard S → length (replay after S R).accepted ≡ (replay after S R).setup.shards
counts-all K shard S R start =
    let kept = stays S R in
    let own : (replay after S R).setup.shards ≡ K.shards = ap (λ (u : Setup). u.shards) (kept.0 ∙ start.setup) in
    kept.1 ∙ start.accepted ∙ sym own

-- ---- the tasks that wait in a shard name it

row-names : (setup : Setup) (run : ℕ) (r : ActivityRow) → IfOf setup.shard (queued_dispatch setup run r)
row-names setup run r = by_phase (is_queued r.phase)
  where
    by_fields : (o : Option ScheduledAttributes) → IfOf setup.shard (option_map (λ (a : ScheduledAttributes). record { queue = a.task_queue; hint = record { kind = Activity; shard = setup.shard; run = run; event = r.opened.id; attempt = r.attempt } }) o)
    by_fields None = tt
    by_fields (Some a) = refl

    by_phase : (b : Bool) → IfOf setup.shard (cond b (row_dispatch setup run r) None)
    by_phase true = by_fields (scheduled_fields r.opened.attributes)
    by_phase false = tt

task-names : (setup : Setup) (run : ℕ) (s : RunState) (id at : ℕ) (a : Attributes) → IfOf setup.shard (waiting_task setup run s (record { id = id; at = at; attributes = a }))
task-names setup run s id at (WorkflowTaskScheduled a) = by_phase (is_scheduled_task s.task && ((last_task s).scheduled == id))
  where
    by_phase : (b : Bool) → IfOf setup.shard (cond b (task_dispatch setup run (record { id = id; at = at; attributes = WorkflowTaskScheduled a })) None)
    by_phase true = refl
    by_phase false = tt
task-names setup run s id at (ActivityTaskScheduled a) = by_row (pending_row s id)
  where
    by_row : (o : Option ActivityRow) → IfOf setup.shard (option_and_then (queued_dispatch setup run) o)
    by_row None = tt
    by_row (Some r) = row-names setup run r
task-names setup run s id at _ = tt

tasks-name : (shard : ℕ) (f : Event → Option Dispatch) (es : List Event) → ((e : Event) → IfOf shard (f e)) → AllByRecursion (IsOf shard) (filter_map f es)
tasks-name shard f [] each = tt
tasks-name shard f (e ∷ es) each = one (f e) (each e) (tasks-name shard f es each)
  where
    one : (o : Option Dispatch) → IfOf shard o → AllByRecursion (IsOf shard) (filter_map f es) → AllByRecursion (IsOf shard) (cons_option o (filter_map f es))
    one None h rest = rest
    one (Some d) h rest = (h, rest)

runs-name : (setup : Setup) (n : ℕ) (states : List RunState) → AllByRecursion (IsOf setup.shard) (flat_map (λ (p : ℕ × RunState). waiting_of setup p.0 p.1) (enumerate_from n states))
runs-name setup n [] = tt
runs-name setup n (s ∷ states) =
    all-append (IsOf setup.shard) (waiting_of setup n s) _ (tasks-name setup.shard (waiting_task setup n s) s.shown (λ e. task-names setup n s e.id e.at e.attributes)) (runs-name setup (n + 1) states)

hints-name : (source : Source) (S : Content) → AllByRecursion (IsOf S.setup.shard) (hinted source S)
hints-name FromRecords S = runs-name S.setup 1 (map state_of S.runs)
hints-name FromJournal S = all-kept (IsOf S.setup.shard) _ (waiting S) (runs-name S.setup 1 (map state_of S.runs))

all-weaker : {A : Type 0} (P Q : A → Type 0) (xs : List A) → ((x : A) → P x → Q x) → AllByRecursion P xs → AllByRecursion Q xs
all-weaker P Q [] more h = tt
all-weaker P Q (x ∷ xs) more h = (more x h.0, all-weaker P Q xs more h.1)

-- a hint of a shard that is there
abbrev IsThere : Settings → Dispatch → Type 0
IsThere K d = d.hint.shard < K.shards

all-there : (source : Source) (K : Settings) (gs : List Start) → ((k : ℕ) (S : Content) → slice_get (opened_with gs) k ≡ Some S → S.setup.shard < K.shards) → AllByRecursion (IsThere K) (waiting_in source gs)
all-there source K [] below = tt
all-there source K (g ∷ gs) below =
    let own : (content_behind g).setup.shard ≡ g.0.setup.shard = ap (λ (u : Setup). u.shard) (stays g.0 g.1).0 in
    let low : (content_behind g).setup.shard < K.shards = subst (λ n. n < K.shards) (sym own) (below 0 g.0 refl) in
    all-append (IsThere K) (hinted source (content_behind g)) (waiting_in source gs)
    (all-weaker (IsOf (content_behind g).setup.shard) (IsThere K) (hinted source (content_behind g)) (λ d is. subst (λ n. n < K.shards) (sym is) low) (hints-name source (content_behind g)))
    (all-there source K gs (λ k S there. below (suc k) S there))

-- all tasks that wait after these records name shards that are there
pub waiting-below : (source : Source) (K : Settings) (gs : List Start) → AreStarts K (opened_with gs) → All (λ (d : Dispatch). d.hint.shard < K.shards) (waiting_in source gs)
waiting-below source K gs starts = λ k d below.
    each-at (IsThere K) (waiting_in source gs)
    (all-there source K gs (λ n S there.
    let place : n < K.shards = (let within = slice_get_within (opened_with gs) n S there in omega (arith, within, starts.count)) in
    subst (λ i. i < K.shards) (sym (ap (λ (u : Setup). u.shard) (starts.each n S there).setup)) place))
    k d below
