-- the latest run of a workflow ID, as runs are added and grow
use Rattle.std.proofs.Common.{◌≡◌, ℕ, ◌+◌, ◌-◌, ◌<◌, ◌≤◌, Bool, true, false, subst, List, [], ◌∷◌, ◌++◌, length, refl, sym, ap, ◌∙◌, arith, zero, suc, slice_index_or, slice_set, cond, Option, Some, None, IfSome}
use Rattle.std.proofs.lemmas.List.{length-map}
use Rattle.std.specs.Prelude.{◌&&◌, bytes_eq, is_some, option_map, unwrap_or}
use Rattle.std.specs.List.{enumerate_from}
use Rattle.service_model.specs.Journal.{latest, first_some}
use Rattle.service_model.specs.RunState.{Beginning, RunState, no_run, id_of, is_there}
use Rattle.service_model.specs.Outcome.{Runs, latest_run, run_at}
use Rattle.service_model.proofs.ListLemmas.{map-push}
use Rattle.mutable_state.specs.RunView.{RunView}
use Rattle.shard_store.specs.Fitting.{state_at}
use Rattle.shard_store.specs.ShardView.{IsIndexed, ShardView, ordinal_of, run_in, runs_in, states}
use Rattle.shard_store.proofs.PlaceLemmas.{none-there}

-- whether a run is there and has this workflow ID, by how it began
abbrev pub bears : List ℕ → RunState → Bool
bears id s = is_there s && bytes_eq (id_of s) id

-- the same, where the ordinals count from k
unfoldable pub latest_from : ℕ → List ℕ → List RunState → Option ℕ
latest_from k id runs = latest (λ (p : ℕ × RunState). cond (bears id p.1) (Some p.0) None) (enumerate_from k runs)

first_some_cond : (b : Bool) (k : ℕ) (o : Option ℕ) → first_some (cond b (Some k) None) o ≡ cond b (Some k) o
first_some_cond true k o = refl
first_some_cond false k o = refl

first_some_assoc : (a b c : Option ℕ) → first_some (first_some a b) c ≡ first_some a (first_some b c)
first_some_assoc None b c = refl
first_some_assoc (Some n) b c = refl

latest_from-append : (k : ℕ) (id : List ℕ) (runs : List RunState) (run : RunState) →
    latest_from k id (runs ++ run ∷ []) ≡ first_some (cond (bears id run) (Some (length runs + k)) None) (latest_from k id runs)
unfolding latest_from
latest_from-append k id [] run = only (bears id run) k (0 + k) (omega arith)
  where
    only : (b : Bool) (m n : ℕ) → n ≡ m → cond b (Some m) None ≡ first_some (cond b (Some n) None) None
    only true m n e = ap Some (sym e)
    only false m n e = refl
latest_from-append k id (r ∷ runs) run =
    let count : length runs + (k + 1) ≡ length (r ∷ runs) + k = omega arith in
    let here : Option ℕ = cond (bears id r) (Some k) None in
    ap (λ o. first_some o here) (latest_from-append (k + 1) id runs run ∙ ap (λ n. first_some (cond (bears id run) (Some n) None) (latest_from (k + 1) id runs)) count)
    ∙ first_some_assoc (cond (bears id run) (Some (length (r ∷ runs) + k)) None) (latest_from (k + 1) id runs) here

pub length-states : (runs : List RunView) → length (states runs) ≡ length runs
length-states runs = length-map runs (λ (r : RunView). r.state)

pub states-push : (runs : List RunView) (run : RunView) → states (runs ++ run ∷ []) ≡ states runs ++ run.state ∷ []
states-push runs run = map-push (λ (r : RunView). r.state) runs run

pub states-set : (runs : List RunView) (n : ℕ) (run : RunView) → states (slice_set runs n run) ≡ slice_set (states runs) n run.state
states-set [] n run = refl
states-set (r ∷ runs) zero run = refl
states-set (r ∷ runs) (suc n) run = ap (λ t. r.state ∷ t) (states-set runs n run)

pub states-at : (runs : List RunView) (n : ℕ) (d : RunView) → n < length runs → slice_index_or (states runs) n no_run ≡ (slice_index_or runs n d).state
states-at [] n d h = absurd (omega arith)
states-at (r ∷ runs) zero d h = refl
states-at (r ∷ runs) (suc n) d h = states-at runs n d (omega arith)

-- a run whose state is as it was
pub states-same : (runs : List RunView) (n : ℕ) (was now : RunView) → n < length runs → was ≡ slice_index_or runs n was → now.state ≡ was.state → states (slice_set runs n now) ≡ states runs
states-same [] n was now there is same = refl
states-same (r ∷ runs) zero was now there is same = ap (λ s. s ∷ states runs) (same ∙ ap (λ (v : RunView). v.state) is)
states-same (r ∷ runs) (suc n) was now there is same = ap (λ t. r.state ∷ t) (states-same runs n was now (omega arith) is same)

-- a new run is the latest of its workflow ID
pub latest_run-push : (id : List ℕ) (runs : List RunView) (run : RunView) (key : List ℕ) → is_there run.state ≡ true → id_of run.state ≡ key →
    latest_run (states (runs ++ run ∷ [])) id ≡ cond (bytes_eq key id) (Some (length runs + 1)) (latest_run (states runs) id)
unfolding latest_run latest_from
latest_run-push id runs run key there named =
    let all : latest_run (states runs ++ run.state ∷ []) id ≡ first_some (cond (bears id run.state) (Some (length (states runs) + 1)) None) (latest_run (states runs) id) = latest_from-append 1 id (states runs) run.state in
    ap (λ t. latest_run t id) (states-push runs run) ∙ all
    ∙ first_some_cond (bears id run.state) (length (states runs) + 1) (latest_run (states runs) id)
    ∙ ap (λ n. cond (bears id run.state) (Some (n + 1)) (latest_run (states runs) id)) (length-states runs)
    ∙ ap (λ b. cond (b && bytes_eq (id_of run.state) id) (Some (length runs + 1)) (latest_run (states runs) id)) there
    ∙ ap (λ w. cond (bytes_eq w id) (Some (length runs + 1)) (latest_run (states runs) id)) named

-- the place of a run that was deleted is no workflow ID's latest run's
pub latest_run-gone : (id : List ℕ) (runs : List RunView) (run : RunView) → is_there run.state ≡ false → latest_run (states (runs ++ run ∷ [])) id ≡ latest_run (states runs) id
unfolding latest_run latest_from
latest_run-gone id runs run gone =
    let all : latest_run (states runs ++ run.state ∷ []) id ≡ first_some (cond (bears id run.state) (Some (length (states runs) + 1)) None) (latest_run (states runs) id) = latest_from-append 1 id (states runs) run.state in
    ap (λ t. latest_run t id) (states-push runs run) ∙ all
    ∙ first_some_cond (bears id run.state) (length (states runs) + 1) (latest_run (states runs) id)
    ∙ ap (λ b. cond (b && bytes_eq (id_of run.state) id) (Some (length (states runs) + 1)) (latest_run (states runs) id)) gone

-- the same by how the run began
abbrev bears_by : List ℕ → Option Beginning → Bool
bears_by id o = is_some o && bytes_eq (unwrap_or (option_map (λ (b : Beginning). b.attributes.workflow_id) o) []) id

latest_from-set : (k : ℕ) (id : List ℕ) (runs : List RunState) (n : ℕ) (run : RunState) → run.beginning ≡ (slice_index_or runs n no_run).beginning → latest_from k id (slice_set runs n run) ≡ latest_from k id runs
unfolding latest_from
latest_from-set k id [] n run same = refl
latest_from-set k id (r ∷ runs) zero run same = ap (λ o. first_some (latest_from (k + 1) id runs) (cond (bears_by id o) (Some k) None)) same
latest_from-set k id (r ∷ runs) (suc n) run same = ap (λ o. first_some o (cond (bears id r) (Some k) None)) (latest_from-set (k + 1) id runs n run same)

-- a run that began as it did changes no latest run
pub latest_run-set : (id : List ℕ) (runs : List RunState) (n : ℕ) (run : RunState) → run.beginning ≡ (slice_index_or runs n no_run).beginning → latest_run (slice_set runs n run) id ≡ latest_run runs id
unfolding latest_run latest_from
latest_run-set id runs n run same = latest_from-set 1 id runs n run same

within_more : (k top : ℕ) (here : Bool) (o : Option ℕ) → k < top → IfSome o (λ n. (k + 1 ≤ n) × (n < top)) → IfSome (first_some o (cond here (Some k) None)) (λ n. (k ≤ n) × (n < top))
within_more k top here (Some n) h below = (omega (arith, below.0), below.1)
within_more k top true None h below = (omega arith, h)
within_more k top false None h below = tt

latest_from-within : (k top : ℕ) (id : List ℕ) (runs : List RunState) → k + length runs ≤ top → IfSome (latest_from k id runs) (λ n. (k ≤ n) × (n < top))
unfolding latest_from
latest_from-within k top id [] h = tt
latest_from-within k top id (r ∷ runs) h = within_more k top (bears id r) (latest_from (k + 1) id runs) (omega arith) (latest_from-within (k + 1) top id runs (omega arith))

to_range : (top : ℕ) (o : Option ℕ) → IfSome o (λ n. (1 ≤ n) × (n < top + 1)) → IfSome o (λ n. (1 ≤ n) × (n ≤ top))
to_range top None h = tt
to_range top (Some n) h = (h.0, omega (arith, h.1))

-- the latest run is one of the shard's
pub latest_run-within : (id : List ℕ) (runs : List RunView) → IfSome (latest_run (states runs) id) (λ n. (1 ≤ n) × (n ≤ length runs))
unfolding latest_run latest_from
latest_run-within id runs = to_range (length runs) (latest_run (states runs) id) (latest_from-within 1 (length runs + 1) id (states runs) (omega (arith, length-states runs)))

-- a place whose ordinal is that of one of the runs
pub place-within : (count : ℕ) (place found : Option ℕ) → option_map ordinal_of place ≡ found → IfSome found (λ n. (1 ≤ n) × (n ≤ count)) → IfSome place (λ i. i < count)
place-within count None found is h = tt
place-within count (Some i) found is h = let w = subst (λ o. IfSome o (λ n. (1 ≤ n) × (n ≤ count))) (sym is) h in omega (arith, w.1)

-- a run that is there is at one of the places
pub there-within : (runs : List RunState) (i : ℕ) → is_there (state_at runs i) ≡ true → i < length runs
there-within [] i h = absurd (let clash = sym none-there ∙ h in cc)
there-within (r ∷ runs) zero h = omega arith
there-within (r ∷ runs) (suc i) h = omega (arith, there-within runs i h)

-- the run with the ordinal of a place stands there
pub at-place : (R : Runs) (i : ℕ) → run_at R (ordinal_of i) ≡ state_at R.states i
at-place R i = let place : ordinal_of i - 1 ≡ i = omega arith in ap (λ k. slice_index_or R.states k no_run) place

-- what is known of the run at a place, where these are the places of the shard
pub run-at : (v : ShardView) (runs : List RunView) (i : ℕ) (d : RunView) → runs ≡ v.runs → i < length runs → (slice_index_or runs i d).state ≡ run_in v i
run-at v runs i d is low = sym (states-at runs i d low) ∙ ap (λ l. state_at (states l) i) is ∙ sym (at-place (runs_in v) i)

pub run-within : (v : ShardView) (runs : List RunView) (i : ℕ) → runs ≡ v.runs → is_there (run_in v i) ≡ true → i < length runs
run-within v runs i is there =
    let low = there-within (states v.runs) i (ap is_there (sym (at-place (runs_in v) i)) ∙ there) in
    omega (arith, low, length-states v.runs, ap length is)

-- the index still knows the latest runs, where one run's state is as it was
pub indexed-same : (look : List ℕ → Option ℕ) (runs : List RunView) (n : ℕ) (was now : RunView) → n < length runs → was ≡ slice_index_or runs n was → now.state ≡ was.state → IsIndexed look runs → IsIndexed look (slice_set runs n now)
indexed-same look runs n was now there is same h = record { latest = λ id. h.latest id ∙ sym (ap (λ t. latest_run t id) (states-same runs n was now there is same)) }
