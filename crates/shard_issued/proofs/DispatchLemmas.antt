-- what a step issues, by what is looked up after it
use Rattle.std.proofs.Common.{◌≡◌, ℕ, ◌+◌, ◌-◌, ◌<◌, ◌≤◌, Bool, true, false, cond, List, [], ◌∷◌, ◌++◌, length, append-nil, refl, sym, ap, ◌∙◌, arith, zero, suc, slice_index_or, slice_set, Option, Some, None, IfSome}
use Rattle.std.proofs.lemmas.List.{get_or-set_same, length-drop}
use Rattle.std.specs.Prelude.{drop, filter_map, option_and_then, option_to_list, slice_get}
use Rattle.std.specs.List.{cons_option}
use Rattle.wf_event.specs.declared.role.Class.TheVariants.{Activity}
use Rattle.wf_event.specs.Role.{role}
use Rattle.service_model_types.specs.declared.content.Content.{Content}
use Rattle.service_model_types.specs.declared.content.Dispatch.{Dispatch}
use Rattle.service_model_types.specs.declared.content.Setup.{Setup}
use Rattle.service_model_types.specs.declared.journal.Fact.{Fact}
use Rattle.service_model_types.specs.declared.journal.Fact.TheVariants.{Event as an_event, Note as a_note}
use Rattle.service_model_types.specs.declared.journal.Note.{Note}
use Rattle.service_model_types.specs.declared.journal.Note.TheVariants.{Taken, Ended, Ready, Beat}
use Rattle.service_model.specs.Counts.{next_dispatch, dispatched, acknowledges, dispatch_answer}
use Rattle.service_model.specs.Issued.{dispatches_of, task_dispatch, ready_dispatch, row_dispatch, attempt_dispatch, queued_again, queued_by}
use Rattle.service_model.specs.Outcome.{CountsDispatch, answered}
use Rattle.service_model.specs.Pending.{is_settled}
use Rattle.service_model.specs.RunState.{RunState, no_run, row_of, held_attributes}
use Rattle.service_model.specs.Tasks.{is_started_task, pending_row}
use Rattle.mutable_state.specs.Steps.{Place, IsFirst, FitFrom, FitStep, MayQueue, after_step, all_written, noted_of, place_after, step_ended, with_event, with_noted}
use Rattle.transfer.specs.Logs.{Waiting, with_issued}
use Rattle.service_model.specs.Issued.{readied}
use Rattle.shard_issued.specs.Issuing.{DispatchesView, all_waiting, count_waiting, issued_first, issued_since, next_waiting, of_grown, of_made, queued_dispatch, waiting_in}
use Rattle.shard_issued.specs.Outstanding.{AreCaughtUp, HasShown, unchanged}
use Rattle.shard_issued.specs.declared.changed.Changed.{Changed}
use Rattle.shard_issued.proofs.EachLemmas.{index-push, shown-at}

-- at the end of a step no event that is buffered settles what none settled before
pending-at-end : (id : ℕ) (s : RunState) → is_settled Activity id (held_attributes s) ≡ false → pending_row (step_ended s) id ≡ row_of (step_ended s) id
pending-at-end id s none = by_task (is_started_task s.task)
  where
    by_task : (b : Bool) → pending_row (cond b s (all_written s)) id ≡ row_of (cond b s (all_written s)) id
    by_task true = ap (λ t. cond t None (row_of s id)) none
    by_task false = refl

readied-behind : (f g : Fact) (facts : List Fact) → readied (f ∷ g ∷ facts) ≡ readied (g ∷ facts)
readied-behind f g facts =
    let last : length (f ∷ g ∷ facts) - 1 ≡ suc (length facts) = omega arith in
    let before : length facts ≡ length (g ∷ facts) - 1 = omega arith in
    ap (λ k. option_and_then queued_again (slice_get (f ∷ g ∷ facts) k)) last ∙ ap (λ k. option_and_then queued_again (slice_get (g ∷ facts) k)) before

-- what the facts of a step queue again is what the last of them does
pub ready-facts : (setup : Setup) (run at : ℕ) (p : Place) (s : RunState) (facts : List Fact) → FitFrom p at s facts →
    filter_map (ready_dispatch setup run (after_step at facts s)) facts ≡ option_to_list (option_and_then (queued_dispatch setup run (after_step at facts s)) (readied facts))
ready-facts setup run at p s [] fits = refl
ready-facts setup run at p s (an_event f ∷ []) fits = refl
ready-facts setup run at p s (an_event f ∷ g ∷ facts) fits =
    ready-facts setup run at (place_after (role f.attributes) p) (with_event at f.request_id f.attributes s) (g ∷ facts) fits.1
    ∙ ap (λ r. option_to_list (option_and_then (queued_dispatch setup run (after_step at (g ∷ facts) (with_event at f.request_id f.attributes s))) r)) (sym (readied-behind (an_event f) g facts))
ready-facts setup run at p s (a_note n ∷ []) fits = by_note n.note fits.0.may_queue
  where
    after' : RunState
    after' = after_step at (a_note n ∷ []) s

    listed : (o : Option Dispatch) → cons_option o [] ≡ option_to_list o
    listed None = refl
    listed (Some d) = refl

    by_note : (note : Note) → MayQueue note n.activity s [] →
        cons_option (option_and_then (attempt_dispatch setup run after') (queued_by n.activity note)) [] ≡ option_to_list (option_and_then (queued_dispatch setup run after') (queued_by n.activity note))
    by_note Ready may = listed (attempt_dispatch setup run after' n.activity) ∙ ap (λ r. option_to_list (option_and_then (row_dispatch setup run) r)) (sym (pending-at-end n.activity (with_noted (noted_of at n) s) may.0))
    by_note Taken may = refl
    by_note Ended may = refl
    by_note (Beat details) may = refl
ready-facts setup run at p s (a_note n ∷ g ∷ facts) fits =
    by_note n.note fits.0.may_queue (ready-facts setup run at p (with_noted (noted_of at n) s) (g ∷ facts) fits.1)
    ∙ ap (λ r. option_to_list (option_and_then (queued_dispatch setup run (after_step at (g ∷ facts) (with_noted (noted_of at n) s))) r)) (sym (readied-behind (a_note n) g facts))
  where
    after' : RunState
    after' = after_step at (g ∷ facts) (with_noted (noted_of at n) s)

    rest : List Dispatch
    rest = option_to_list (option_and_then (queued_dispatch setup run after') (readied (g ∷ facts)))

    by_note : (note : Note) → MayQueue note n.activity s (g ∷ facts) → filter_map (ready_dispatch setup run after') (g ∷ facts) ≡ rest →
        cons_option (option_and_then (attempt_dispatch setup run after') (queued_by n.activity note)) (filter_map (ready_dispatch setup run after') (g ∷ facts)) ≡ rest
    by_note Ready may again = absurd (let clash = may.1 in cc)
    by_note Taken may again = again
    by_note Ended may again = again
    by_note (Beat details) may again = again

-- what a step issues for a run is found after it
pub issued-behind : (setup : Setup) (run at : ℕ) (s : RunState) (facts : List Fact) → FitStep at s facts →
    dispatches_of setup run s (after_step at facts s) facts ≡ issued_since setup (length s.shown) (readied facts) run (after_step at facts s)
issued-behind setup run at s facts fits = ap (λ l. filter_map (task_dispatch setup run) (drop (length s.shown) (after_step at facts s).shown) ++ l) (ready-facts setup run at IsFirst s facts fits)

-- the first that waits is the first that was not counted
at-drop : {A : Type 0} (n : ℕ) (xs : List A) → slice_get (drop n xs) 0 ≡ slice_get xs n
at-drop zero [] = refl
at-drop zero (x ∷ xs) = refl
at-drop (suc n) [] = refl
at-drop (suc n) (x ∷ xs) = at-drop n xs

pub next-is : (S : Content) → next_dispatch S.dispatches S.dispatched ≡ next_waiting (waiting_in S)
unfolding next_dispatch
next-is S = ap (λ o. answered (dispatch_answer (S.dispatched + 1) o)) (sym (at-drop S.dispatched S.dispatches))

pub count-is : (S : Content) (number : ℕ) → S.dispatched ≤ length S.dispatches → dispatched S.dispatches S.dispatched number ≡ count_waiting (waiting_in S) number
unfolding dispatched
count-is S number low =
    let all : length S.dispatches ≡ S.dispatched + length (drop S.dispatched S.dispatches) = omega (arith, low, length-drop S.dispatched S.dispatches) in
    ap (λ n. acknowledges n S.dispatched number CountsDispatch) all

-- where no run changed, all that waits was looked up
pub all-looked-up : (setup : Setup) (d : DispatchesView) (changed : Changed) (runs : List RunState) → AreCaughtUp changed → all_waiting setup d changed runs ≡ d.waiting
all-looked-up setup d changed runs caught_up =
    let W : List Dispatch → Waiting Dispatch = λ l. record { items = l; counted = d.waiting.counted } in
    ap (λ g. with_issued (with_issued d.waiting (of_grown setup d g runs)) (of_made setup changed.made runs)) caught_up.grown
    ∙ ap (λ m. with_issued (with_issued d.waiting []) (of_made setup m runs)) caught_up.made
    ∙ ap W (append-nil (d.waiting.items ++ [])) ∙ ap W (append-nil d.waiting.items)

pub get-at : (runs : List RunState) (n : ℕ) → n < length runs → slice_get runs n ≡ Some (slice_index_or runs n no_run)
get-at [] n h = absurd (omega arith)
get-at (r ∷ runs) zero h = refl
get-at (r ∷ runs) (suc n) h = get-at runs n (omega arith)

-- a run grew by the facts of a step
pub grown-waits : (setup : Setup) (d d' : DispatchesView) (changed : Changed) (runs now : List RunState) (n at : ℕ) (facts : List Fact) → AreCaughtUp changed → d'.waiting ≡ d.waiting → d'.shown ≡ d.shown → d'.ready ≡ readied facts → n < length runs → FitStep at (slice_index_or runs n no_run) facts →
    now ≡ slice_set runs n (after_step at facts (slice_index_or runs n no_run)) → HasShown d.shown changed runs →
    all_waiting setup d' (record { grown = Some n; made = None }) now ≡ with_issued (all_waiting setup d changed runs) (dispatches_of setup (n + 1) (slice_index_or runs n no_run) (after_step at facts (slice_index_or runs n no_run)) facts)
grown-waits setup d d' changed runs now n at facts caught_up same counts readies there fits is h =
    let s = slice_index_or runs n no_run in
    let w = all_waiting setup d changed runs in
    let F : Waiting Dispatch → List Dispatch → Waiting Dispatch = λ x l. with_issued (with_issued x l) [] in
    let shown : slice_index_or d'.shown n 0 ≡ length s.shown = ap (λ l. slice_index_or l n 0) counts ∙ shown-at d.shown changed runs n s caught_up (get-at runs n there) h in
    let state : slice_index_or now n no_run ≡ after_step at facts s = ap (λ l. slice_index_or l n no_run) is ∙ get_or-set_same runs n (after_step at facts s) no_run there in
    ap (λ x. F x (issued_since setup (slice_index_or d'.shown n 0) d'.ready (n + 1) (slice_index_or now n no_run))) (same ∙ sym (all-looked-up setup d changed runs caught_up))
    ∙ ap (λ x. F w (issued_since setup x d'.ready (n + 1) (slice_index_or now n no_run))) shown
    ∙ ap (λ x. F w (issued_since setup (length s.shown) x (n + 1) (slice_index_or now n no_run))) readies
    ∙ ap (λ x. F w (issued_since setup (length s.shown) (readied facts) (n + 1) x)) state
    ∙ ap (F w) (sym (issued-behind setup (n + 1) at s facts fits))
    ∙ ap (λ l. record { items = l; counted = w.counted }) (append-nil (w.items ++ dispatches_of setup (n + 1) s (after_step at facts s) facts))

at-end : {A : Type 0} (d : A) (xs : List A) (x : A) → slice_index_or (xs ++ x ∷ []) (length xs) d ≡ x
at-end d [] x = refl
at-end d (y ∷ xs) x = at-end d xs x

pub still-there : {A : Type 0} (d : A) (xs : List A) (x : A) (n : ℕ) → n < length xs → slice_index_or (xs ++ x ∷ []) n d ≡ slice_index_or xs n d
still-there d [] x n h = absurd (omega arith)
still-there d (y ∷ xs) x zero h = refl
still-there d (y ∷ xs) x (suc n) h = still-there d xs x n (omega arith)

-- what the run that grew issued is the same, where a run was added after it
grown-behind : (setup : Setup) (d d' : DispatchesView) (grown : Option ℕ) (runs : List RunState) (s : RunState) → d'.shown ≡ d.shown ++ 0 ∷ [] → d'.ready ≡ d.ready → IfSome grown (λ n. n < length runs) → of_grown setup d' grown (runs ++ s ∷ []) ≡ of_grown setup d grown runs
grown-behind setup d d' None runs s counts readies low = refl
grown-behind setup d d' (Some n) runs s counts readies low =
    ap (λ l. issued_since setup (slice_index_or l n 0) d'.ready (n + 1) (slice_index_or (runs ++ s ∷ []) n no_run)) counts
    ∙ ap (λ k. issued_since setup k d'.ready (n + 1) (slice_index_or (runs ++ s ∷ []) n no_run)) (index-push 0 d.shown n)
    ∙ ap (λ r. issued_since setup (slice_index_or d.shown n 0) r (n + 1) (slice_index_or (runs ++ s ∷ []) n no_run)) readies
    ∙ ap (λ x. issued_since setup (slice_index_or d.shown n 0) d.ready (n + 1) x) (still-there no_run runs s n low)

-- a run was added
pub added-waits : (setup : Setup) (d d' : DispatchesView) (changed : Changed) (runs now : List RunState) (n : ℕ) (s : RunState) → changed.made ≡ None → d'.waiting ≡ d.waiting → d'.shown ≡ d.shown ++ 0 ∷ [] → d'.ready ≡ d.ready → n ≡ length runs → now ≡ runs ++ s ∷ [] → HasShown d.shown changed runs →
    all_waiting setup d' (record { grown = changed.grown; made = Some n }) now ≡ with_issued (all_waiting setup d changed runs) (issued_first setup (length runs + 1) s)
added-waits setup d d' changed runs now n s none same counts readies place is h =
    let g = of_grown setup d changed.grown runs in
    let w = with_issued d.waiting g in
    let F : Waiting Dispatch → List Dispatch → ℕ → RunState → Waiting Dispatch = λ x l k t. with_issued (with_issued x l) (issued_first setup (k + 1) t) in
    let state : slice_index_or (runs ++ s ∷ []) n no_run ≡ s = ap (λ k. slice_index_or (runs ++ s ∷ []) k no_run) place ∙ at-end no_run runs s in
    ap (λ l. F d'.waiting (of_grown setup d' changed.grown l) n (slice_index_or l n no_run)) is
    ∙ ap (λ x. F x (of_grown setup d' changed.grown (runs ++ s ∷ [])) n (slice_index_or (runs ++ s ∷ []) n no_run)) same
    ∙ ap (λ l. F d.waiting l n (slice_index_or (runs ++ s ∷ []) n no_run)) (grown-behind setup d d' changed.grown runs s counts readies h.grown)
    ∙ ap (F d.waiting g n) state ∙ ap (λ k. F d.waiting g k s) place
    ∙ ap (λ x. with_issued x (issued_first setup (length runs + 1) s)) (sym (ap (λ m. with_issued w (of_made setup m runs)) none ∙ ap (λ l. record { items = l; counted = w.counted }) (append-nil w.items)))

-- what the run that grew issued was looked up
pub grown-looked-up : (setup : Setup) (d d' : DispatchesView) (made : Option ℕ) (runs : List RunState) (n : ℕ) (issued : List Dispatch) → issued ≡ issued_since setup (slice_index_or d.shown n 0) d.ready (n + 1) (slice_index_or runs n no_run) →
    d'.waiting ≡ with_issued d.waiting issued → all_waiting setup d' (record { grown = None; made = made }) runs ≡ all_waiting setup d (record { grown = Some n; made = made }) runs
grown-looked-up setup d d' made runs n issued is now =
    let F : Waiting Dispatch → Waiting Dispatch = λ x. with_issued x (of_made setup made runs) in
    ap F (ap (λ l. record { items = l; counted = d'.waiting.counted }) (append-nil d'.waiting.items) ∙ now ∙ ap (with_issued d.waiting) is)

-- what the run that was made issued was looked up
pub made-looked-up : (setup : Setup) (d d' : DispatchesView) (runs : List RunState) (n : ℕ) (issued : List Dispatch) → issued ≡ issued_first setup (n + 1) (slice_index_or runs n no_run) →
    d'.waiting ≡ with_issued d.waiting issued → all_waiting setup d' unchanged runs ≡ all_waiting setup d (record { grown = None; made = Some n }) runs
made-looked-up setup d d' runs n issued is now =
    let F : List Dispatch → Waiting Dispatch = λ l. with_issued (record { items = l; counted = d.waiting.counted }) (issued_first setup (n + 1) (slice_index_or runs n no_run)) in
    all-looked-up setup d' unchanged runs (record { grown = refl; made = refl }) ∙ now ∙ ap (with_issued d.waiting) is ∙ ap F (sym (append-nil d.waiting.items))
