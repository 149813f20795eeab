-- what is known of no run
use Rattle.std.proofs.Common.{◌≡◌, ◌≢◌, ℕ, true, false, List, [], ◌∷◌, ◌++◌, refl, sym, ap, ◌∙◌, subst, Option, Some, None, zero, suc}
use Rattle.std.specs.Prelude.{drop, filter_map, is_some}
use Rattle.std.specs.Option.{option_map_or}
use Rattle.wf_event.specs.declared.event.Event.{Event}
use Rattle.wf_event_values.specs.Run.{Run}
use Rattle.wf_event_values.specs.declared.policies.Status.TheVariants.{Running}
use Rattle.service_model_types.specs.declared.content.Setup.{Setup}
use Rattle.service_model_types.specs.declared.journal.Fact.{Fact}
use Rattle.service_model_types.specs.declared.journal.Fact.TheVariants.{Event as an_event, Note as a_note}
use Rattle.service_model.specs.Deadlines.{dues}
use Rattle.service_model.specs.Issued.{task_dispatch, transfers_by}
use Rattle.service_model.specs.Pending.{NoTask, IsStarted, in_use, task}
use Rattle.service_model.specs.RunState.{RunState, beginning, cancel_request, is_open, is_there, no_run, signal_requests}
use Rattle.service_model.specs.Shown.{numbered, put_all}
use Rattle.service_model.specs.TimerTurns.{least}
use Rattle.service_model.specs.Waiting.{waiting_of}
use Rattle.service_model.specs.Windows.{placed}
use Rattle.mutable_state.specs.Steps.{after_step, FitStep}
use Rattle.mutable_state.specs.RunView.{RunView}
use Rattle.shard_issued.specs.Issuing.{issued_since}
use Rattle.timeouts.specs.Firsts.{first_due}
use Rattle.shard_store.specs.Places.{empty_place}

abbrev nothing : RunState
nothing = record {
  shown = [];
  held = [];
  beginning = None;
  status = Running;
  task = NoTask;
  signal_requests = [];
  cancel_request = None;
  activities = [];
  timers = [];
  children = [];
  signals = [];
  cancels = [];
}

none-known : no_run ≡ nothing
unfolding no_run numbered placed put_all beginning signal_requests cancel_request in_use task
none-known = refl

-- a place where no run is has this view
pub is-empty : {A : Type 0} (f : A → RunView) (o : Option A) (v : RunView) → option_map_or f o empty_place ≡ v → o ≡ None → v ≡ empty_place
is-empty f o v is none = sym is ∙ ap (λ x. option_map_or f x empty_place) none

pub is-full : {A : Type 0} (f : A → RunView) (o : Option A) (v : RunView) (x : A) → option_map_or f o empty_place ≡ v → o ≡ Some x → f x ≡ v
is-full f o v x is some = sym (ap (λ y. option_map_or f y empty_place) some) ∙ is

-- where a place isn't empty a run is
pub full-some : {A : Type 0} (f : A → RunView) (o : Option A) (v : RunView) → option_map_or f o empty_place ≡ v → v ≢ empty_place → is_some o ≡ true
full-some f None v is full = absurd (full (sym is))
full-some f (Some x) v is full = refl

pub none-there : is_there no_run ≡ false
none-there = ap is_there none-known

pub none-open : is_open no_run ≡ false
none-open = ap is_open none-known

pub none-shown : no_run.shown ≡ []
none-shown = ap (λ (s : RunState). s.shown) none-known

pub none-started : no_run.task ≡ IsStarted → ⊥
none-started h = let clash = sym (ap (λ (s : RunState). s.task) none-known) ∙ h in absurd (cc)

pub none-due : (retention n : ℕ) → first_due retention n no_run ≡ None
unfolding dues least
none-due retention n = ap (first_due retention n) none-known

drop-none : (n : ℕ) → ◌≡◌ {A = List Event} (drop n []) []
drop-none zero = refl
drop-none (suc n) = refl

pub none-scheduled : (setup : Setup) (n : ℕ) → filter_map (task_dispatch setup n) no_run.shown ≡ []
none-scheduled setup n = ap (λ (s : RunState). filter_map (task_dispatch setup n) s.shown) none-known

pub none-issued : (setup : Setup) (shown : ℕ) (ready : Option ℕ) (n : ℕ) → issued_since setup shown ready n no_run ≡ []
none-issued setup shown None n = ap (issued_since setup shown None n) none-known ∙ ap (λ (l : List Event). filter_map (task_dispatch setup n) l ++ []) (drop-none shown)
none-issued setup shown (Some id) n = ap (issued_since setup shown (Some id) n) none-known ∙ ap (λ (l : List Event). filter_map (task_dispatch setup n) l ++ []) (drop-none shown)

pub none-sent : (setup : Setup) (run : Run) (first : ℕ) → transfers_by setup run no_run (drop first no_run.shown) ≡ []
none-sent setup run first = ap (λ (s : RunState). transfers_by setup run s (drop first s.shown)) none-known ∙ ap (transfers_by setup run nothing) (drop-none first)

pub none-waits : (setup : Setup) (n : ℕ) → waiting_of setup n no_run ≡ []
none-waits setup n = ap (waiting_of setup n) none-known

-- where a run is there, or has a task, the place isn't empty
pub there-full : (v : RunView) → is_there v.state ≡ true → v ≢ empty_place
there-full v there none = let clash : false ≡ true = sym none-there ∙ sym (ap (λ (x : RunView). is_there x.state) none) ∙ there in absurd (cc)

pub started-full : (v : RunView) → v.state.task ≡ IsStarted → v ≢ empty_place
started-full v started none = none-started (sym (ap (λ (x : RunView). x.state.task) none) ∙ started)

-- no fact may come to no run
pub none-comes : (at : ℕ) (facts : List Fact) → FitStep at no_run facts → after_step at facts no_run ≡ no_run
none-comes at facts fits = subst (λ (s : RunState). FitStep at s facts → after_step at facts s ≡ s) (sym none-known) (by_facts at facts) fits
  where
    by_facts : (at : ℕ) (facts : List Fact) → FitStep at nothing facts → after_step at facts nothing ≡ nothing
    by_facts at [] h = refl
    by_facts at (an_event f ∷ fs) h = absurd (cc (h.0.open_run))
    by_facts at (a_note n ∷ fs) h = absurd (cc (h.0.open_run))
