-- plans that add to a run
use Rattle.std.proofs.Common.{◌≡◌, ℕ, ◌<◌, List, Some, Ok, ap, refl, length, slice_index_or, subst, sym}
use Rattle.service_model_types.specs.declared.answer.Answer.{Answer}
use Rattle.service_model_types.specs.declared.journal.Fact.{Fact}
use Rattle.service_model.specs.Outcome.{run_at, takes_away}
use Rattle.service_model.specs.RunState.{RunState, no_run}
use Rattle.mutable_state.specs.declared.change.StepFacts.{StepFacts}
use Rattle.mutable_state.specs.Steps.{FitStep}
use Rattle.mutable_state.specs.RunView.{HasRoomFor, RunView}
use Rattle.shard_issued.specs.Outstanding.{IsCaughtUp}
use Rattle.shard_store.specs.declared.plan.MoreOf.{MoreOf}
use Rattle.shard_store.specs.Fitting.{FitsAdded, FitsMore, FitsStep, IsPrepared, MayTake, state_at, taking, view_at}
use Rattle.shard_store.specs.ShardView.{ShardView, ordinal_of, runs_in, state, states}
use Rattle.shard_store.proofs.IndexLemmas.{at-place}

-- what is added to the run at a place, where the facts may come to it
pub fits-more : (v old : ShardView) (at i : ℕ) (m : MoreOf) (facts : List Fact) → state v ≡ state old → IsPrepared v at i facts m → FitStep at (run_at (runs_in old) (ordinal_of i)) facts → FitsMore v at m facts
fits-more v old at i m facts same made fits =
    let now : FitStep at (state_at (states old.runs) i) facts = subst (λ s. FitStep at s facts) (at-place (runs_in old) i) fits in
    let here : FitStep at (state_at (states old.runs) m.index) facts = subst (λ k. FitStep at (state_at (states old.runs) k) facts) (sym made.place) now in
    let there : FitStep at (state_at (states v.runs) m.index) facts = subst (λ (l : List RunState). FitStep at (slice_index_or l m.index no_run) facts) (sym (ap (λ s. s.runs) same)) here in
    record {
      has_room = record { there = made.there; caught_up = made.caught_up; room = made.room; fits = subst (λ (c : StepFacts). FitStep c.moment (state_at (states v.runs) m.index) c.facts) (sym made.change) there };
      change = made.change;
    }

pub fits-added : (v old : ShardView) (at i : ℕ) (m : MoreOf) (facts : List Fact) → state v ≡ state old → IsPrepared v at i facts m → FitStep at (run_at (runs_in old) (ordinal_of i)) facts → FitsAdded v at (Some m) (Some (record { run = ordinal_of i; facts = facts }))
fits-added v old at i m facts same made fits = (facts, ap (λ k. Some (record { run = ordinal_of k; facts = facts })) (sym made.place), fits-more v old at i m facts same made fits)

-- it stays so where the runs stay as they are, and all was looked up
pub stays-prepared : (v w : ShardView) (at i : ℕ) (facts : List Fact) (m : MoreOf) → w.runs ≡ v.runs → IsCaughtUp w.changed → IsPrepared v at i facts m → IsPrepared w at i facts m
stays-prepared v w at i facts m same caught_up made = record {
  place = made.place;
  there = subst (λ (l : List RunView). m.index < length l) (sym same) made.there;
  caught_up = caught_up;
  room = subst (λ (l : List RunView). HasRoomFor (view_at l m.index) m.plan.change.facts) (sym same) made.room;
  change = made.change;
}

-- a run that may be deleted is, alone
pub fits-taking : {T : Type 0} (v : ShardView) (at i : ℕ) (a : Answer) → MayTake v i → FitsStep {T = T} v (record { moment = at; change = taking i; reply = Ok a }) at (takes_away (ordinal_of i) a)
fits-taking v at i a may = record {
  moment = refl;
  reply = refl;
  change = record { added = refl; created = refl; taken = (refl, may, refl); count = refl; answer = refl; free = λ one. tt };
}
