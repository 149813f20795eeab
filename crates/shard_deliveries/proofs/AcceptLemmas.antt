-- plans of deliveries that are accepted
use Rattle.std.proofs.Common.{◌≡◌, ℕ, ◌+◌, ◌<◌, ◌^◌, List, Option, Some, None, ap, refl, subst, sym, ◌∙◌}
use Rattle.std.specs.Prelude.{Ok, option_to_list}
use Rattle.service_model_types.specs.declared.answer.Answer.{Answer}
use Rattle.service_model_types.specs.declared.answer.Answer.TheVariants.{Accepted}
use Rattle.service_model_types.specs.declared.journal.Fact.{Fact}
use Rattle.service_model_types.specs.declared.transfer.Sent.{Sent}
use Rattle.service_model_types.specs.declared.transfer.Transfer.{Transfer}
use Rattle.service_model.specs.Deliveries.{accepted_from, accepts}
use Rattle.service_model.specs.Outcome.{Outcome, run_at}
use Rattle.mutable_state.specs.Steps.{FitStep}
use Rattle.shard_store.specs.declared.plan.Count.TheVariants as count
use Rattle.shard_store.specs.declared.plan.MoreOf.{MoreOf}
use Rattle.shard_store.specs.Fitting.{CountsAccepted, FitsAnswer, FitsStep, IsPrepared}
use Rattle.shard_store.specs.ShardView.{ShardState, ShardView, ordinal_of, runs_in, state}
use Rattle.shard_store.specs.declared.plan.Change.TheVariants as change
use Rattle.shard_store.specs.declared.plan.Parts.{Parts}
use Rattle.shard_store.specs.declared.plan.Plan.{Plan}
use Rattle.shard_store.proofs.PlanLemmas.{fits-added}
use Rattle.shard_deliveries.specs.Accepting.{MayAccept}

-- a plan of parts that were put together
pub planned : {T : Type 0} (v : ShardView) (plan : Plan T) (parts : Parts T) (at : ℕ) (a : Answer) (o : Outcome) (made : Parts T) → plan ≡ record { moment = at; change = change.Makes made; reply = Ok a } → made ≡ parts →
    FitsStep v (record { moment = at; change = change.Makes parts; reply = Ok a }) at o → FitsStep v plan at o
planned {T} v plan parts at a o made is same fits =
    let of : Parts T → Plan T = λ p. record { moment = at; change = change.Makes p; reply = Ok a } in
    subst (λ p. FitsStep v p at o) (sym (is ∙ ap of same)) fits

-- one more can be accepted from a shard, as before
pub still-counts : (v old : ShardView) (from : ℕ) → state v ≡ state old → CountsAccepted old from → CountsAccepted v from
still-counts v old from same counts = record {
  there = subst (λ (s : ShardState). from < s.setup.shards) (sym same) counts.there;
  few = subst (λ (s : ShardState). accepted_from s.accepted from + 1 < 2 ^ 64) (sym same) counts.few;
}

answer-fits : (v : ShardView) (a : Option Sent) → v.changed.answer ≡ None → FitsAnswer v a (option_to_list a)
answer-fits v None caught_up = refl
answer-fits v (Some a) caught_up = (refl, caught_up)

-- a delivery that adds facts to the run at a place
pub more-accepted : {T : Type 0} (v old : ShardView) (at i : ℕ) (t : Transfer) (m : MoreOf) (facts : List Fact) (answer : Option Sent) → state v ≡ state old → MayAccept old t → IsPrepared v at i facts m → FitStep at (run_at (runs_in old) (ordinal_of i)) facts →
    FitsStep {T = T} v (record { moment = at; change = change.Makes (record { added = Some m; created = None; count = count.Accepts t.from; answer = answer }); reply = Ok (Accepted t.number) }) at (accepts t (Some (record { run = ordinal_of i; facts = facts })) None (option_to_list answer))
more-accepted v old at i t m facts answer same may made fits = record {
  moment = refl;
  reply = refl;
  change = record {
    added = fits-added v old at i m facts same made fits;
    created = refl;
    taken = refl;
    count = (refl, still-counts v old t.from same may.counts);
    answer = answer-fits v answer made.caught_up.answer;
    free = λ one. tt;
  };
}
