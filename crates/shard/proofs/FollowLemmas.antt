-- plans that close a run and make another one of its workflow ID
use Rattle.std.proofs.Common.{◌≡◌, ℕ, ◌<◌, true, false, List, [], ◌∷◌, length, refl, sym, ap, ◌∙◌, subst, arith, Option, Some, None}
use Rattle.std.specs.Prelude.{option_and_then, option_map, unwrap_or}
use Rattle.wf_event.specs.declared.attributes.Attributes.{Attributes}
use Rattle.wf_event.specs.declared.attributes.Attributes.TheVariants.{WorkflowExecutionStarted}
use Rattle.wf_event.specs.declared.payloads.WorkflowExecutionStarted.{WorkflowExecutionStarted as StartedAttributes}
use Rattle.wf_command.specs.declared.command.ContinueAsNew.{ContinueAsNew}
use Rattle.service_model_types.specs.declared.journal.Fact.{Fact}
use Rattle.service_model_types.specs.declared.journal.Fact.TheVariants.{Event as an_event}
use Rattle.service_model.specs.Outcome.{Outcome, CountsNothing, Runs, run_id}
use Rattle.service_model_types.specs.Replies.{Reply}
use Rattle.service_model.specs.RunState.{Beginning, RunState, id_of, is_open, started_of}
use Rattle.service_model.specs.Starts.{start_request}
use Rattle.service_model.specs.Tasks.{continued}
use Rattle.mutable_state.specs.declared.change.StepFacts.{StepFacts}
use Rattle.mutable_state.specs.Steps.{FitStep, after_step}
use Rattle.shard_steps.specs.Starts.{first_facts}
use Rattle.shard_steps.specs.declared.starts.Beginning.{Beginning as NewBeginning}
use Rattle.shard_store.specs.Fitting.{FitsAdded, FitsStep, IsMade, IsPrepared, grown, runs_added, state_at}
use Rattle.shard.specs.Following.{following}
use Rattle.shard_store.specs.Open.{HasClosed, IsOneOpen}
use Rattle.shard_store.specs.ShardView.{ShardView, ordinal_of, run_in, runs_in, state, states}
use Rattle.shard_store.specs.declared.plan.Count.TheVariants as count
use Rattle.shard_store.specs.declared.plan.MoreOf.{MoreOf}
use Rattle.shard_store.specs.declared.plan.NewRun.{NewRun}
use Rattle.shard_store.specs.declared.plan.Change.TheVariants as change
use Rattle.shard_store.proofs.IndexLemmas.{at-place, length-states}
use Rattle.shard_store.proofs.OpenLemmas.{closed-alone}
use Rattle.shard_store.proofs.PlanLemmas.{fits-added}
use Rattle.shard.proofs.StartLemmas.{made-named}

-- where the open run at a place is closed, all runs of its workflow ID have closed
pub free-behind : (v old : ShardView) (at i : ℕ) (m : MoreOf) (facts : List Fact) → state v ≡ state old → IsPrepared v at i facts m → is_open (run_in old i) ≡ true →
    is_open (after_step at facts (run_in old i)) ≡ false → IsOneOpen (states v.runs) → HasClosed (runs_added (Some m) (states v.runs)) (id_of (run_in old i))
free-behind v old at i m facts same made opened over one =
    let runs = states v.runs in
    let here : state_at runs m.index ≡ run_in old i = ap (λ s. state_at s.runs m.index) same ∙ ap (state_at (states old.runs)) made.place ∙ sym (at-place (runs_in old) i) in
    let low : m.index < length runs = omega (arith, made.there, length-states v.runs) in
    let closed : is_open (grown m runs) ≡ false = ap (λ (c : StepFacts). is_open (after_step c.moment c.facts (state_at runs m.index))) made.change ∙ ap (λ s. is_open (after_step at facts s)) here ∙ over in
    subst (λ s. HasClosed (runs_added (Some m) runs) (id_of s)) here (closed-alone runs m.index (grown m runs) low (ap is_open here ∙ opened) closed one)

-- a plan that closes the run and makes another
pub both-fits : {T : Type 0} (v old : ShardView) (at i : ℕ) (m : MoreOf) (facts : List Fact) (b : NewBeginning) (new : NewRun T) (reply : Reply) (o : Outcome) → state v ≡ state old → IsPrepared v at i facts m →
    FitStep at (run_in old i) facts → is_open (run_in old i) ≡ true → is_open (after_step at facts (run_in old i)) ≡ false → id_of (run_in old i) ≡ b.started.workflow_id → IsMade v at new b →
    o.added ≡ Some (record { run = ordinal_of i; facts = facts }) → o.created ≡ Some (first_facts b) → o.removed ≡ None → reply ≡ o.reply → o.counting ≡ CountsNothing → o.answers ≡ [] →
    FitsStep v (record { moment = at; change = change.Makes (record { added = Some m; created = Some new; count = count.Nothing; answer = None }); reply = reply }) at o
both-fits v old at i m facts b new reply o same prepared fits opened over named made added created removed replies counts answers =
    let runs = runs_added (Some m) (states v.runs) in
    record {
      moment = refl;
      reply = replies;
      change = record {
        added = subst (FitsAdded v at (Some m)) (sym added) (fits-added v old at i m facts same prepared fits);
        created = (b, created, made);
        taken = removed;
        count = counts;
        answer = answers;
        free = λ one. subst (HasClosed runs) (named ∙ sym (made-named v at b new made)) (free-behind v old at i m facts same prepared opened over one);
      };
    }

-- the facts of the run that follows are those of one that begins so
pub follows : (R : Runs) (n : ℕ) (c : ContinueAsNew) (s : RunState) (a : StartedAttributes) → started_of s ≡ Some a → continued R n (Some c) s.beginning ≡ Some (first_facts (following (run_id R.setup n) c a (start_request s)))
follows R n c s a is = by_beginning s.beginning is
  where
    by_beginning : (o : Option Beginning) → option_map (λ (b : Beginning). b.attributes) o ≡ Some a → continued R n (Some c) o ≡ Some (first_facts (following (run_id R.setup n) c a (option_and_then (λ (b : Beginning). b.request_id) o)))
    by_beginning None e = absurd (cc)
    by_beginning (Some b) e = ap (λ (x : StartedAttributes). Some (first_facts (following (run_id R.setup n) c x b.request_id))) (same-some b.attributes a e)
      where
        same-some : (x y : StartedAttributes) → Some x ≡ Some y → x ≡ y
        same-some x y e = cc

-- the workflow ID with which a run begins
id_started : Attributes → List ℕ
id_started (WorkflowExecutionStarted a) = a.workflow_id
id_started _ = []

id_begun : Option (List Fact) → List ℕ
id_begun (Some (an_event f ∷ fs)) = id_started f.attributes
id_begun _ = []

-- a run follows where a command says so, and has the older one's workflow ID
pub record IsFollower (s : RunState) (o : Option ContinueAsNew) (b : NewBeginning) : Type 0 where
  pub command : ContinueAsNew
  pub given : o ≡ Some command
  pub named : id_of s ≡ b.started.workflow_id

pub follower : (R : Runs) (n : ℕ) (o : Option ContinueAsNew) (s : RunState) (b : NewBeginning) → continued R n o s.beginning ≡ Some (first_facts b) → IsFollower s o b
unfolding id_started id_begun
follower R n None s b is = absurd (cc)
follower R n (Some c) s b is = by_beginning s.beginning refl is
  where
    by_beginning : (x : Option Beginning) → s.beginning ≡ x → continued R n (Some c) x ≡ Some (first_facts b) → IsFollower s (Some c) b
    by_beginning None same e = absurd (cc)
    by_beginning (Some y) same e = record { command = c; given = refl; named = ap (λ (z : Option Beginning). unwrap_or (option_map (λ (w : Beginning). w.attributes.workflow_id) z) []) same ∙ ap id_begun e }
