-- the start of a child makes a run where none is in its way
use Rattle.std.proofs.Common.{◌≡◌, ℕ, ◌+◌, ◌∙◌, true, false, length, List, [], ◌∷◌, refl, sym, ap, subst, Option, Some, None}
use Rattle.std.specs.Prelude.{IfSome, Ok, option_map}
use Rattle.wf_event_values.specs.Run.{Run}
use Rattle.wf_event_values.specs.declared.policies.ConflictPolicy.TheVariants.{Fail}
use Rattle.wf_event_values.specs.declared.policies.Status.{Status}
use Rattle.wf_event_values.specs.declared.policies.Status.TheVariants.{Running, Completed, Failed, Canceled, Terminated, ContinuedAsNew, TimedOut}
use Rattle.service_model_types.specs.declared.answer.Answer.TheVariants.{Accepted}
use Rattle.service_model_types.specs.declared.transfer.Sent.{Sent}
use Rattle.service_model_types.specs.declared.transfer.StartChildTransfer.{StartChildTransfer}
use Rattle.service_model_types.specs.declared.transfer.Transfer.{Transfer}
use Rattle.service_model_types.specs.declared.transfer.TransferContent.TheVariants.{ChildStarted}
use Rattle.service_model.specs.Deliveries.{is_new}
use Rattle.service_model.specs.IdPolicy.{decide}
use Rattle.service_model.specs.Outcome.{Runs, latest_run, run_at, run_id}
use Rattle.service_model.proofs.ThereLemmas.{closed-status}
use Rattle.service_model.specs.RunState.{RunState, id_of, is_open, is_open_status}
use Rattle.shard_issued.specs.Outstanding.{IsCaughtUp}
use Rattle.shard_steps.specs.Starts.{first_facts}
use Rattle.shard_steps.specs.declared.starts.Beginning.{Beginning}
use Rattle.shard_store.specs.declared.plan.Count.TheVariants as count
use Rattle.shard_store.specs.declared.plan.NewRun.{NewRun}
use Rattle.shard_store.specs.Fitting.{CountsAccepted, FitsStep, IsFree, IsMade}
use Rattle.shard_store.specs.Open.{HasClosed}
use Rattle.shard_store.specs.ShardView.{ShardView, runs_at, runs_in, state, states}
use Rattle.shard_store.specs.declared.plan.Change.TheVariants as change
use Rattle.shard_store.proofs.IndexLemmas.{length-states}
use Rattle.shard_store.proofs.OpenLemmas.{free-closed}
use Rattle.shard_store.proofs.StepLemmas.{id-of-begun}
use Rattle.shard_deliveries.proofs.AcceptLemmas.{still-counts}
use Rattle.shard_deliveries.specs.Children.{child_beginning, is_free_for, starts_child}

-- only a run that has closed is followed
pub child-free : (R : Runs) (c : StartChildTransfer) → is_free_for R c ≡ true → IsFree R.states c.workflow_id
unfolding decide
child-free R c is = by_latest (latest_run R.states c.workflow_id) is
  where
    by_status : (s : Status) → is_new (decide (Some s) false c.reuse Fail) ≡ true → is_open_status s ≡ false
    by_status Running h = absurd (cc)
    by_status Completed h = refl
    by_status Failed h = refl
    by_status Canceled h = refl
    by_status Terminated h = refl
    by_status ContinuedAsNew h = refl
    by_status TimedOut h = refl

    by_latest : (o : Option ℕ) → is_new (decide (option_map (λ n. (run_at R n).status) o) false c.reuse Fail) ≡ true → IfSome o (λ n. is_open (run_at R n) ≡ false)
    by_latest None h = tt
    by_latest (Some n) h = closed-status (run_at R n) (by_status (run_at R n).status h)

-- where a child's run begins so, it is told that it started
pub child-fits : {T : Type 0} (v old : ShardView) (at : ℕ) (t : Transfer) (c : StartChildTransfer) (b : Beginning) (n : NewRun T) (to : ℕ) (run : Run) → state v ≡ state old → IsCaughtUp v.changed → CountsAccepted old t.from → b ≡ child_beginning c → IsMade v at n b → is_free_for (runs_in old) c ≡ true → to ≡ c.parent_run.shard → run ≡ run_id old.setup (length v.runs + 1) →
    FitsStep v (record { moment = at; change = change.Makes (record { added = None; created = Some n; count = count.Accepts t.from; answer = Some (record { to = to; content = ChildStarted (record { parent_run = c.parent_run; initiated = c.initiated; run = run }) }) }); reply = Ok (Accepted t.number) }) at (starts_child (runs_at old at) t c)
child-fits v old at t c b n to run same caught_up counts begins made free there is =
    let total : length v.runs ≡ length (states old.runs) = sym (length-states v.runs) ∙ ap (λ s. length s.runs) same in
    let own : run ≡ run_id old.setup (length (states old.runs) + 1) = is ∙ ap (λ k. run_id old.setup (k + 1)) total in
    let named : id_of n.run.state ≡ c.workflow_id = ap id_of made.made ∙ id-of-begun at b.facts b.request_id b.started ∙ ap (λ (x : Beginning). x.started.workflow_id) begins in
    let here : IsFree (states v.runs) c.workflow_id = subst (λ (l : List RunState). IsFree l c.workflow_id) (sym (ap (λ s. s.runs) same)) (child-free (runs_in old) c free) in
    let A : ℕ → Run → Sent = λ k r. record { to = k; content = ChildStarted (record { parent_run = c.parent_run; initiated = c.initiated; run = r }) } in
    record {
      moment = refl;
      reply = refl;
      change = record {
        added = refl;
        created = (b, ap (λ x. Some (first_facts x)) (sym begins), made);
        taken = refl;
        count = (refl, still-counts v old t.from same counts);
        answer = (sym (ap (λ k. A k run ∷ []) there ∙ ap (λ r. A c.parent_run.shard r ∷ []) own), caught_up.answer);
        free = λ one. subst (HasClosed (states v.runs)) (sym named) (free-closed (states v.runs) c.workflow_id here one);
      };
    }
