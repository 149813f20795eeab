use Rattle.std.proofs.Common.{◌≡◌, ℕ, ◌-◌, ◌∙◌, false, Option, IfSome, subst, sym}
use Rattle.service_model.specs.RunState.{is_open}
use Rattle.shard_store.specs.ShardView.{ordinal_of, runs_at, states}
use Rattle.shard_store.specs.Fitting.{state_at}
use Rattle.shard_steps.proofs.StartLemmas.{decides-new, decides-open}
use Rattle.shard_store.proofs.OpenLemmas.{latest-named, latest-there}
use Rattle.shard.proofs.starts.start_behind.Goals as goal

pub replace_open_run-requires-clause-named : goal.replace_open_run-requires-clause-named
replace_open_run-requires-clause-named g c = latest-named (states c.args.store.now.runs) c.args.request.now.workflow_id (ordinal_of c.args.index) c.requires.latest

pub replace_open_run-requires-clause-open : goal.replace_open_run-requires-clause-open
replace_open_run-requires-clause-open g c = decides-open (runs_at c.args.store.now c.args.moment) c.args.request.now (ordinal_of c.args.index) (latest-there (states c.args.store.now.runs) c.args.request.now.workflow_id (ordinal_of c.args.index) c.requires.latest) (sym c.decision_by.ensures ∙ c.in-TerminateThenNew.is)

pub start_where_free-requires : goal.start_where_free-requires
start_where_free-requires g c =
    let P : Option ℕ → Type 0 = λ o. IfSome o (λ n. is_open (state_at (states c.args.store.now.runs) (n - 1)) ≡ false) in
    subst P (sym c.requires.latest) (decides-new (runs_at c.args.store.now c.args.moment) c.args.request.now (ordinal_of c.args.index) (sym c.decision_by.ensures ∙ c.in-New.is))
