use Rattle.std.proofs.Common.{◌≡◌, ℕ, ◌-◌, ◌∙◌, false, Option, IfSome, subst, sym, refl}
use Rattle.service_model.specs.RunState.{is_open}
use Rattle.service_model.specs.Signals.{start_in}
use Rattle.shard_store.specs.ShardView.{ordinal_of, runs_at, states}
use Rattle.shard_store.specs.Fitting.{state_at}
use Rattle.shard_steps.proofs.StartLemmas.{decides-fail, decides-new}
use Rattle.shard.proofs.signal_starts.start_and_signal_behind.Goals as goal

pub unreachable-requires : goal.unreachable-requires
unreachable-requires g c = decides-fail (runs_at c.args.store.now c.args.moment) (start_in c.args.request.now) (ordinal_of c.args.index) refl (sym c.decision_by.ensures ∙ c.in-TerminateThenNew.is)

pub start_and_signal_where_free-requires : goal.start_and_signal_where_free-requires
start_and_signal_where_free-requires g c =
    let P : Option ℕ → Type 0 = λ o. IfSome o (λ n. is_open (state_at (states c.args.store.now.runs) (n - 1)) ≡ false) in
    subst P (sym c.requires.latest) (decides-new (runs_at c.args.store.now c.args.moment) (start_in c.args.request.now) (ordinal_of c.args.index) (sym c.decision_by.ensures ∙ c.in-New.is))
