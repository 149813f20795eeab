use Rattle.std.proofs.Common.{ap, subst, sym, IfSome}
use Rattle.service_model.specs.Aging.{IsOldestRun}
use Rattle.shard_store.specs.Fitting.{FitsChange, taken_of}
use Rattle.shard_store.specs.ShardView.{states}
use Rattle.shard_store.specs.declared.plan.Change.{Change}
use Rattle.shard_store.proofs.TakenLemmas.{oldest-taken}
use Rattle.shard_store.proofs.store.Store.finish.Goals as goal

pub carry_out-requires-clause-fits : goal.carry_out-requires-clause-fits
carry_out-requires-clause-fits g c =
    let (o, fits) = c.requires.fits in
    let at = c.args.plan.moment in
    let P : Change g.row.T.Denot → Type 0 = λ change. FitsChange c.args.self.now at change o in
    (at, o, subst P (sym (ap (λ p. p.1) c.into_parts-moment.ensures)) fits)

pub carry_out-requires-clause-oldest : goal.carry_out-requires-clause-oldest
carry_out-requires-clause-oldest g c =
    let (o, fits) = c.requires.fits in
    let P : Change g.row.T.Denot → Type 0 = λ change. IfSome (taken_of change) (IsOldestRun (states c.args.self.now.runs)) in
    subst P (sym (ap (λ p. p.1) c.into_parts-moment.ensures))
    (oldest-taken c.args.self.now c.args.plan.change (taken_of c.args.plan.change) o.removed c.requires.one c.requires.aged fits.taken)
