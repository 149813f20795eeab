use Rattle.std.proofs.Common.{◌∙◌, ap, subst, sym, IfSome}
use Rattle.service_model.specs.Aging.{IsOldestRun}
use Rattle.shard_store.specs.Fitting.{FitsChange, after_change, taken_of}
use Rattle.shard_store.specs.ShardView.{state, states}
use Rattle.shard_store.specs.declared.plan.Change.{Change}
use Rattle.shard_store.proofs.store.Store.carry_out.Goals as goal

pub take_away-requires-clause-may : goal.take_away-requires-clause-may
take_away-requires-clause-may g c =
    let (at, o, fits) = c.requires.fits in
    let P : Change g.row.T.Denot → Type 0 = λ change. FitsChange c.args.self.now at change o in
    let (removed, may, alone) = (subst P c.in-Takes.is fits).taken in may

pub take_away-requires-clause-oldest : goal.take_away-requires-clause-oldest
take_away-requires-clause-oldest g c =
    let P : Change g.row.T.Denot → Type 0 = λ change. IfSome (taken_of change) (IsOldestRun (states c.args.self.now.runs)) in
    subst P c.in-Takes.is c.requires.oldest

pub returns-in-Takes : goal.returns-in-Takes
returns-in-Takes g c =
    let F = λ (change : Change g.row.T.Denot). after_change change (state c.args.self.now) in
    c.take_away.ensures ∙ ap F (sym c.in-Takes.is)

pub carry_on-requires : goal.carry_on-requires
carry_on-requires g c =
    let (at, o, fits) = c.requires.fits in
    let P : Change g.row.T.Denot → Type 0 = λ change. FitsChange c.args.self.now at change o in
    (at, o, subst P c.in-Makes.is fits)

pub returns-in-Makes : goal.returns-in-Makes
returns-in-Makes g c =
    let F = λ (change : Change g.row.T.Denot). after_change change (state c.args.self.now) in
    c.carry_on.ensures ∙ ap F (sym c.in-Makes.is)
