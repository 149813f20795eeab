use Rattle.std.proofs.Common.{refl, subst, sym}
use Rattle.std.specs.Prelude.{Ok}
use Rattle.service_model.specs.Outcome.{adds}
use Rattle.shard_store.specs.declared.plan.Plan.{Plan}
use Rattle.shard_store.specs.Fitting.{FitsStep}
use Rattle.shard_store.specs.ShardView.{ordinal_of}
use Rattle.shard.proofs.StartLemmas.{more-fits}
use Rattle.shard.proofs.more.add_facts.Goals as goal

pub returns-clause-plan : goal.returns-clause-plan
returns-clause-plan g c =
    let v = c.prepare_in.new.self in
    let o = adds (ordinal_of c.args.index) c.args.facts c.args.answer in
    let P : Plan g.row.T.Denot → Type 0 = λ plan. FitsStep v plan c.args.moment o in
    subst P (sym c.adding.ensures) (more-fits {T = g.row.T.Denot} v c.args.store.now c.args.moment c.args.index c.in_ok-more.more c.args.facts (Ok c.args.answer) o c.in_ok-more.ensures.same c.in_ok-more.ensures.more c.requires.fits refl refl refl refl refl refl)
