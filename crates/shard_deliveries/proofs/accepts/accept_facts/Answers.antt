use Rattle.std.proofs.Common.{◌∙◌, Some, ap}
use Rattle.shard_store.specs.declared.plan.Count.TheVariants as count
use Rattle.shard_store.specs.declared.plan.Parts.{Parts}
use Rattle.shard_deliveries.proofs.AcceptLemmas.{more-accepted, planned}
use Rattle.shard_deliveries.proofs.accepts.accept_facts.Goals as goal

pub returns-clause-plan : goal.returns-clause-plan
returns-clause-plan g c =
    let from = c.args.transfer.now.from in
    let parts =
    c.answer-parts.ensures
    ∙ ap (λ (p : Parts g.row.T.Denot). record p { answer = c.args.answer })
    (c.count.ensures ∙ ap (λ (p : Parts g.row.T.Denot). record p { count = count.Accepts from })
    (c.add.ensures ∙ ap (λ (p : Parts g.row.T.Denot). record p { added = Some c.in_ok-more.more }) c.none.ensures)) in
    planned {T = g.row.T.Denot} _ _ _ _ _ _ _ c.plan.ensures parts
    (more-accepted {T = g.row.T.Denot} c.prepare_in.new.self c.args.store.now c.args.moment c.args.index c.args.transfer.now c.in_ok-more.more c.args.facts c.args.answer c.in_ok-more.ensures.same c.requires.accepts c.in_ok-more.ensures.more c.requires.fits)
