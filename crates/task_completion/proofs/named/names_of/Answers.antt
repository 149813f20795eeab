use Rattle.std.proofs.Common.{subst, arith, take, take_all}
use Rattle.indexmap.specs.IndexSet.{contains_text}
use Rattle.task_completion.specs.NameCovers.{Covers}
use Rattle.task_completion.proofs.NameLemmas.{covers-none, covers-next}
use Rattle.task_completion.proofs.named.names_of.Goals as goal

pub loop-row-init : goal.loop-row-init
loop-row-init c = covers-none (contains_text c.new-names.result)

pub loop-row-preserved : goal.loop-row-preserved
loop-row-preserved c =
    let rows = c.args.rows.now in
    let i = c.loop-row.row-index in
    covers-next (contains_text c.add_name.new.names) rows i c.row-item.result c.loop-row-test.true c.row-item.is (c.in_ok-add_name.ensures.more (take i rows) c.loop-row.invariant)

pub returns : goal.returns
returns c = subst (Covers (contains_text c.loop-row.names)) (take_all c.loop-row.row-index c.args.rows.now (omega arith)) c.loop-row.invariant
