use Rattle.std.proofs.Common.{map, rules, subst, sym}
use Rattle.checkpoints.specs.Checkpoints.{Spell}
use Rattle.checkpoints.specs.Restored.{AreRestored, IsRestored, text_of}
use Rattle.wfserve_run.proofs.LoadLemmas.{each-counted, each-more}
use Rattle.wfserve_run.proofs.loading.load_all.Goals as goal

pub loop-shard-preserved : goal.loop-shard-preserved
loop-shard-preserved g c =
    let l = c.loop-shard in
    let more = each-more (λ k r. IsRestored g.S.Object.stands c.args.settings.now k r) l.shards.items c.push.new.self.items c.in_ok-loaded.loaded l.shard l.invariant.count l.invariant.each c.in_ok-loaded.ensures c.in_ok-push.ensures.items in
    record { count = more.0; each = more.1 }

pub stand_in_order-requires : goal.stand_in_order-requires
stand_in_order-requires g c = each-counted g.S.Object.stands c.args.settings.now c.loop-shard.shards.items c.as_slice.result.now c.loop-shard.invariant.each c.as_slice.ensures.value

pub returns-clause-ordered : goal.returns-clause-ordered
returns-clause-ordered g c = λ content spell.
    let K = c.args.settings.now in
    let restored : AreRestored g.S.Object.stands K c.loop-shard.shards.items = search rules in
    (c.in_ok-told.ensures.spelled K content (subst (AreRestored g.S.Object.stands K) (sym c.as_slice.ensures.value) restored)
    (subst (λ l. Spell K (map text_of l) content) (sym c.as_slice.ensures.value) spell)).0 c.if-not-told.false
