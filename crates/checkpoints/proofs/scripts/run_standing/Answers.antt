use Rattle.std.proofs.Common.{false, subst, sym}
use Rattle.script.specs.Endings.{Halted, IsResumedFault, Ran}
use Rattle.script.specs.World.{resumed_from}
use Rattle.service.specs.Starting.{AreStarts}
use Rattle.shard_gate.specs.Starts.{opened_with}
use Rattle.shard_gate.specs.declared.source.Source.TheVariants.{Journal as FromJournal}
use Rattle.checkpoints.specs.Checkpoints.{starts_by}
use Rattle.script.proofs.EndLemmas.{nothing_done}
use Rattle.script.proofs.Steps.{on_any_err}
use Rattle.checkpoints.proofs.HaltLemmas.{ran-halted}
use Rattle.checkpoints.proofs.StartLemmas.{slots-stand, slots-start}
use Rattle.checkpoints.proofs.scripts.run_standing.Goals as goal

pub run_resumed-requires-clause-starts : goal.run_resumed-requires-clause-starts
run_resumed-requires-clause-starts g c =
    subst (λ l. AreStarts c.args.settings.now (opened_with l)) (sym (slots-start g.H.Starts.start g.S.Object.opening c.args.settings.now c.args.shards.items c.args.records.items c.in_ok-given.given.items c.in_ok-given.ensures c.requires.count)) c.requires.starts

pub run_resumed-requires-clause-standing : goal.run_resumed-requires-clause-standing
run_resumed-requires-clause-standing g c = slots-stand g.S.Object.stands g.H.Starts.start g.S.Object.opening c.args.shards.items c.args.records.items c.in_ok-given.given.items c.in_ok-given.ensures c.requires.standing

pub returns-in-Err-clause-fault : goal.returns-in-Err-clause-fault
returns-in-Err-clause-fault g c =
    subst (λ l. IsResumedFault FromJournal c.args.settings.now l c.in-Err.fault c.args.reader.now.failures c.run_resumed.new.reader.failures c.args.writer.now.failures c.run_resumed.new.writer.failures)
    (slots-start g.H.Starts.start g.S.Object.opening c.args.settings.now c.args.shards.items c.args.records.items c.in_ok-given.given.items c.in_ok-given.ensures c.requires.count)
    c.in-Err.ensures.fault

pub returns-in_ok-bare-in-Ok-clause-ran : goal.returns-in_ok-bare-in-Ok-clause-ran
returns-in_ok-bare-in-Ok-clause-ran g c =
    let k = c.args.settings.now in
    let starts = starts_by g.H.Starts.start c.args.records.items k in
    let is = slots-start g.H.Starts.start g.S.Object.opening c.args.settings.now c.args.shards.items c.args.records.items c.in_ok-given.given.items c.in_ok-given.ensures c.requires.count in
    subst (λ r. Ran k false (resumed_from FromJournal k (starts)) (g.R.Read.remaining c.args.reader.now.inner) (g.W.Write.contents c.args.writer.now.inner) (g.R.Read.remaining c.run_resumed.new.reader.inner) (g.W.Write.contents c.run_resumed.new.writer.inner) r c.in_ok-bare-in-Ok.field-0.records.items) (sym c.in_ok-bare-in-Ok.ensures.refused)
    (subst (λ rs. Ran k false (resumed_from FromJournal k (starts)) (g.R.Read.remaining c.args.reader.now.inner) (g.W.Write.contents c.args.writer.now.inner) (g.R.Read.remaining c.run_resumed.new.reader.inner) (g.W.Write.contents c.run_resumed.new.writer.inner) c.in-Ok.outcome.refused rs) (sym c.in_ok-bare-in-Ok.ensures.records)
    (subst (λ l. Ran k false (resumed_from FromJournal k (l)) (g.R.Read.remaining c.args.reader.now.inner) (g.W.Write.contents c.args.writer.now.inner) (g.R.Read.remaining c.run_resumed.new.reader.inner) (g.W.Write.contents c.run_resumed.new.writer.inner) c.in-Ok.outcome.refused c.in-Ok.outcome.records.items) is c.in-Ok.ensures.ran))

pub returns-in_err-given-clause-halted : goal.returns-in_err-given-clause-halted
returns-in_err-given-clause-halted g c = on_any_err c.from_residual.result _ (nothing_done _ _ _ _ _)

pub returns-in-Err-clause-halted : goal.returns-in-Err-clause-halted
returns-in-Err-clause-halted g c =
    subst (λ l. Halted c.args.settings.now false (resumed_from FromJournal c.args.settings.now l) (g.R.Read.remaining c.args.reader.now.inner) (g.W.Write.contents c.args.writer.now.inner) (g.R.Read.remaining c.run_resumed.new.reader.inner) (g.W.Write.contents c.run_resumed.new.writer.inner))
    (slots-start g.H.Starts.start g.S.Object.opening c.args.settings.now c.args.shards.items c.args.records.items c.in_ok-given.given.items c.in_ok-given.ensures c.requires.count) c.in-Err.ensures.halted

pub returns-in_err-bare-in-Ok-clause-halted : goal.returns-in_err-bare-in-Ok-clause-halted
returns-in_err-bare-in-Ok-clause-halted g c = on_any_err c.from_residual-in_err-bare-in-Ok.result _ (
    subst (λ l. Halted c.args.settings.now false (resumed_from FromJournal c.args.settings.now l) (g.R.Read.remaining c.args.reader.now.inner) (g.W.Write.contents c.args.writer.now.inner) (g.R.Read.remaining c.run_resumed.new.reader.inner) (g.W.Write.contents c.run_resumed.new.writer.inner))
    (slots-start g.H.Starts.start g.S.Object.opening c.args.settings.now c.args.shards.items c.args.records.items c.in_ok-given.given.items c.in_ok-given.ensures c.requires.count) (ran-halted _ _ _ _ _ _ _ _ c.in-Ok.ensures.ran))
