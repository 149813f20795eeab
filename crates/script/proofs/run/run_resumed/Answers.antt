use Rattle.std.proofs.Common.{IfOk, OnErr, false, subst}
use Rattle.std.specs.Prelude.{map}
use Rattle.std.proofs.lemmas.Result.{IfErr-weaker}
use Rattle.script.specs.Cursor.{Cursor}
use Rattle.script.specs.Endings.{Halted, Ran}
use Rattle.shard_gate.specs.Starts.{starting}
use Rattle.script.proofs.EndLemmas.{begins_so, fault_of_resumed, not_refused_in_turn, nothing_done}
use Rattle.script.proofs.Steps.{on_any_err}
use Rattle.script.proofs.run.run_resumed.Goals as goal

pub returns-in_err-script-clause-halted : goal.returns-in_err-script-clause-halted
returns-in_err-script-clause-halted g c = on_any_err c.from_residual.result _ (nothing_done _ _ _ _ _)

pub run_script-requires-clause-begins : goal.run_script-requires-clause-begins
run_script-requires-clause-begins g c = begins_so _ _ _ c.in_ok-script.ensures.cursor

pub run_script-requires-clause-traced : goal.run_script-requires-clause-traced
run_script-requires-clause-traced g c = λ traced. absurd (cc traced)

pub returns-clause-ran : goal.returns-clause-ran
returns-clause-ran g c =
    subst (λ (d : Cursor). IfOk c.run_script.result (λ o. Ran d.settings false d.world (g.R.Read.remaining c.args.reader.now.inner) (g.W.Write.contents c.args.writer.now.inner) (g.R.Read.remaining c.run_script.new.reader.inner) (g.W.Write.contents c.run_script.new.writer.inner) o.refused o.records.items))
    c.in_ok-script.ensures.cursor c.run_script.ensures.ran

pub returns-clause-halted : goal.returns-clause-halted
returns-clause-halted g c =
    subst (λ (d : Cursor). OnErr c.run_script.result (Halted d.settings false d.world (g.R.Read.remaining c.args.reader.now.inner) (g.W.Write.contents c.args.writer.now.inner) (g.R.Read.remaining c.run_script.new.reader.inner) (g.W.Write.contents c.run_script.new.writer.inner)))
    c.in_ok-script.ensures.cursor c.run_script.ensures.halted

pub returns-clause-untouched : goal.returns-clause-untouched
returns-clause-untouched g c = IfErr-weaker c.run_script.result _ _ (λ e h. not_refused_in_turn e _ _ _ _ _ h) c.run_script.ensures.fault

pub returns-clause-fault : goal.returns-clause-fault
returns-clause-fault g c = IfErr-weaker c.run_script.result _ _ (λ e h. fault_of_resumed c.args.source c.args.settings.now (map (starting g.S.Object.opening) c.args.shards.items) e _ _ _ _ h) c.run_script.ensures.fault
