use Rattle.std.proofs.Common.{IfOk, OnErr, sym, subst}
use Rattle.std.proofs.lemmas.Result.{IfErr-weaker}
use Rattle.script.specs.Cursor.{Cursor}
use Rattle.script.specs.Endings.{Halted, Ran}
use Rattle.script.specs.Traced.{StepsStayAlone}
use Rattle.script.proofs.EndLemmas.{begins_so, fault_of_script, not_refused_in_turn, nothing_done, stays_alone}
use Rattle.script.proofs.Steps.{on_any_err}
use Rattle.script.proofs.run.run_from.Goals as goal

pub returns-in_err-script-clause-halted : goal.returns-in_err-script-clause-halted
returns-in_err-script-clause-halted g c = on_any_err c.from_residual.result _ (nothing_done _ _ _ _ _)

pub run_script-requires-clause-begins : goal.run_script-requires-clause-begins
run_script-requires-clause-begins g c = begins_so _ _ _ c.in_ok-script.ensures.cursor

pub run_script-requires-clause-traced : goal.run_script-requires-clause-traced
run_script-requires-clause-traced g c = λ traced. subst (λ (d : Cursor). StepsStayAlone d.settings d.world) (sym c.in_ok-script.ensures.cursor) (stays_alone c.args.settings.now c.args.records.items (c.requires.fresh traced))

pub returns-clause-ran : goal.returns-clause-ran
returns-clause-ran g c =
    subst (λ (d : Cursor). IfOk c.run_script.result (λ o. Ran d.settings c.args.trace d.world (g.R.Read.remaining c.args.reader.now.inner) (g.W.Write.contents c.args.writer.now.inner) (g.R.Read.remaining c.run_script.new.reader.inner) (g.W.Write.contents c.run_script.new.writer.inner) o.refused o.records.items))
    c.in_ok-script.ensures.cursor c.run_script.ensures.ran

pub returns-clause-halted : goal.returns-clause-halted
returns-clause-halted g c =
    subst (λ (d : Cursor). OnErr c.run_script.result (Halted d.settings c.args.trace d.world (g.R.Read.remaining c.args.reader.now.inner) (g.W.Write.contents c.args.writer.now.inner) (g.R.Read.remaining c.run_script.new.reader.inner) (g.W.Write.contents c.run_script.new.writer.inner)))
    c.in_ok-script.ensures.cursor c.run_script.ensures.halted

pub returns-clause-untouched : goal.returns-clause-untouched
returns-clause-untouched g c = IfErr-weaker c.run_script.result _ _ (λ e h. not_refused_in_turn e _ _ _ _ _ h) c.run_script.ensures.fault

pub returns-clause-fault : goal.returns-clause-fault
returns-clause-fault g c = IfErr-weaker c.run_script.result _ _ (λ e h. fault_of_script c.args.settings.now c.args.records.items e _ _ _ _ h) c.run_script.ensures.fault
