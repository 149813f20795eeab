use Rattle.std.proofs.Common.{◌∙◌, ap}
use Rattle.service.specs.Reopening.{record_at}
use Rattle.service.proofs.OpenLemmas.{in-range}
use Rattle.std.proofs.lemmas.Result.{IfErr-weaker, IfOk-weaker, on_err_weaker}
use Rattle.shard_gate.specs.declared.source.Source.TheVariants.{Records as FromRecords}
use Rattle.script.proofs.EndLemmas.{not_refused_in_turn}
use Rattle.lanes.specs.Reopened.{IsOpenedFrom}
use Rattle.lanes.proofs.OpenedLemmas.{began-opened, halted-so, held-opened, opened-so, ran-so}
use Rattle.lanes.proofs.ReopenLemmas.{device-from, opening-refused}
use Rattle.lanes.proofs.reopened.run_lanes_from.Goals as goal

pub returns-in-Err-clause-fault : goal.returns-in-Err-clause-fault
returns-in-Err-clause-fault g c = opening-refused c.args.settings.now c.args.records.items c.in-Err.refusal c.opening_fault.result _ _ _ _ c.in-Err.ensures.err c.opening_fault.ensures

pub run_over-requires-clause-began : goal.run_over-requires-clause-began
run_over-requires-clause-began g c = λ κs lives. began-opened FromRecords c.args.settings.now c.args.records.items c.in-Ok.opened.0 c.in-Ok.opened.1.items c.in-Ok.ensures.ok

pub run_over-requires-clause-traced : goal.run_over-requires-clause-traced
run_over-requires-clause-traced g c = λ κs lives t s. c.in-Ok.ensures.ok.records s ∙ ap (λ logs. record_at logs s) (c.requires t)

pub returns-clause-ran : goal.returns-clause-ran
returns-clause-ran g c =
    let K = c.args.settings.now in
    let R = c.args.records.items in
    let x = c.in-Ok.opened.0 in
    let ps = c.in-Ok.opened.1.items in
    let o = c.in-Ok.ensures.ok in
    IfOk-weaker c.run_over.result _ _
    (λ done h. ran-so (IsOpenedFrom K R) x ps (opened-so K R x ps o) K x.gate.origin.bases R o.records (λ y qs opened. opened.held.held) c.args.trace _ _ _ _ done.refused done.records.items
    (λ y qs opened. held-opened K R y qs opened (in-range K o.range).some_pass) h)
    c.run_over.ensures.ran

pub returns-clause-halted : goal.returns-clause-halted
returns-clause-halted g c =
    let K = c.args.settings.now in
    let R = c.args.records.items in
    let x = c.in-Ok.opened.0 in
    let ps = c.in-Ok.opened.1.items in
    on_err_weaker c.run_over.result (halted-so (IsOpenedFrom K R) x ps (opened-so K R x ps c.in-Ok.ensures.ok) K c.args.trace _ _ _ _) c.run_over.ensures.halted

pub returns-clause-untouched : goal.returns-clause-untouched
returns-clause-untouched g c = IfErr-weaker c.run_over.result _ _ (λ e h. not_refused_in_turn e _ _ _ _ _ h) c.run_over.ensures.fault

pub returns-clause-fault : goal.returns-clause-fault
returns-clause-fault g c = IfErr-weaker c.run_over.result _ _ (λ e h. device-from c.args.settings.now c.args.records.items e _ _ _ _ h) c.run_over.ensures.fault
