use Rattle.std.proofs.Common.{ap, map}
use Rattle.service.specs.Reopening.{record_at}
use Rattle.service.specs.Resuming.{Resumes}
use Rattle.std.proofs.lemmas.Result.{IfErr-weaker, IfOk-weaker, on_err_weaker}
use Rattle.shard_gate.specs.Starts.{records_in, starting}
use Rattle.script.proofs.EndLemmas.{fault_of_resumed, not_refused_in_turn, resuming_fault_of}
use Rattle.script.proofs.ResumeLemmas.{refused-resuming}
use Rattle.lanes.proofs.OpenedLemmas.{began-resumed, halted-so, held-resumed, ran-so}
use Rattle.lanes.proofs.reopened.run_lanes_resumed.Goals as goal

pub returns-in-Err-clause-fault : goal.returns-in-Err-clause-fault
returns-in-Err-clause-fault g c =
    let starts = map (starting g.S.Object.opening) c.args.shards.items in
    resuming_fault_of c.args.source c.args.settings.now starts c.opening_fault.result _ _ _ _ (refused-resuming c.args.source c.args.settings.now starts c.in-Err.refusal c.opening_fault.result c.in-Err.ensures.err c.opening_fault.ensures)

pub run_over-requires-clause-began : goal.run_over-requires-clause-began
run_over-requires-clause-began g c = λ κs lives.
    let starts = map (starting g.S.Object.opening) c.args.shards.items in
    began-resumed c.args.source c.args.settings.now starts c.in-Ok.resumed.0 c.in-Ok.resumed.1.items c.requires.starts c.in-Ok.ensures.ok

pub run_over-requires-clause-traced : goal.run_over-requires-clause-traced
run_over-requires-clause-traced g c = λ κs lives t. absurd (cc t)

pub returns-clause-ran : goal.returns-clause-ran
returns-clause-ran g c =
    let K = c.args.settings.now in
    let starts = map (starting g.S.Object.opening) c.args.shards.items in
    let x = c.in-Ok.resumed.0 in
    let ps = c.in-Ok.resumed.1.items in
    let h = c.in-Ok.ensures.ok in
    IfOk-weaker c.run_over.result _ _
    (λ done r. ran-so (Resumes c.args.source K starts) x ps h K x.gate.origin.bases (records_in starts) (λ s. ap (λ rs. record_at rs s) h.records) (λ y qs resumed. resumed.held.held) _ _ _ _ _ done.refused done.records.items
    (held-resumed c.args.source K starts) r)
    c.run_over.ensures.ran

pub returns-clause-halted : goal.returns-clause-halted
returns-clause-halted g c =
    let K = c.args.settings.now in
    let starts = map (starting g.S.Object.opening) c.args.shards.items in
    on_err_weaker c.run_over.result (halted-so (Resumes c.args.source K starts) c.in-Ok.resumed.0 c.in-Ok.resumed.1.items c.in-Ok.ensures.ok K _ _ _ _ _) c.run_over.ensures.halted

pub returns-clause-untouched : goal.returns-clause-untouched
returns-clause-untouched g c = IfErr-weaker c.run_over.result _ _ (λ e h. not_refused_in_turn e _ _ _ _ _ h) c.run_over.ensures.fault

pub returns-clause-fault : goal.returns-clause-fault
returns-clause-fault g c = IfErr-weaker c.run_over.result _ _ (λ e h. fault_of_resumed c.args.source c.args.settings.now (map (starting g.S.Object.opening) c.args.shards.items) e _ _ _ _ h) c.run_over.ensures.fault
