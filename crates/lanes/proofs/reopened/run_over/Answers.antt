use Rattle.std.proofs.Common.{◌≡◌, ap, inl, inr, length, map, refl, subst, arith}
use Rattle.std.proofs.lemmas.Result.{err_from_is_err_and}
use Rattle.matching.specs.AtClose as of_queue
use Rattle.service.specs.AtClose.{held_at, parts_at}
use Rattle.service_model_types.specs.declared.settings.Settings.{Settings}
use Rattle.script.proofs.Steps.{on_any_err}
use Rattle.script.proofs.EndLemmas.{fault_at_end}
use Rattle.lanes.proofs.AlongLemmas.{ran-along}
use Rattle.lanes.proofs.TraceLemmas.{closed-merged, closed-ticketed, one-history}
use Rattle.lanes.proofs.ReopenLemmas.{ends-all, ends-count, number_of, numbers-kept, records-after}
use Rattle.lanes.proofs.reopened.run_over.Goals as goal

pub returns-in_err-ended-clause-halted : goal.returns-in_err-ended-clause-halted
returns-in_err-ended-clause-halted g c =
    let o = c.requires.began in
    on_any_err c.from_residual.result _ (inr (inl (record {
      service = c.args.service;
      passes = c.args.passes.items;
      opened = (refl, refl);
      halted = c.in_err-ended.ensures.halted;
    })))

pub close-closed-requires-clause-own : goal.close-closed-requires-clause-own
close-closed-requires-clause-own g c = c.in_ok-ended.ensures.own

pub close-closed-requires-clause-count : goal.close-closed-requires-clause-count
close-closed-requires-clause-count g c =
    let o = c.requires.began in
    let same : map number_of c.in_ok-ended.ended.passes.items ≡ map number_of c.args.passes.items = numbers-kept c.args.service c.args.settings.now c.args.passes.items _ _ _ _ c.in_ok-ended.ended.refused c.in_ok-ended.ended.passes.items c.in_ok-ended.ensures.ran in
    ends-count c.args.settings.now c.args.service c.args.passes.items c.in_ok-ended.ended.passes.items o.settings o.count same

pub close-closed-requires-clause-all : goal.close-closed-requires-clause-all
close-closed-requires-clause-all g c =
    let o = c.requires.began in
    let same : map number_of c.in_ok-ended.ended.passes.items ≡ map number_of c.args.passes.items = numbers-kept c.args.service c.args.settings.now c.args.passes.items _ _ _ _ c.in_ok-ended.ended.refused c.in_ok-ended.ended.passes.items c.in_ok-ended.ensures.ran in
    ends-all c.args.settings.now c.args.service c.args.passes.items c.in_ok-ended.ended.passes.items o.settings o.count same o.fresh

pub print_trace-requires : goal.print_trace-requires
print_trace-requires g c = λ t. closed-ticketed c.args.service c.close-closed.result.records.items _ c.close-closed.ensures.count c.close-closed.ensures.history (c.requires.traced t)

pub returns-clause-ran : goal.returns-clause-ran
returns-clause-ran g c =
    let o = c.requires.began in
    let e = c.close-closed.ensures in
    let x = c.args.service in
    let logs = c.close-closed.result.records.items in
    record {
      service = x;
      passes = c.args.passes.items;
      opened = (refl, refl);
      ends = c.in_ok-ended.ended.passes.items;
      replied = g.W.Write.contents c.run_lanes.new.writer.inner;
      ran = ran-along x logs _ _ _ _ _ _ _ _ e.count (λ s log k p there at. (e.passes s log k p there at).0) c.in_ok-ended.ensures.ran;
      records = records-after c.args.settings.now x.gate.origin.bases x c.in_ok-ended.ended.passes.items logs o.settings o.records e.count e.records e.passes;
      queues = λ slot below. subst (λ n. of_queue.IsEnd (held_at x slot) n (parts_at c.in_ok-ended.ended.passes.items slot)) (ap (λ (k : Settings). k.passes) o.settings) (e.queues slot (omega (arith, below, ap (λ (k : Settings). length k.queues) o.settings)));
      one = one-history x c.in_ok-ended.ended.passes.items logs c.close-closed.result.tickets.items e.history e.seen;
      traced = c.in_ok-print_trace.ensures.ok e.history.run (λ t. closed-merged x logs _ e.count e.history (c.requires.traced t));
    }

pub returns-in_err-print_trace-clause-halted : goal.returns-in_err-print_trace-clause-halted
returns-in_err-print_trace-clause-halted g c =
    let o = c.requires.began in
    let e = c.close-closed.ensures in
    let x = c.args.service in
    let logs = c.close-closed.result.records.items in
    on_any_err c.from_residual-in_err-print_trace.result _ (inr (inr (record {
      service = x;
      passes = c.args.passes.items;
      opened = (refl, refl);
      refused = c.in_ok-ended.ended.refused;
      ends = c.in_ok-ended.ended.passes.items;
      replied = g.W.Write.contents c.run_lanes.new.writer.inner;
      logs = logs;
      ran = ran-along x logs _ _ _ _ _ _ _ _ e.count (λ s log k p there at. (e.passes s log k p there at).0) c.in_ok-ended.ensures.ran;
      one = one-history x c.in_ok-ended.ended.passes.items logs c.close-closed.result.tickets.items e.history e.seen;
      begun = c.in_err-print_trace.ensures.err e.history.run (λ t. closed-merged x logs _ e.count e.history (c.requires.traced t));
    })))

pub returns-in_err-print_trace-clause-fault : goal.returns-in_err-print_trace-clause-fault
returns-in_err-print_trace-clause-fault g c =
    let p = err_from_is_err_and c.from_residual-in_err-print_trace.result c.from_residual-in_err-print_trace.ensures.1 in
    rw (p.1, p.2) (fault_at_end _ _ _ _ c.run_lanes.new.writer.failures _ c.in_ok-ended.ensures.grows c.in_err-print_trace.ensures.fault)
