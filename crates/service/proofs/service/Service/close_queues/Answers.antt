use Rattle.std.proofs.Common.{arith}
use Rattle.service.proofs.CloseLemmas.{hints-own, opened-by, queues-ended}
use Rattle.service.proofs.service.Service.close_queues.Goals as goal

pub handed_down-passes-requires : goal.handed_down-passes-requires
handed_down-passes-requires g c =
    let opened = opened-by c.args.passes.items c.args.self c.into_parts-gate.ensures.some_pass c.requires.own c.requires.all in
    omega (arith, c.requires.count, opened.range.few_passes)

pub close-requires : goal.close-requires
close-requires g c = record {
  own = hints-own c.args.passes.items c.args.self _ c.into_parts-gate.ensures.queues c.requires.own _ c.handed_down-passes.ensures.hints;
}

pub returns : goal.returns
returns g c =
    let opened = opened-by c.args.passes.items c.args.self c.into_parts-gate.ensures.some_pass c.requires.own c.requires.all in
    record { queues = queues-ended c.args.passes.items c.args.self _ c.into_parts-gate.ensures.queues _ c.handed_down-passes.ensures.hints opened c.close.ensures.ended }
