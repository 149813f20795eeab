use Rattle.lanes.proofs.LaneLemmas.{own-same}
use Rattle.lanes.proofs.PrintLemmas.{begun-all}
use Rattle.lanes.proofs.RepliedLemmas.{phase-numbered}
use Rattle.lanes.proofs.WorkLemmas.{collect, idle-same}
use Rattle.script.proofs.Steps.{on_any_err}
use Rattle.wire_counted.proofs.Known.{Appends-keeps}
use Rattle.script.specs.Output.{numbered_from}
use Rattle.lanes.specs.Lanes.{Phase}
use Rattle.lanes.proofs.phase.serve_phase.Goals as goal

pub returns-in_err-refused-clause-own : goal.returns-in_err-refused-clause-own
returns-in_err-refused-clause-own g c = own-same (g.D.Door.admits c.args.door.now) c.serve_lanes.new.lanes c.print.new.lanes c.print.ensures.passes c.serve_lanes.ensures.own

pub returns-in-Err-clause-own : goal.returns-in-Err-clause-own
returns-in-Err-clause-own g c = own-same (g.D.Door.admits c.args.door.now) c.serve_lanes.new.lanes c.print.new.lanes c.print.ensures.passes c.serve_lanes.ensures.own

pub returns-clause-own : goal.returns-clause-own
returns-clause-own g c = own-same (g.D.Door.admits c.args.door.now) c.serve_lanes.new.lanes c.print.new.lanes c.print.ensures.passes c.serve_lanes.ensures.own

pub returns-in_err-refused-clause-begun : goal.returns-in_err-refused-clause-begun
returns-in_err-refused-clause-begun g c =
    let serves = g.D.Door.serves c.args.door.now in
    let x = collect serves c.args.lanes.now c.serve_lanes.new.lanes c.serve_lanes.ensures.count c.serve_lanes.ensures.worked in
    let phase : Phase serves c.args.lanes.now = record { worked = c.serve_lanes.new.lanes; replies = x.replies; count = c.serve_lanes.ensures.count; counts = x.counts; each = x.each } in
    on_any_err c.from_residual.result _ (record {
      phase = phase;
      begun = λ lines w. c.in_err-refused.ensures.begun x.replies x.left (phase-numbered serves c.args.first lines c.args.places.now c.args.lanes.now c.requires.numbers phase w);
    })

pub returns-in-Err-clause-begun : goal.returns-in-Err-clause-begun
returns-in-Err-clause-begun g c =
    let serves = g.D.Door.serves c.args.door.now in
    let x = collect serves c.args.lanes.now c.serve_lanes.new.lanes c.serve_lanes.ensures.count c.serve_lanes.ensures.worked in
    let phase : Phase serves c.args.lanes.now = record { worked = c.serve_lanes.new.lanes; replies = x.replies; count = c.serve_lanes.ensures.count; counts = x.counts; each = x.each } in
    record {
      phase = phase;
      begun = λ lines w.
          begun-all _ _ c.in_ok-refused.refused x.replies _ _ _ _ (c.in_ok-refused.ensures.printed x.replies x.left (phase-numbered serves c.args.first lines c.args.places.now c.args.lanes.now c.requires.numbers phase w)) c.in-Err.ensures.bytes;
    }

pub returns-clause-printed : goal.returns-clause-printed
returns-clause-printed g c =
    let serves = g.D.Door.serves c.args.door.now in
    let x = collect serves c.args.lanes.now c.serve_lanes.new.lanes c.serve_lanes.ensures.count c.serve_lanes.ensures.worked in
    let phase : Phase serves c.args.lanes.now = record { worked = c.serve_lanes.new.lanes; replies = x.replies; count = c.serve_lanes.ensures.count; counts = x.counts; each = x.each } in
    record {
      phase = phase;
      printed = λ lines w.
          let p = c.in_ok-refused.ensures.printed x.replies x.left (phase-numbered serves c.args.first lines c.args.places.now c.args.lanes.now c.requires.numbers phase w) in
          record { replies = p.replies; left = p.left; took = p.took; kept = p.kept; written = Appends-keeps _ _ _ (numbered_from c.args.first p.replies) p.written c.flush.ensures.bytes; refused_is = p.refused_is };
      passes = c.in_ok-refused.ensures.passes;
      idle = idle-same c.serve_lanes.new.lanes c.print.new.lanes c.in_ok-refused.ensures.calls x.idle;
    }
