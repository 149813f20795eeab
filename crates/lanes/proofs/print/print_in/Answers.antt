use Rattle.std.proofs.Common.{◌≡◌, Some, slice_get, get_or, set, refl, sym, ap, subst, ◌∙◌, inr, arith}
use Rattle.std.proofs.Math.Seq.{map-set_same}
use Rattle.std.proofs.lemmas.List.{get_or-set_same}
use Rattle.std.proofs.lemmas.Option.{slice_get_read}
use Rattle.script.proofs.Steps.{on_any_err}
use Rattle.std.specs.Prelude.{slice_range}
use Rattle.std.specs.Io.KnownBytes.{Appends}
use Rattle.wire_counted.specs.Written.{AppendsBeginning}
use Rattle.wire_replies.specs.Replies.{reply_line}
use Rattle.lanes.specs.Calls.{waiting}
use Rattle.lanes.specs.Lanes.{calls_of}
use Rattle.lanes.proofs.WorkLemmas.{left-at, left-count, left-first, left-set, took-first, took-past}
use Rattle.lanes.proofs.print.print_in.Goals as goal

pub returns-in_err-print_refusal-clause-begun : goal.returns-in_err-print_refusal-clause-begun
returns-in_err-print_refusal-clause-begun g c =
    on_any_err c.from_residual.result _
    (λ rss left next. inr (record { reply = _; left = rss; took = took-past c.args.lane rss (omega (arith, left-count c.args.lanes.now rss left, c.if-lane-lanes.true)); written = c.in_err-print_refusal.ensures.begun }))

pub returns-then-lane-lanes-clause-printed : goal.returns-then-lane-lanes-clause-printed
returns-then-lane-lanes-clause-printed g c = λ rss left next. record {
  reply = _;
  left = rss;
  took = took-past c.args.lane rss (omega (arith, left-count c.args.lanes.now rss left, c.if-lane-lanes.true));
  kept = left;
  written = c.in_ok-print_refusal.ensures.printed;
  refused_is = refl;
}

pub returns-in_default-clause-passes : goal.returns-in_default-clause-passes
returns-in_default-clause-passes g c = map-set_same (λ l. l.pass) c.args.lanes.now c.args.lane c.take.new.self c.index-lanes-lane.result c.take.ensures.pass

pub returns-in_default-clause-calls : goal.returns-in_default-clause-calls
returns-in_default-clause-calls g c = map-set_same calls_of c.args.lanes.now c.args.lane c.take.new.self c.index-lanes-lane.result (ap waiting c.take.ensures.asked)

pub returns-in_err-print_line-clause-passes : goal.returns-in_err-print_line-clause-passes
returns-in_err-print_line-clause-passes g c = map-set_same (λ l. l.pass) c.args.lanes.now c.args.lane c.take.new.self c.index-lanes-lane.result c.take.ensures.pass

pub returns-in_err-print_line-clause-calls : goal.returns-in_err-print_line-clause-calls
returns-in_err-print_line-clause-calls g c = map-set_same calls_of c.args.lanes.now c.args.lane c.take.new.self c.index-lanes-lane.result (ap waiting c.take.ensures.asked)

pub returns-clause-passes : goal.returns-clause-passes
returns-clause-passes g c = map-set_same (λ l. l.pass) c.args.lanes.now c.args.lane c.take.new.self c.index-lanes-lane.result c.take.ensures.pass

pub returns-clause-calls : goal.returns-clause-calls
returns-clause-calls g c = map-set_same calls_of c.args.lanes.now c.args.lane c.take.new.self c.index-lanes-lane.result (ap waiting c.take.ensures.asked)

pub returns-in_err-print_line-clause-begun : goal.returns-in_err-print_line-clause-begun
returns-in_err-print_line-clause-begun g c =
    let ls = c.args.lanes.now in
    let y = get_or ls c.args.lane c.index-lanes-lane.result in
    let m = c.take.new.self in
    let a = c.answer-answer.result in
    let at : slice_get ls c.args.lane ≡ Some y = slice_get_read ls _ c.args.lane c.index-lanes-lane.result refl c.if-lane-lanes.false c.index-lanes-lane.is ∙ ap Some c.index-lanes-lane.is in
    let same : get_or (set ls c.args.lane m) c.args.lane c.index-lanes-lane-2.result ≡ m = get_or-set_same ls c.args.lane m c.index-lanes-lane-2.result c.if-lane-lanes.false in
    let there : slice_get m.replies.answers.items c.in-Some.at ≡ Some a = ap (λ l. slice_get l.replies.answers.items c.in-Some.at) (sym same) ∙ c.answer-answer.ensures in
    let same3 : get_or (set ls c.args.lane m) c.args.lane c.index-lanes-lane-3.result ≡ m = get_or-set_same ls c.args.lane m c.index-lanes-lane-3.result c.if-lane-lanes.false in
    let part = c.line.ensures a (ap (λ l. slice_get l.replies.answers.items c.in-Some.at) same3 ∙ there) ∙ ap (λ l. slice_range l.replies.text.items a.start a.end) same3 in
    on_any_err c.from_residual-in_err-print_line.result _
    (λ rss left next.
    let o = left-at ls rss c.args.lane y left at in
    let f = left-first y m c.in-Some.at a o.0 c.in-Some.ensures.first c.take.ensures.answered there o.2 in
    let text = part ∙ f.line.line ∙ ap (λ n. reply_line n f.reply.reply) (next f.reply f.rest (o.1 ∙ ap Some f.first)) in
    inr (record { reply = f.reply.reply; left = set rss c.args.lane f.rest; took = took-first c.args.lane rss o.0 f.rest f.reply o.1 f.first; written = subst (AppendsBeginning (g.W.Write.contents c.args.writer.now.inner) (g.W.Write.contents c.print_line.new.writer.inner)) text c.in_err-print_line.ensures.begun }))

pub returns-clause-printed : goal.returns-clause-printed
returns-clause-printed g c =
    let ls = c.args.lanes.now in
    let y = get_or ls c.args.lane c.index-lanes-lane.result in
    let m = c.take.new.self in
    let a = c.answer-answer.result in
    let at : slice_get ls c.args.lane ≡ Some y = slice_get_read ls _ c.args.lane c.index-lanes-lane.result refl c.if-lane-lanes.false c.index-lanes-lane.is ∙ ap Some c.index-lanes-lane.is in
    let same : get_or (set ls c.args.lane m) c.args.lane c.index-lanes-lane-2.result ≡ m = get_or-set_same ls c.args.lane m c.index-lanes-lane-2.result c.if-lane-lanes.false in
    let there : slice_get m.replies.answers.items c.in-Some.at ≡ Some a = ap (λ l. slice_get l.replies.answers.items c.in-Some.at) (sym same) ∙ c.answer-answer.ensures in
    let same3 : get_or (set ls c.args.lane m) c.args.lane c.index-lanes-lane-3.result ≡ m = get_or-set_same ls c.args.lane m c.index-lanes-lane-3.result c.if-lane-lanes.false in
    let part = c.line.ensures a (ap (λ l. slice_get l.replies.answers.items c.in-Some.at) same3 ∙ there) ∙ ap (λ l. slice_range l.replies.text.items a.start a.end) same3 in
    λ rss left next.
    let o = left-at ls rss c.args.lane y left at in
    let f = left-first y m c.in-Some.at a o.0 c.in-Some.ensures.first c.take.ensures.answered there o.2 in
    let text = part ∙ f.line.line ∙ ap (λ n. reply_line n f.reply.reply) (next f.reply f.rest (o.1 ∙ ap Some f.first)) in
    record {
      reply = f.reply.reply;
      left = set rss c.args.lane f.rest;
      took = took-first c.args.lane rss o.0 f.rest f.reply o.1 f.first;
      kept = left-set ls rss c.args.lane m f.rest left f.left;
      written = subst (Appends (g.W.Write.contents c.args.writer.now.inner) (g.W.Write.contents c.print_line.new.writer.inner)) text c.in_ok-print_line.ensures.printed;
      refused_is = f.line.refused_is;
    }
