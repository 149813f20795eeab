use Rattle.std.proofs.Common.{◌≡◌, Some, subst, ◌∙◌}
use Rattle.std.specs.Io.KnownBytes.{Appends}
use Rattle.wire_counted.specs.Written.{AppendsBeginning}
use Rattle.wire_counted.proofs.Known.{beginning_of_nothing}
use Rattle.script.specs.Serving.{text_of}
use Rattle.script.proofs.Steps.{on_any_err}
use Rattle.lanes.proofs.print.print_reply.Goals as goal

pub returns-in_err-text-clause-begun : goal.returns-in_err-text-clause-begun
returns-in_err-text-clause-begun g c = on_any_err c.from_residual.result _ (beginning_of_nothing _ _)

pub returns-in_err-print_line-clause-begun : goal.returns-in_err-print_line-clause-begun
returns-in_err-print_line-clause-begun g c =
    let text : c.as_bytes.result.now ≡ text_of c.args.number (Some c.args.reply.now) = c.as_bytes.ensures.value ∙ c.in_ok-text.ensures in
    on_any_err c.from_residual-in_err-print_line.result _
    (subst (AppendsBeginning (g.W.Write.contents c.args.writer.now.inner) (g.W.Write.contents c.print_line.new.writer.inner)) text c.in_err-print_line.ensures.begun)

pub returns-clause-printed : goal.returns-clause-printed
returns-clause-printed g c =
    let text : c.as_bytes.result.now ≡ text_of c.args.number (Some c.args.reply.now) = c.as_bytes.ensures.value ∙ c.in_ok-text.ensures in
    subst (Appends (g.W.Write.contents c.args.writer.now.inner) (g.W.Write.contents c.print_line.new.writer.inner)) text c.in_ok-print_line.ensures.printed
