use Rattle.std.proofs.Common.{arith}
use Rattle.std.proofs.lemmas.Result.{IfOk-weaker}
use Rattle.script_settings.proofs.CutLemmas.{parts_are_cut}
use Rattle.script_settings.proofs.queues.parts_of.Goals as goal

pub returns : goal.returns
returns c =
    IfOk-weaker c.collect.result _ _ (λ parts h.
    let run = h tt in
    let cut = c.split.ensures.runs run.0 run.0.seen run.1 in
    let bytes = cut.2 (omega arith) (λ q same. same, λ w o found. found) in
    parts_are_cut run.0 c.args.text.now parts.items run.3.0 bytes.1.0 (bytes.0.2 run.2) (cut.0 run.2)) c.collect.ensures.runs
