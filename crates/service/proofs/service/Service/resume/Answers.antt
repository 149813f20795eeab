use Rattle.std.proofs.Common.{sym, ◌∙◌, subst, arith, map}
use Rattle.std.proofs.lemmas.List.{length-map}
use Rattle.std.specs.Prelude.{◌<◌, All}
use Rattle.service_model_types.specs.declared.content.Dispatch.{Dispatch}
use Rattle.shard_gate.specs.Starts.{Start, starting}
use Rattle.service.proofs.OpenLemmas.{in-range}
use Rattle.service.proofs.ResumeLemmas.{err-weaker, resumes-as}
use Rattle.service.proofs.ServedLemmas.{weaker}
use Rattle.service.proofs.StartLemmas.{waiting-below}
use Rattle.service.proofs.service.Service.resume.Goals as goal

pub resume-requires-clause-slots : goal.resume-requires-clause-slots
resume-requires-clause-slots g c =
    let K = c.args.settings.now in
    let shards = map (starting g.S.Object.opening) c.args.shards.items in
    let range = in-range K (sym c.in_ok-check_ranges.ensures) in
    let count = sym (length-map c.args.shards.items (starting g.S.Object.opening)) in
    let starts = sym (length-map shards (λ (s : Start). s.0)) ∙ c.requires.starts.count in
    (omega (arith, count, starts, range.some_shard), omega (arith, count, starts, range.few_shards))

pub behind_gate-requires-clause-range : goal.behind_gate-requires-clause-range
behind_gate-requires-clause-range g c = sym c.in_ok-check_ranges.ensures

pub behind_gate-requires-clause-count : goal.behind_gate-requires-clause-count
behind_gate-requires-clause-count g c = c.in_ok-opened.ensures.count

pub behind_gate-requires-clause-shards : goal.behind_gate-requires-clause-shards
behind_gate-requires-clause-shards g c =
    let K = c.args.settings.now in
    let shards = map (starting g.S.Object.opening) c.args.shards.items in
    subst (All (λ (d : Dispatch). d.hint.shard < K.shards)) (sym c.in_ok-opened.ensures.waiting) (waiting-below c.args.source K shards c.requires.starts)

pub returns-clause-ok : goal.returns-clause-ok
returns-clause-ok g c =
    let shards = map (starting g.S.Object.opening) c.args.shards.items in
    weaker c.behind_gate.result _ _ (λ r resumed. resumed shards c.in_ok-opened.ensures c.requires.starts) c.behind_gate.ensures.ok

pub returns-clause-err : goal.returns-clause-err
returns-clause-err g c =
    let K = c.args.settings.now in
    let shards = map (starting g.S.Object.opening) c.args.shards.items in
    err-weaker c.behind_gate.result _ _
    (λ e refused other. resumes-as c.args.source K shards _ _ (sym c.in_ok-check_ranges.ensures) c.in_ok-opened.ensures.waiting (refused other))
    c.behind_gate.ensures.err
