use Rattle.std.proofs.Common.{◌+◌, ap, ◌∙◌, ◌++◌, [], replicate}
use Rattle.sparse_numbers.proofs.BeforeLemmas.{dropped, more}
use Rattle.sparse_numbers.proofs.pages.Pages.leave_out.Goals as goal

pub returns-then-others-absent : goal.returns-then-others-absent
returns-then-others-absent c =
    let s = c.self.inside in
    let n = c.absent_first-absent.result in
    ap (λ l. replicate (s.before + n) [] ++ l) (c.truncate.ensures.items ∙ dropped s.kept.items _ n _ c.absent_first-absent.ensures.few (c.len.ensures ∙ c.self.inside.kept.ok.0) c.rotate_left.ensures.items)
    ∙ more s.before s.kept.items c.args.self.now c.self.view_is n c.absent_first-absent.ensures.none
