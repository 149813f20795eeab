use Rattle.std.proofs.Common.{◌-◌, ◌++◌, [], refl, ap, replicate, slice_index_or, slice_set, subst, sym, ◌∙◌}
use Rattle.sparse_numbers.specs.Pages.{IsPaged}
use Rattle.sparse_numbers.proofs.BeforeLemmas.{paged-given, read, set}
use Rattle.sparse_numbers.proofs.pages.Pages.give_back.Goals as goal

pub returns-then-is_blank-clause-paged : goal.returns-then-is_blank-clause-paged
returns-then-is_blank-clause-paged c len inside paged =
    let s = c.self.inside in
    let ps = c.args.self.now in
    let page = c.args.page in
    let now = read s.before s.kept.items ps c.self.view_is page c.index.result.now c.if-page-self.false c.requires c.index.ensures in
    let is = ap (λ l. replicate s.before [] ++ slice_set s.kept.items (page - s.before) l) c.absent.ensures ∙ set s.before s.kept.items ps c.self.view_is page [] c.if-page-self.false in
    subst (λ qs. IsPaged qs len) (sym (c.leave_out.ensures ∙ is))
    (paged-given ps page len c.requires inside (λ k. ap (λ l. slice_index_or l k 0) (sym now) ∙ c.if-is_blank.ensures refl k) paged)
