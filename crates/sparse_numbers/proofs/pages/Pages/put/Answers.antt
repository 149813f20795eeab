use Rattle.std.proofs.Common.{◌++◌, ◌≡◌, ◌≤◌, [], replicate, ap, arith, ◌∙◌}
use Rattle.sparse_numbers.specs.declared.pages.Pages.TheInside.{Inside}
use Rattle.sparse_numbers.proofs.BeforeLemmas.{fewer, set}
use Rattle.sparse_numbers.proofs.pages.Pages.put.Goals.{then-page-self+in_ok-put_before, else-page-self}
use Rattle.sparse_numbers.proofs.pages.Pages.put.Goals as goal

pub returns-clause-ok : goal.returns-clause-ok
returns-clause-ok c =
    let was = c.self.inside in
    let now = c.if-page-self.self-inside in
    let ps = c.args.self.now in
    let page = c.args.page in
    let low : now.before ≤ page =
    elim c.if-page-self.branch [
      | then-page-self+in_ok-put_before w ↦ omega (arith, ap (λ (t : Inside). t.before) w.self-inside-is)
      | else-page-self w ↦ omega (arith, ap (λ (t : Inside). t.before) w.self-inside-is, w.if-page-self.false)
    ] in
    let shown : replicate now.before [] ++ now.kept.items ≡ ps =
    elim c.if-page-self.branch [
      | then-page-self+in_ok-put_before w ↦
          ap (λ (t : Inside). replicate t.before [] ++ t.kept.items) w.self-inside-is
          ∙ ap (λ l. replicate page [] ++ l) w.in_ok-put_before.ensures.ok
          ∙ fewer was.before was.kept.items ps c.self.view_is page (omega (arith, w.if-page-self.true))
      | else-page-self w ↦ ap (λ (t : Inside). replicate t.before [] ++ t.kept.items) w.self-inside-is ∙ c.self.view_is
    ] in
    set now.before now.kept.items ps shown page c.args.put low
