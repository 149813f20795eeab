use Rattle.std.proofs.Common.{◌++◌, arith, ap, ◌∙◌}
use Rattle.std.specs.Prelude.{replicate}
use Rattle.sparse_numbers.specs.Pages.{number_at, first_numbers}
use Rattle.sparse_numbers.proofs.NumberLemmas.{items-are, zeros-after}
use Rattle.sparse_numbers.proofs.numbers.SparseNumbers.extend_zeros_reserved.Goals as goal

pub loop-page-preserved : goal.loop-page-preserved
loop-page-preserved c =
    let before = c.loop-page.invariant in
    let now = c.give_back.ensures in
    record {
      paged = now.paged c.loop-page.self-inside.len (omega (arith, c.loop-page-test.true, c.loop-page.auto)) before.paged;
      same = λ k. now.same k ∙ before.same k;
      count = now.count ∙ before.count;
      len = before.len;
    }

pub returns-clause-items : goal.returns-clause-items
returns-clause-items c =
    let t = c.self.inside in
    let at = number_at t.pages in
    ap (first_numbers (number_at c.loop-page.self-inside.pages)) c.loop-page.invariant.len
    ∙ zeros-after at (number_at c.loop-page.self-inside.pages) t.len c.args.count c.loop-page.invariant.same c.self.invariant.blank
    ∙ ap (λ l. l ++ replicate c.args.count 0) (items-are at t.len _ _ c.self.view_is)
