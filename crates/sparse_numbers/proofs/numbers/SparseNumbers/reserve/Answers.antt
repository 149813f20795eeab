use Rattle.std.proofs.Common.{ℕ, ◌^◌, ◌≤◌, List, replicate, length, arith, sym, ap, subst, refl, ◌∙◌}
use Rattle.sparse_numbers.specs.Pages.{IsPaged, SameNumbers}
use Rattle.sparse_numbers.proofs.PageLemmas.{longer, more-same, paged-more}
use Rattle.sparse_numbers.proofs.numbers.SparseNumbers.reserve.Goals as goal

pub loop-self-preserved : goal.loop-self-preserved
loop-self-preserved c =
    let ps = c.loop-self.self-inside.pages in
    let page = replicate {A = ℕ} 1024 0 in
    let grown = longer ps page refl in
    let items = c.in_ok-push.ensures.ok in
    record {
      paged = subst (λ (qs : List (List ℕ)). IsPaged qs c.loop-self.self-inside.len) (sym items) (paged-more ps page refl c.loop-self.self-inside.len c.loop-self.invariant.paged (subst (λ (qs : List (List ℕ)). length qs ≤ 2 ^ 50) items c.in_ok-push.ensures.few));
      same = λ k. subst (λ (qs : List (List ℕ)). SameNumbers ps qs) (sym items) (more-same ps page refl) k ∙ c.loop-self.invariant.same k;
      count = c.loop-self.invariant.count;
      more = omega (arith, ap length items, grown, c.loop-self.invariant.more);
    }
