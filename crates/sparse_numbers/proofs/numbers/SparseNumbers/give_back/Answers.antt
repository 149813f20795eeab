use Rattle.std.proofs.Common.{arith, ◌∙◌}
use Rattle.sparse_numbers.specs.Pages.{number_at}
use Rattle.sparse_numbers.proofs.NumberLemmas.{items-are, same-first}
use Rattle.sparse_numbers.proofs.numbers.SparseNumbers.give_back.Goals as goal

pub invariant_of-self : goal.invariant_of-self
invariant_of-self c = c.give_back.ensures.paged c.self.inside.len (omega (arith, c.if-page-self.true)) c.self.invariant

pub returns-then-page-self-clause-items : goal.returns-then-page-self-clause-items
returns-then-page-self-clause-items c =
    same-first (number_at c.self.inside.pages) _ c.self.inside.len (λ k low. c.give_back.ensures.same k)
    ∙ items-are (number_at c.self.inside.pages) c.self.inside.len _ _ c.self.view_is
