use Rattle.std.proofs.Common.{arith, ap, ◌∙◌, slice_set}
use Rattle.sparse_numbers.specs.Pages.{number_at}
use Rattle.sparse_numbers.proofs.NumberLemmas.{items-are, same-first, set-first, within}
use Rattle.sparse_numbers.proofs.PageLemmas.{paged-written}
use Rattle.sparse_numbers.proofs.numbers.SparseNumbers.set.Goals as goal

pub make-requires-clause-index : goal.make-requires-clause-index
make-requires-clause-index c =
    let low = within (number_at c.self.inside.pages) c.self.inside.len _ _ c.self.view_is c.args.index c.requires in
    omega (arith, low, c.self.invariant.fits)

pub invariant_of-self : goal.invariant_of-self
invariant_of-self c = c.make.ensures.paged c.self.inside.len c.self.invariant

pub invariant_of-self-2 : goal.invariant_of-self-2
invariant_of-self-2 c =
    let low = within (number_at c.self.inside.pages) c.self.inside.len _ _ c.self.view_is c.args.index c.requires in
    paged-written _ _ c.self.inside.len c.args.index c.args.number low (c.make.ensures.paged c.self.inside.len c.self.invariant) c.write.ensures

pub returns-clause-ok : goal.returns-clause-ok
returns-clause-ok c =
    set-first _ _ c.self.inside.len c.args.index c.args.number (within (number_at c.self.inside.pages) c.self.inside.len _ _ c.self.view_is c.args.index c.requires) c.write.ensures.here c.write.ensures.others
    ∙ ap (λ l. slice_set l c.args.index c.args.number) (same-first _ _ c.self.inside.len (λ k low. c.make.ensures.same k) ∙ items-are (number_at c.self.inside.pages) c.self.inside.len _ _ c.self.view_is)
