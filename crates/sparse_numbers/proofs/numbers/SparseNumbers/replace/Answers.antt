use Rattle.std.proofs.Common.{ap, ◌∙◌, slice_set}
use Rattle.sparse_numbers.specs.Pages.{number_at}
use Rattle.sparse_numbers.proofs.NumberLemmas.{items-are, number-is, set-first, within}
use Rattle.sparse_numbers.proofs.PageLemmas.{may-replace, paged-written}
use Rattle.sparse_numbers.proofs.numbers.SparseNumbers.replace.Goals as goal

pub replace-requires : goal.replace-requires
replace-requires c = may-replace c.self.inside.pages c.args.index c.args.number _ c.requires.some (number-is (number_at c.self.inside.pages) c.self.inside.len _ _ c.self.view_is c.args.index c.requires.there)

pub returns-clause-items : goal.returns-clause-items
returns-clause-items c =
    set-first _ _ c.self.inside.len c.args.index c.args.number (within (number_at c.self.inside.pages) c.self.inside.len _ _ c.self.view_is c.args.index c.requires.there) c.replace.ensures.here c.replace.ensures.others
    ∙ ap (λ l. slice_set l c.args.index c.args.number) (items-are (number_at c.self.inside.pages) c.self.inside.len _ _ c.self.view_is)

pub invariant_of-self : goal.invariant_of-self
invariant_of-self c =
    let low = within (number_at c.self.inside.pages) c.self.inside.len _ _ c.self.view_is c.args.index c.requires.there in
    paged-written _ _ c.self.inside.len c.args.index c.args.number low c.self.invariant c.replace.ensures
