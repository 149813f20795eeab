use Rattle.std.proofs.Common.{sym, ◌∙◌}
use Rattle.sparse_numbers.specs.Pages.{number_at}
use Rattle.sparse_numbers.proofs.NumberLemmas.{number-is}
use Rattle.sparse_numbers.proofs.numbers.SparseNumbers.get.Goals as goal

pub returns : goal.returns
returns c = c.get.ensures ∙ sym (number-is (number_at c.self.inside.pages) c.self.inside.len _ _ c.self.view_is c.args.index c.requires)
