use Rattle.sparse_numbers.specs.Pages.{number_at}
use Rattle.sparse_numbers.proofs.NumberLemmas.{as-many}
use Rattle.sparse_numbers.proofs.numbers.SparseNumbers.len.Goals as goal

pub returns : goal.returns
returns c = as-many (number_at c.self.inside.pages) c.self.inside.len _ _ c.self.view_is
