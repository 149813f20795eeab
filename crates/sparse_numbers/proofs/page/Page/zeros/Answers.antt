use Rattle.std.proofs.Common.{◌∙◌}
use Rattle.sparse_numbers.proofs.PageLemmas.{filled}
use Rattle.sparse_numbers.proofs.page.Page.zeros.Goals as goal

pub returns : goal.returns
returns c = c.in_ok-resize.ensures.items ∙ filled c.new-numbers.result.items _ c.new-numbers.ensures.items c.new-numbers.ensures.len
