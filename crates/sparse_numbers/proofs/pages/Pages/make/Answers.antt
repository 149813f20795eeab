use Rattle.std.proofs.Common.{ap, ◌∙◌}
use Rattle.sparse_numbers.specs.Pages.{number_at}
use Rattle.sparse_numbers.proofs.PageLemmas.{is-not, made}
use Rattle.sparse_numbers.proofs.pages.Pages.make.Goals as goal

pub returns-clause-same : goal.returns-clause-same
returns-clause-same c k =
    ap (λ ps. number_at ps k) c.in_ok-put.ensures.ok
    ∙ made c.args.self.now c.args.index c.in_ok-made.made c.requires.index c.requires.whole (is-not _ c.if-is_there.ensures) c.in_ok-made.ensures k
