use Rattle.std.proofs.Common.{◌/◌, ◌%◌, sym, subst, ap, ◌∙◌, slice_set}
use Rattle.sparse_numbers.specs.Pages.{IsWritten}
use Rattle.sparse_numbers.proofs.BeforeLemmas.{behind, inside, read, set, written}
use Rattle.sparse_numbers.proofs.pages.Pages.write.Goals as goal

pub returns : goal.returns
returns c =
    let s = c.self.inside in
    let ps = c.args.self.now in
    let i = c.args.index in
    let after = behind s.before s.kept.items ps c.self.view_is i c.requires in
    let page = read s.before s.kept.items ps c.self.view_is (i / 1024) c.index_mut.result.now after (inside ps i c.requires) c.index_mut.ensures.value in
    subst (λ qs. IsWritten ps qs i c.args.number) (sym (set s.before s.kept.items ps c.self.view_is (i / 1024) c.set.new.self after))
    (written ps i c.args.number c.set.new.self c.requires (c.set.ensures ∙ ap (λ l. slice_set l (i % 1024) c.args.number) page))
