use Rattle.std.proofs.Common.{◌+◌, ◌*◌, ◌<◌, length, arith, ap, ◌∙◌, ◌++◌, ◌∷◌, []}
use Rattle.sparse_numbers.specs.Numbers.{Numbers}
use Rattle.sparse_numbers.specs.Pages.{number_at}
use Rattle.sparse_numbers.proofs.NumberLemmas.{items-are, push-first, same-first}
use Rattle.sparse_numbers.proofs.PageLemmas.{paged-next, paged-written}
use Rattle.sparse_numbers.proofs.numbers.SparseNumbers.push_reserved.Goals as goal

pub invariant_of-self : goal.invariant_of-self
invariant_of-self c =
    let t = c.self.inside in
    let room = ap (λ (v : Numbers). v.room) c.self.view_is in
    let low : t.len < 1024 * length t.pages = omega (arith, room, c.requires) in
    c.give_back.ensures.paged (t.len + 1) (omega (arith, c.if-self-eq0.true)) (paged-written t.pages _ (t.len + 1) t.len c.args.number (omega arith) (paged-next t.pages t.len c.self.invariant low) c.write.ensures)

pub returns-then-self-eq0-clause-items : goal.returns-then-self-eq0-clause-items
returns-then-self-eq0-clause-items c =
    same-first _ _ (c.self.inside.len + 1) (λ k low. c.give_back.ensures.same k)
    ∙ push-first _ _ c.self.inside.len c.args.number c.write.ensures.here c.write.ensures.others
    ∙ ap (λ l. l ++ c.args.number ∷ []) (items-are (number_at c.self.inside.pages) c.self.inside.len _ _ c.self.view_is)

pub returns-else-self-eq0-clause-items : goal.returns-else-self-eq0-clause-items
returns-else-self-eq0-clause-items c =
    push-first _ _ c.self.inside.len c.args.number c.write.ensures.here c.write.ensures.others
    ∙ ap (λ l. l ++ c.args.number ∷ []) (items-are (number_at c.self.inside.pages) c.self.inside.len _ _ c.self.view_is)
