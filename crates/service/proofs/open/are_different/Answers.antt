use Rattle.std.proofs.Common.{sym, ap, ◌∙◌}
use Rattle.service.specs.Ranges.{stands_in}
use Rattle.service.proofs.OpenLemmas.{different-step, different-fails, different-end}
use Rattle.service.proofs.open.are_different.Goals as goal

pub loop-place-preserved : goal.loop-place-preserved
loop-place-preserved c =
    let names = c.args.names.now in
    let name = c.index-names-place.result in
    let said = ap (λ n. stands_in n c.split_at.result.1.now) (sym c.index-names-place.is) ∙ sym c.stands_in.ensures ∙ c.if-stands_in.false in
    c.loop-place.invariant ∙ different-step names c.loop-place.place name c.loop-place-test.true (ap (stands_in _) (sym c.split_at.ensures.back) ∙ said)

pub returns-then-stands_in : goal.returns-then-stands_in
returns-then-stands_in c =
    let names = c.args.names.now in
    let name = c.index-names-place.result in
    let said = ap (λ n. stands_in n c.split_at.result.1.now) (sym c.index-names-place.is) ∙ sym c.stands_in.ensures ∙ c.if-stands_in.true in
    sym (c.loop-place.invariant ∙ different-fails names c.loop-place.place name c.loop-place-test.true (ap (stands_in _) (sym c.split_at.ensures.back) ∙ said))

pub returns : goal.returns
returns c = sym (c.loop-place.invariant ∙ different-end c.args.names.now c.loop-place.place c.loop-place-test.false)
