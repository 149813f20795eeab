use Rattle.std.proofs.Common.{◌<◌, ◌∙◌, ap, length, subst, sym}
use Rattle.std.proofs.lemmas.List.{take_at}
use Rattle.std.specs.Prelude.{drop, get_or, slice_get}
use Rattle.gate_tests.specs.InOrder.{ComesBack}
use Rattle.gate_tests.proofs.PassLemmas.{each-back}
use Rattle.gate_tests.proofs.threads.step_all_together.Goals as goal

pub returns-clause-own : goal.returns-clause-own
returns-clause-own g c = λ k p there.
    let x = c.args.gate.now in
    let old = c.args.passes.now.items in
    let new = c.step_together.new.passes in
    let value = c.deref_mut.ensures.value in
    each-back x old new (c.step_together.ensures.count ∙ ap length value)
    (λ i d below. subst (λ l. ComesBack x (get_or l i d) (get_or new i d)) value (c.step_together.ensures.each i d (subst (λ l. i < length l) (sym value) below)))
    c.requires.own k p (ap (λ l. slice_get l k) (sym (take_at new (drop (length new) old) c.args.passes.now.len (c.step_together.ensures.count ∙ c.deref_mut.ensures.len))) ∙ there)
