use Rattle.std.proofs.Common.{refl, subst, ◌∙◌, arith}
use Rattle.std.proofs.lemmas.List.{take_all}
use Rattle.script.proofs.Steps.{on_any_err}
use Rattle.lanes.specs.Printed.{Printed}
use Rattle.lanes.proofs.PrintLemmas.{begun-at, printed-more, printed-none}
use Rattle.lanes.proofs.print.print.Goals as goal

pub loop-place-init : goal.loop-place-init
loop-place-init g c = record { passes = refl; calls = refl; number = omega arith; printed = λ rss left numbered. printed-none _ rss _ _ left; grows = omega arith }

pub returns-in_err-refused-clause-begun : goal.returns-in_err-refused-clause-begun
returns-in_err-refused-clause-begun g c =
    let h = c.loop-place.invariant in
    on_any_err c.from_residual.result _
    (λ rss left numbered. begun-at c.args.first c.loop-place.number c.loop-place.place-index c.args.places.now c.place-item.result c.loop-place.refused rss c.loop-place.lanes _ _ _ (omega arith) c.place-item.is h.number numbered (h.printed rss left numbered) c.in_err-refused.ensures.begun)

pub loop-place-preserved : goal.loop-place-preserved
loop-place-preserved g c =
    let h = c.loop-place.invariant in
    record {
      passes = c.in_ok-refused.ensures.passes ∙ h.passes;
      calls = c.in_ok-refused.ensures.calls ∙ h.calls;
      number = omega (arith, h.number);
      printed = λ rss left numbered. printed-more c.args.first c.loop-place.number c.loop-place.place-index c.args.places.now c.place-item.result c.loop-place.refused c.in_ok-refused.field-0 rss c.loop-place.lanes _ _ _ _ (omega arith) c.place-item.is h.number numbered
          (h.printed rss left numbered) c.in_ok-refused.ensures.printed;
      grows = omega (arith, h.grows, c.in_ok-refused.ensures.grows);
    }

pub returns-clause-printed : goal.returns-clause-printed
returns-clause-printed g c =
    let h = c.loop-place.invariant in
    λ rss left numbered.
    subst (λ ps. Printed c.args.first ps rss c.loop-place.lanes c.loop-place.refused (g.W.Write.contents c.args.writer.now.inner) (g.W.Write.contents c.loop-place.writer.inner))
    (take_all c.loop-place.place-index c.args.places.now (omega (arith, c.loop-place-test.false))) (h.printed rss left numbered)
