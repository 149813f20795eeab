use Rattle.std.proofs.Common.{◌≡◌, ◌++◌, ◌∷◌, [], List, length, sym, ap, ◌∙◌, refl, arith, append_assoc, append-nil}
use Rattle.std.specs.Prelude.{map}
use Rattle.std.specs.Vec.Iter.{into_iter_items}
use Rattle.wf_event.specs.declared.attributes.Attributes.{Attributes}
use Rattle.service_model_types.specs.declared.journal.Fact.{Fact}
use Rattle.service_model.specs.Journal.{plain}
use Rattle.task_completion.proofs.end.as_facts.Goals as goal

no-length : (l : List Attributes) → length l ≡ 0 → l ≡ []
no-length [] h = refl
no-length (a ∷ l) h = absurd (omega arith)

one-more : (xs ys : List Fact) (f : Fact) → (xs ++ f ∷ []) ++ ys ≡ xs ++ f ∷ ys
one-more xs ys f = simp append_assoc

pub loop-attributes-init : goal.loop-attributes-init
loop-attributes-init c =
    let gives = c.into_iter-attributes-iterator.ensures.into_iter_gives in (
      tt,
      tt,
      ap (λ l. l ++ map plain (into_iter_items c.into_iter-attributes-iterator.result)) (c.in_ok-push.ensures.items ∙ ap (λ l. l ++ c.plain.result ∷ []) c.new-facts.ensures.items ∙ ap (λ f. f ∷ []) c.plain.ensures) ∙ ap (λ (l : List Attributes). plain c.args.first ∷ map plain l) gives.0,
      omega (arith, ap length gives.0, gives.1, c.args.others.ok.0),
    )

pub loop-attributes-preserved : goal.loop-attributes-preserved
loop-attributes-preserved c =
    let steps = c.in-Some.ensures.steps in
    let inv = c.loop-attributes.invariant in
    let rest = map plain (into_iter_items c.next.new.self) in (
      tt,
      tt,
      ap (λ l. l ++ rest) (c.in_ok-push-2.ensures.items ∙ ap (λ f. c.loop-attributes.facts.items ++ f ∷ []) c.plain-in-loop-attributes.ensures)
          ∙ one-more c.loop-attributes.facts.items rest (plain c.in-Some.attributes)
          ∙ ap (λ (l : List Attributes). c.loop-attributes.facts.items ++ map plain l) (sym steps.0)
          ∙ inv.2,
      omega (arith, ap length steps.0, steps.1, inv.3),
    )

pub returns : goal.returns
returns c =
    let none = no-length (into_iter_items c.loop-attributes.attributes-iterator) (c.loop-attributes.invariant.3 ∙ c.in-None.ensures.steps.0) in
    sym (append-nil c.loop-attributes.facts.items)
    ∙ ap (λ (l : List Attributes). c.loop-attributes.facts.items ++ map plain l) (sym none)
    ∙ c.loop-attributes.invariant.2
