use Rattle.std.proofs.Common.{◌≡◌, ◌-◌, ◌++◌, ◌∷◌, [], take, drop, length, sym, ap, subst, ◌∙◌, arith}
use Rattle.std.proofs.lemmas.List.{length-append, length-drop, length-take-le, take-append-drop, take_all}
use Rattle.lanes.specs.Found.{EndsLines}
use Rattle.lanes.proofs.FoundLemmas.{cut-ends, ends-none}
use Rattle.lanes.proofs.reading.part_at.Goals as goal

pub returns-in-Some-clause-ends : goal.returns-in-Some-clause-ends
returns-in-Some-clause-ends c =
    let text = c.args.text.now in
    let f = c.min-front.result in
    let part = c.in-Some.part.now in
    let is : text ≡ take f text ++ (part ++ 10 ∷ c.in-Some.field-0-1.now) = sym (take-append-drop f text) ∙ ap (λ x. take f text ++ x) (sym (take_all (length text - f) (drop f text) (omega (arith, length-drop f text))) ∙ c.in-Some.ensures.parts) in
    subst EndsLines (sym c.split_at.ensures.front)
    (cut-ends text (take f text) part c.in-Some.field-0-1.now _ is (omega (arith, length-append (take f text) (part ++ 10 ∷ []), length-append part (10 ∷ []), length-take-le f text (omega arith))))

pub returns-in-None-clause-ends : goal.returns-in-None-clause-ends
returns-in-None-clause-ends c = subst EndsLines (sym c.split_at-in-None.ensures.front) ends-none
