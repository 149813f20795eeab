use Rattle.std.proofs.Common.{ap, sym, subst, ◌∙◌, ◌∷◌, []}
use Rattle.std.specs.Prelude.{List, Option}
use Rattle.std.proofs.lemmas.List.{map-append}
use Rattle.timeouts.specs.declared.deadlines.DueId.{DueId}
use Rattle.timeouts.specs.Places.{ids_of, noted, IsByPlace}
use Rattle.timeouts.proofs.PlaceLemmas.{pushed}
use Rattle.timeouts.proofs.by_place.ByPlace.push_none.Goals as goal

pub invariant_of-self : goal.invariant_of-self
invariant_of-self c =
    let notes = c.self.inside.notes.items in
    subst (λ (ids : List (Option DueId)). IsByPlace c.self.inside.heap.members ids) (sym (ap ids_of c.push_reserved.ensures.items ∙ map-append noted notes (0 ∷ [])))
    (pushed c.self.inside.heap.members (ids_of notes) c.self.invariant)
