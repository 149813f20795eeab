use Rattle.std.proofs.Common.{ap, sym, subst, map, ◌∙◌, ◌++◌, replicate}
use Rattle.std.specs.Prelude.{List, Option, None}
use Rattle.std.proofs.lemmas.List.{map-append}
use Rattle.sparse_numbers.proofs.NumberLemmas.{map-replicate}
use Rattle.timeouts.specs.Slots.{Slots}
use Rattle.timeouts.specs.declared.deadlines.DueId.{DueId}
use Rattle.timeouts.specs.Places.{ids_of, known_by, noted, IsByPlace}
use Rattle.timeouts.proofs.PlaceLemmas.{extended}
use Rattle.timeouts.proofs.by_place.ByPlace.extend_none.Goals as goal

pub invariant_of-self : goal.invariant_of-self
invariant_of-self c =
    let notes = c.self.inside.notes.items in
    subst (λ (ids : List (Option DueId)). IsByPlace c.self.inside.heap.members ids)
    (sym (ap ids_of c.extend_zeros_reserved.ensures.items ∙ map-append noted notes (replicate c.args.count 0) ∙ ap (λ l. ids_of notes ++ l) (map-replicate noted c.args.count 0)))
    (extended c.self.inside.heap.members c.args.count (ids_of notes) c.self.invariant)

pub returns : goal.returns
returns c =
    let notes = c.self.inside.notes.items in
    let known = known_by c.self.inside.heap.members in
    ap (λ l. map known (ids_of l)) c.extend_zeros_reserved.ensures.items
    ∙ ap (map known) (map-append noted notes (replicate c.args.count 0) ∙ ap (λ l. ids_of notes ++ l) (map-replicate noted c.args.count 0))
    ∙ map-append known (ids_of notes) (replicate c.args.count None)
    ∙ ap (λ l. map known (ids_of notes) ++ l) (map-replicate known c.args.count None)
    ∙ ap (λ (v : Slots). v.slots ++ replicate c.args.count None) c.self.view_is
