use Rattle.std.proofs.Common.{ap, sym, ◌≡◌, ◌∙◌, refl, subst, slice_set, map}
use Rattle.std.specs.Prelude.{None, List, Option}
use Rattle.std.specs.FinMap.{FinMap, remove}
use Rattle.std.specs.Ordering.{nat_cmp}
use Rattle.timeouts.specs.declared.deadlines.DueId.{DueId}
use Rattle.timeouts.specs.declared.due.Due.{Due}
use Rattle.timeouts.specs.Places.{ids_of, known_by, IsByPlace}
use Rattle.timeouts.specs.Slots.{Slots}
use Rattle.timeouts.proofs.PlaceLemmas.{taken-away, slots-away, cleared, read-id, ids-set, as-many}
use Rattle.timeouts.proofs.by_place.ByPlace.remove.Goals as goal

pub returns-in_default-clause-slots : goal.returns-in_default-clause-slots
returns-in_default-clause-slots c =
    let notes = c.self.inside.notes.items in
    let slots = ap (λ (s : Slots). s.slots) c.self.view_is in
    let is = read-id notes c.args.number c.get.result c.noted.result c.get.ensures c.noted.ensures ∙ c.in_default.is in
    subst (λ s. s ≡ slice_set s c.args.number None) slots (cleared c.self.inside.heap.members (ids_of notes) c.args.number is)

pub remove-requires : goal.remove-requires
remove-requires c =
    let notes = c.self.inside.notes.items in
    c.self.invariant.there c.args.number c.in-Some.id (read-id notes c.args.number c.get.result c.noted.result c.get.ensures c.noted.ensures ∙ c.in-Some.is)

pub invariant_of-self : goal.invariant_of-self
invariant_of-self c =
    let m = c.self.inside.heap.members in
    let notes = c.self.inside.notes.items in
    let n = c.args.number in
    let slots = ap (λ (s : Slots). s.slots) c.self.view_is in
    let within = as-many m (ids_of notes) c.args.self.now.slots n slots c.requires in
    let is = read-id notes n c.get.result c.noted.result c.get.ensures c.noted.ensures ∙ c.in-Some.is in
    let P : FinMap nat_cmp Due → Type 0 = λ x. IsByPlace x (ids_of c.replace.new.self.items) in
    subst P (sym c.remove.ensures.removed)
    (subst (λ (ids : List (Option DueId)). IsByPlace (remove m c.in-Some.id.number) ids) (sym (ap ids_of c.replace.ensures.items ∙ ids-set notes n 0 None refl)) (taken-away m (ids_of notes) n c.self.invariant within c.in-Some.id is))

pub returns-clause-slots : goal.returns-clause-slots
returns-clause-slots c =
    let m = c.self.inside.heap.members in
    let notes = c.self.inside.notes.items in
    let n = c.args.number in
    let slots = ap (λ (s : Slots). s.slots) c.self.view_is in
    let within = as-many m (ids_of notes) c.args.self.now.slots n slots c.requires in
    let is = read-id notes n c.get.result c.noted.result c.get.ensures c.noted.ensures ∙ c.in-Some.is in
    ap (map (known_by c.remove.new.self.members)) (ap ids_of c.replace.ensures.items ∙ ids-set notes n 0 None refl)
    ∙ ap (λ (x : FinMap nat_cmp Due). map (known_by x) (slice_set (ids_of notes) n None)) c.remove.ensures.removed
    ∙ slots-away m (ids_of notes) n c.self.invariant within c.in-Some.id is
    ∙ ap (λ s. slice_set s n None) slots
