use Rattle.std.proofs.Common.{ap, sym, ℕ, ◌≡◌, ◌∙◌, subst, slice_index_or, slice_set, map}
use Rattle.std.specs.Prelude.{None, Some, List, Option}
use Rattle.std.specs.FinMap.{FinMap, get, insert, remove}
use Rattle.std.specs.Ordering.{nat_cmp}
use Rattle.timeouts.specs.declared.deadlines.DueId.{DueId}
use Rattle.timeouts.specs.declared.due.Due.{Due}
use Rattle.timeouts.specs.Places.{ids_of, known_by, IsByPlace}
use Rattle.timeouts.specs.Slots.{Slots}
use Rattle.timeouts.proofs.PlaceLemmas.{put-there, slots-put, no-id, as-many, added-removed}
use Rattle.timeouts.proofs.MemberLemmas.{get-there}
use Rattle.timeouts.proofs.by_place.ByPlace.put.Goals as goal

pub remove-requires : goal.remove-requires
remove-requires c =
    let k = c.add-id.result.number in
    (c.args.due, ap (λ (x : FinMap nat_cmp Due). get x k) c.add-id.ensures.added ∙ get-there c.reserve.new.self.members k c.args.due)

pub invariant_of-self-in-Err : goal.invariant_of-self-in-Err
invariant_of-self-in-Err c =
    let k = c.add-id.result.number in
    let again = c.remove.ensures.removed ∙ ap (λ (x : FinMap nat_cmp Due). remove x k) c.add-id.ensures.added ∙ added-removed c.reserve.new.self.members k c.args.due c.add-id.ensures.free ∙ c.in_ok-reserve.ensures.same in
    subst (λ (m : FinMap nat_cmp Due). IsByPlace m (ids_of c.note.new.notes.items)) (sym again)
    (subst (λ (notes : List ℕ). IsByPlace c.self.inside.heap.members (ids_of notes)) (sym c.in-Err.ensures.err) c.self.invariant)

pub returns-in-Err-clause-err : goal.returns-in-Err-clause-err
returns-in-Err-clause-err c =
    let k = c.add-id.result.number in
    let again = c.remove.ensures.removed ∙ ap (λ (x : FinMap nat_cmp Due). remove x k) c.add-id.ensures.added ∙ added-removed c.reserve.new.self.members k c.args.due c.add-id.ensures.free ∙ c.in_ok-reserve.ensures.same in
    ap (λ (m : FinMap nat_cmp Due). map (known_by m) (ids_of c.note.new.notes.items)) again
    ∙ ap (λ (notes : List ℕ). map (known_by c.self.inside.heap.members) (ids_of notes)) c.in-Err.ensures.err ∙ ap (λ (s : Slots). s.slots) c.self.view_is

pub invariant_of-self-in_default : goal.invariant_of-self-in_default
invariant_of-self-in_default c =
    let m = c.self.inside.heap.members in
    let ids = ids_of c.self.inside.notes.items in
    let n = c.args.number in
    let id = c.add-id.result in
    let same = c.in_ok-reserve.ensures.same in
    let slots = ap (λ (s : Slots). s.slots) c.self.view_is in
    let within = as-many m ids c.args.self.now.slots n slots c.requires.there in
    let none = no-id m ids n c.self.invariant (subst (λ s. slice_index_or s n None ≡ None) (sym slots) c.requires.none) in
    let free : get m id.number ≡ None = ap (λ (x : FinMap nat_cmp Due). get x id.number) (sym same) ∙ c.add-id.ensures.free in
    subst (λ (x : FinMap nat_cmp Due). IsByPlace x (ids_of c.note.new.notes.items)) (sym (c.add-id.ensures.added ∙ ap (λ (x : FinMap nat_cmp Due). insert x id.number c.args.due) same))
    (subst (λ (l : List (Option DueId)). IsByPlace (insert m id.number c.args.due) l) (sym c.in_default.ensures.ok) (put-there m ids n c.self.invariant within none id c.args.due free))

pub returns-clause-ok : goal.returns-clause-ok
returns-clause-ok c =
    let m = c.self.inside.heap.members in
    let ids = ids_of c.self.inside.notes.items in
    let n = c.args.number in
    let id = c.add-id.result in
    let same = c.in_ok-reserve.ensures.same in
    let slots = ap (λ (s : Slots). s.slots) c.self.view_is in
    let within = as-many m ids c.args.self.now.slots n slots c.requires.there in
    let none = no-id m ids n c.self.invariant (subst (λ s. slice_index_or s n None ≡ None) (sym slots) c.requires.none) in
    let free : get m id.number ≡ None = ap (λ (x : FinMap nat_cmp Due). get x id.number) (sym same) ∙ c.add-id.ensures.free in
    ap (map (known_by c.add-id.new.self.members)) c.in_default.ensures.ok
    ∙ ap (λ (x : FinMap nat_cmp Due). map (known_by x) (slice_set ids n (Some id))) (c.add-id.ensures.added ∙ ap (λ (x : FinMap nat_cmp Due). insert x id.number c.args.due) same)
    ∙ slots-put m ids n c.self.invariant within none id c.args.due free
    ∙ ap (λ s. slice_set s n (Some c.args.due)) slots
