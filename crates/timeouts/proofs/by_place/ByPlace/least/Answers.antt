use Rattle.std.proofs.Common.{◌≡◌, ℕ, ap, subst, slice_index_or}
use Rattle.std.specs.Prelude.{None}
use Rattle.timeouts.specs.Places.{ids_of}
use Rattle.timeouts.specs.Slots.{IsLeastAt, due_at, Slots}
use Rattle.timeouts.proofs.PlaceLemmas.{least-at, all-none, if-some, if-none}
use Rattle.timeouts.proofs.by_place.ByPlace.least.Goals as goal

pub returns-clause-least : goal.returns-clause-least
returns-clause-least c =
    if-some c.least.result _ (IsLeastAt (due_at c.args.self.now))
    (λ d h. subst (λ s. IsLeastAt (λ k. slice_index_or s k None) d) (ap (λ (s : Slots). s.slots) c.self.view_is)
    (least-at c.self.inside.heap.members (ids_of c.self.inside.notes.items) d c.self.invariant h)) c.least.ensures.least

pub returns-clause-empty : goal.returns-clause-empty
returns-clause-empty c =
    if-none c.least.result _ ((k : ℕ) → due_at c.args.self.now k ≡ None)
    (λ h k. subst (λ s. slice_index_or s k None ≡ None) (ap (λ (s : Slots). s.slots) c.self.view_is)
    (all-none c.self.inside.heap.members (ids_of c.self.inside.notes.items) h k)) c.least.ensures.none
