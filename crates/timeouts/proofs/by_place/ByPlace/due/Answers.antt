use Rattle.std.proofs.Common.{◌≡◌, ℕ, ◌<◌, ◌≤◌, ap, subst, slice_index_or}
use Rattle.std.specs.Prelude.{None, Some}
use Rattle.timeouts.specs.Places.{ids_of}
use Rattle.timeouts.specs.Slots.{IsLeastAt, due_at, Slots}
use Rattle.timeouts.specs.declared.due.Due.{Due}
use Rattle.timeouts.proofs.PlaceLemmas.{least-at, none-at, if-some, if-none}
use Rattle.timeouts.proofs.by_place.ByPlace.due.Goals as goal

pub returns-clause-least : goal.returns-clause-least
returns-clause-least c =
    if-some c.due.result _ (λ d. IsLeastAt (due_at c.args.self.now) d × (d.due ≤ c.args.moment))
    (λ d h. (
      subst (λ s. IsLeastAt (λ k. slice_index_or s k None) d) (ap (λ (s : Slots). s.slots) c.self.view_is)
          (least-at c.self.inside.heap.members (ids_of c.self.inside.notes.items) d c.self.invariant h.0),
      h.1,
    )) c.due.ensures.least

pub returns-clause-none : goal.returns-clause-none
returns-clause-none c =
    if-none c.due.result _ ((k : ℕ) (d : Due) → due_at c.args.self.now k ≡ Some d → c.args.moment < d.due)
    (λ h k d. subst (λ s. slice_index_or s k None ≡ Some d → c.args.moment < d.due) (ap (λ (s : Slots). s.slots) c.self.view_is)
    (none-at c.self.inside.heap.members (ids_of c.self.inside.notes.items) (λ e. c.args.moment < e.due) h k d)) c.due.ensures.none
