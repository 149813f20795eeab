use Rattle.std.proofs.Common.{◌≡◌, ◌++◌, ◌∷◌, length}
use Rattle.std.specs.Prelude.{map}
use Rattle.std.specs.Vec.Iter.{into_iter_items, into_iter_len}
use Rattle.service_model.specs.Journal.{plain}
use Rattle.task_completion.proofs.end.as_facts.Given as goal

abbrev pub invariant-loop-attributes : goal.invariant-loop-attributes
invariant-loop-attributes l =
    (goal.iterator-loop-attributes).can_next l.attributes-iterator
    × (goal.iterator-loop-attributes).is_finite l.attributes-iterator
    × (l.facts.items ++ map plain (into_iter_items l.attributes-iterator) ≡ plain l.fn.first ∷ map plain l.fn.others.items)
    × (length (into_iter_items l.attributes-iterator) ≡ into_iter_len l.attributes-iterator)
