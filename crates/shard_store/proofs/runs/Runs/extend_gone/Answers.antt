use Rattle.std.proofs.Common.{◌∙◌, ◌++◌, ap, map, replicate}
use Rattle.std.proofs.lemmas.List.{map-append}
use Rattle.sparse_numbers.proofs.NumberLemmas.{map-replicate}
use Rattle.shard_store.specs.Places.{RunsView, empty_place, in_slot}
use Rattle.shard_store.proofs.runs.Runs.extend_gone.Goals as goal

pub returns : goal.returns
returns g c =
    let kept = c.self.inside.kept.items in
    let slots = c.self.inside.slots.items in
    ap (map (in_slot kept)) c.extend_zeros_reserved.ensures.items ∙ map-append (in_slot kept) slots (replicate c.args.count 0)
    ∙ ap (λ l. map (in_slot kept) slots ++ l) (map-replicate (in_slot kept) c.args.count 0)
    ∙ ap (λ p. map (in_slot kept) slots ++ replicate c.args.count p) c.self.invariant.first
    ∙ ap (λ (v : RunsView). v.items ++ replicate c.args.count empty_place) c.self.view_is
