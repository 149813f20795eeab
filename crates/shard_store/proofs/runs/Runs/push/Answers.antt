use Rattle.std.proofs.Common.{◌≡◌, ◌∙◌, ◌++◌, ◌∷◌, [], ap, arith, length, map}
use Rattle.shard_store.specs.Places.{RunsView, in_slot}
use Rattle.shard_store.proofs.SlotLemmas.{items-pushed}
use Rattle.shard_store.proofs.runs.Runs.push.Goals as goal

pub returns : goal.returns
returns g c =
    let kept = c.self.inside.kept.items in
    let slots = c.self.inside.slots.items in
    let n = c.len-slot.result in
    let new : n ≡ length kept = omega (arith, c.len-slot.ensures, c.self.inside.kept.ok.0) in
    ap (λ l. map (in_slot l) c.push_reserved-3.new.self.items) c.push_reserved.ensures.items
    ∙ ap (map (in_slot (kept ++ c.args.place ∷ []))) c.push_reserved-3.ensures.items
    ∙ items-pushed kept slots n c.args.place new c.self.invariant.there ∙ ap (λ (v : RunsView). v.items ++ c.args.place ∷ []) c.self.view_is
