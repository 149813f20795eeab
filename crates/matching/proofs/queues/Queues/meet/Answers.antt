use Rattle.std.proofs.Common.{rules, ◌≡◌, ◌<◌, ℕ, refl, sym, subst, length, Some, slice_get}
use Rattle.matching.specs.Named.{known_by}
use Rattle.matching.proofs.Places.{found}
use Rattle.matching.proofs.Slots.{own_set, met_slot}
use Rattle.matching.proofs.queues.Queues.meet.Goals as goal

pub loop-slot-preserved : goal.loop-slot-preserved
loop-slot-preserved c =
    let inv = c.loop-slot.invariant in let n = c.loop-slot.slot in let queues = c.args.self.now.queues.items in
    let below : n < length queues = search rules in
    let queue : slice_get queues n ≡ Some c.index.result.now = found queues n c.index.result.now below c.index.ensures in
    let one : slice_get c.loop-slot.first.passes.items n ≡ Some c.index_mut.result.now = found _ _ _ (subst (λ (k : ℕ). n < k) (sym inv.first.width) below) c.index_mut.ensures.value in
    let two : slice_get c.loop-slot.second.passes.items n ≡ Some c.index_mut-in-loop-slot.result.now = found _ _ _ (subst (λ (k : ℕ). n < k) (sym inv.second.width) below) c.index_mut-in-loop-slot.ensures.value in
    record {
      first = own_set c.args.self.now c.loop-slot.first _ n c.index.result.now c.meet.new.first refl queue c.meet.ensures.first inv.first;
      second = own_set c.args.self.now c.loop-slot.second _ n c.index.result.now c.meet.new.second refl queue c.meet.ensures.second inv.second;
      met = met_slot n (known_by c.args.first.now) (known_by c.args.second.now) c.loop-slot.first.passes.items c.loop-slot.second.passes.items c.index_mut.result.now c.index_mut-in-loop-slot.result.now c.meet.new.first c.meet.new.second one two c.meet.ensures.agree inv.met;
    }
