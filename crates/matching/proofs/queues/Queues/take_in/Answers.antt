use Rattle.std.proofs.Common.{◌≡◌, ◌∙◌, ◌<◌, ℕ, ◌+◌, [], ◌∷◌, ◌++◌, ap, refl, sym, subst, length, length-append, append_assoc, Some, slice_get}
use Rattle.std.proofs.lemmas.Option.{slice_get_within}
use Rattle.matching.specs.Named.{known_by}
use Rattle.matching.proofs.Ended.{taken_slot}
use Rattle.matching.proofs.Lists.{comes_next}
use Rattle.matching.proofs.Places.{found}
use Rattle.matching.proofs.Slots.{own_set}
use Rattle.matching.proofs.queues.Queues.take_in.Goals as goal

-- the pass that is handed in stands in its list
next : (c : goal.After-index_mut) → slice_get c.args.other.passes.items c.loop-each.slot ≡ Some c.in-Some.each
next c = let inv = c.loop-each.invariant in
    subst (λ (n : ℕ). slice_get c.args.other.passes.items n ≡ Some c.in-Some.each) (sym inv.place) (comes_next c.args.other.passes.items c.loop-each.yielded c.loop-each.each-iterator.rest.items c.next.new.self.rest.items c.in-Some.each inv.rest c.in-Some.ensures.steps.0)

below : (c : goal.After-index_mut) → c.loop-each.slot < length c.args.self.now.queues.items
below c = subst (λ (n : ℕ). c.loop-each.slot < n) c.requires.other.width (slice_get_within c.args.other.passes.items c.loop-each.slot c.in-Some.each (next c))

queue : (c : goal.After-index_mut) → slice_get c.args.self.now.queues.items c.loop-each.slot ≡ Some c.index.result.now
queue c = found c.args.self.now.queues.items c.loop-each.slot c.index.result.now (below c) c.index.ensures

mine : (c : goal.After-index_mut) → slice_get c.loop-each.pass.passes.items c.loop-each.slot ≡ Some c.index_mut.result.now
mine c = found c.loop-each.pass.passes.items c.loop-each.slot c.index_mut.result.now (subst (λ (n : ℕ). c.loop-each.slot < n) (sym c.loop-each.invariant.own.width) (below c)) c.index_mut.ensures.value

pub take_in-requires-clause-own : goal.take_in-requires-clause-own
take_in-requires-clause-own c = c.loop-each.invariant.own.own c.loop-each.slot c.index.result.now c.index_mut.result.now (queue c) (mine c)

pub take_in-requires-clause-other : goal.take_in-requires-clause-other
take_in-requires-clause-other c = c.requires.other.own c.loop-each.slot c.index.result.now c.in-Some.each (queue c) (next c)

pub loop-each-preserved : goal.loop-each-preserved
loop-each-preserved c =
    let inv = c.loop-each.invariant in let n = c.loop-each.slot in let queues = c.args.self.now.queues.items in let ps = c.loop-each.pass.passes.items in
    let there : slice_get c.args.other.passes.items n ≡ Some c.in-Some.each = subst (λ (k : ℕ). slice_get c.args.other.passes.items k ≡ Some c.in-Some.each) (sym inv.place)
    (comes_next c.args.other.passes.items c.loop-each.yielded c.loop-each.each-iterator.rest.items c.next.new.self.rest.items c.in-Some.each inv.rest c.in-Some.ensures.steps.0) in
    let inside : n < length queues = subst (λ (k : ℕ). n < k) c.requires.other.width (slice_get_within c.args.other.passes.items n c.in-Some.each there) in
    let at : slice_get queues n ≡ Some c.index.result.now = found queues n c.index.result.now inside c.index.ensures in
    let own : slice_get ps n ≡ Some c.index_mut.result.now = found ps n c.index_mut.result.now (subst (λ (k : ℕ). n < k) (sym inv.own.width) inside) c.index_mut.ensures.value in
    record {
      own = own_set c.args.self.now c.loop-each.pass _ n c.index.result.now c.take_in.new.pass refl at c.take_in.ensures.own inv.own;
      place = ap (λ (k : ℕ). k + 1) inv.place ∙ sym (length-append c.loop-each.yielded (c.in-Some.each ∷ []));
      rest = inv.rest ∙ (ap (λ l. c.loop-each.yielded ++ l) c.in-Some.ensures.steps.0 ∙ sym (append_assoc c.loop-each.yielded (c.in-Some.each ∷ []) c.next.new.self.rest.items));
      taken = taken_slot n (known_by c.args.pass.now) c.args.other.passes.items ps c.in-Some.each c.index_mut.result.now c.take_in.new.pass there own c.take_in.ensures.taken inv.taken;
    }
