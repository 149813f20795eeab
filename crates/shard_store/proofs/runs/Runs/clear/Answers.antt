use Rattle.std.proofs.Common.{◌≡◌, ◌≢◌, ℕ, ◌+◌, ◌-◌, ◌<◌, ◌≤◌, ◌∙◌, ap, arith, length, List, map, subst, sym, slice_index_or, slice_set}
use Rattle.std.proofs.lemmas.List.{get_or_default, length-map}
use Rattle.mutable_state.specs.RunView.{RunView}
use Rattle.shard_store.specs.Places.{AreSlots, RunsView, empty_place, in_slot}
use Rattle.shard_store.proofs.SlotLemmas.{IsFreed, IsMoved, freed-last, freed-other, items-cleared, items-freed, slot_of, slots-freed}
use Rattle.shard_store.proofs.runs.Runs.clear.Goals as goal

-- what is known of the place and its slot
record At (slots : List ℕ) (k s : ℕ) : Type 0 where
  low : k < length slots
  is : s ≡ slot_of slots k

at : (v : RunsView) (slots : List ℕ) (kept : List RunView) (k s : ℕ) → map (in_slot kept) slots ≡ v.items → k < length v.items → s ≡ slice_index_or slots k 0 → At slots k s
at v slots kept k s items within read =
    let low : k < length slots = omega (arith, within, ap length items, length-map slots (in_slot kept)) in
    record { low = low; is = read }

-- what swap_remove leaves
removed : {A : Type 0} (xs ys : List A) (s n m : ℕ) → n ≡ length xs → m ≡ length ys → m + 1 ≡ n → ((d : A) → s + 1 < n → slice_index_or ys s d ≡ slice_index_or xs (n - 1) d) → ((k : ℕ) (d : A) → k ≢ s → k + 1 < n → slice_index_or ys k d ≡ slice_index_or xs k d) → IsMoved xs ys s
removed xs ys s n m before after fewer here others = record {
  fewer = omega (arith, before, after, fewer);
  here = λ d inside. here d (omega (arith, inside, before)) ∙ ap (λ i. slice_index_or xs (i - 1) d) before;
  others = λ k d other inside. others k d other (omega (arith, inside, before));
}

pub returns-then-slot-eq0 : goal.returns-then-slot-eq0
returns-then-slot-eq0 g c =
    let t = c.self.inside in
    let items = ap (λ (v : RunsView). v.items) c.self.view_is in
    let a = at c.args.self.now t.slots.items t.kept.items c.args.index c.get-slot.result items c.requires c.get-slot.ensures in
    sym items ∙ items-cleared t.kept.items t.slots.items c.args.index c.self.invariant.first (sym a.is ∙ c.if-slot-eq0.true) ∙ ap (λ l. slice_set l c.args.index empty_place) items

pub swap_remove-requires-2 : goal.swap_remove-requires-2
swap_remove-requires-2 g c =
    let t = c.self.inside in
    let a = at c.args.self.now t.slots.items t.kept.items c.args.index c.get-slot.result (ap (λ (v : RunsView). v.items) c.self.view_is) c.requires c.get-slot.ensures in
    omega (arith, a.is, c.self.invariant.there c.args.index a.low, c.self.invariant.count, t.places.ok.0)

-- the slots, and what is at the places, after it
record Behind (v : RunsView) (now left : List ℕ) (fewer : List RunView) (k : ℕ) : Type 0 where
  are : AreSlots now left fewer
  items : map (in_slot fewer) now ≡ slice_set v.items k empty_place

module _ (v : RunsView) (slots places left : List ℕ) (kept fewer : List RunView) (k s n : ℕ) (h : AreSlots slots places kept) (items : map (in_slot kept) slots ≡ v.items) (within : k < length v.items) (read : s ≡ slice_index_or slots k 0)
    (some : s ≢ 0) (moved_s : IsMoved kept fewer s) (places_s : IsMoved places left s) (count : n ≡ length fewer) where
  here : At slots k s
  here = at v slots kept k s items within read

  abbrev last : ℕ
  last = length fewer

  positive : 0 < slot_of slots k
  positive = omega (arith, here.is, some)

  moved : IsMoved kept fewer (slot_of slots k)
  moved = subst (IsMoved kept fewer) here.is moved_s

  moved_places : IsMoved places left (slot_of slots k)
  moved_places = subst (IsMoved places left) here.is places_s

  behind : (now : List ℕ) → IsFreed slots now k last → Behind v now left fewer k
  behind now freed = record {
    are = slots-freed slots places kept k last h here.low positive moved.fewer now freed fewer moved left moved_places;
    items = items-freed slots places kept k last h here.low positive moved.fewer now freed fewer moved left moved_places ∙ ap (λ l. slice_set l k empty_place) items;
  }

  -- the slot was another one than the last
  behind-other : (m : ℕ) → m ≡ slice_index_or left s m → s < n → Behind v (slice_set (slice_set slots k 0) m s) left fewer k
  behind-other m from inside =
      let short : slot_of slots k < last = omega (arith, here.is, count, inside) in
      let at_end : length places - 1 ≡ last = omega (arith, h.count, moved.fewer) in
      let below : s < length left = omega (arith, here.is, short, moved.fewer, moved_places.fewer, h.count) in
      let named : m ≡ slice_index_or places last 0 = from ∙ get_or_default left s m 0 below ∙ ap (λ i. slice_index_or left i 0) here.is ∙ moved_places.here 0 (omega (arith, short, moved.fewer, h.count)) ∙ ap (λ i. slice_index_or places i 0) at_end in
      let freed = freed-other slots places kept k last h here.low positive moved.fewer m named (λ same. absurd (omega (arith, same, short))) in
      subst (λ x. Behind v (slice_set (slice_set slots k 0) m x) left fewer k) (sym here.is) (behind _ freed)

  -- it was the last one
  behind-last : n ≤ s → Behind v (slice_set slots k 0) left fewer k
  behind-last past = behind _ (freed-last slots places kept k last h here.low positive moved.fewer (omega (arith, here.is, count, past, moved.fewer, h.there k here.low)))

pub invariant_of-self : goal.invariant_of-self
invariant_of-self g c =
    let t = c.self.inside in
    let items = ap (λ (v : RunsView). v.items) c.self.view_is in
    let kept = removed t.kept.items c.swap_remove.new.self.items c.get-slot.result _ _ t.kept.ok.0 c.swap_remove.new.self.ok.0 c.swap_remove.ensures.len c.swap_remove.ensures.by_index.0 c.swap_remove.ensures.by_index.1 in
    let places = removed t.places.items c.swap_remove-2.new.self.items c.get-slot.result _ _ t.places.ok.0 c.swap_remove-2.new.self.ok.0 c.swap_remove-2.ensures.len c.swap_remove-2.ensures.by_index.0 c.swap_remove-2.ensures.by_index.1 in
    let freed = c.give_back.ensures.items ∙ c.replace.ensures.items in
    let written = c.replace-then-slot-len.ensures.items ∙ ap (λ l. slice_set l c.index-moved.result.now c.get-slot.result) freed in
    (subst (λ (l : List ℕ). Behind c.args.self.now l c.swap_remove-2.new.self.items c.swap_remove.new.self.items c.args.index) (sym written)
    (behind-other c.args.self.now t.slots.items t.places.items c.swap_remove-2.new.self.items t.kept.items c.swap_remove.new.self.items c.args.index c.get-slot.result c.len.result c.self.invariant items c.requires c.get-slot.ensures c.if-slot-eq0.false kept places (c.len.ensures ∙ c.swap_remove.new.self.ok.0) c.index-moved.result.now c.index-moved.ensures c.if-slot-len.true)).are

pub invariant_of-self-else-slot-len : goal.invariant_of-self-else-slot-len
invariant_of-self-else-slot-len g c =
    let t = c.self.inside in
    let items = ap (λ (v : RunsView). v.items) c.self.view_is in
    let kept = removed t.kept.items c.swap_remove.new.self.items c.get-slot.result _ _ t.kept.ok.0 c.swap_remove.new.self.ok.0 c.swap_remove.ensures.len c.swap_remove.ensures.by_index.0 c.swap_remove.ensures.by_index.1 in
    let places = removed t.places.items c.swap_remove-2.new.self.items c.get-slot.result _ _ t.places.ok.0 c.swap_remove-2.new.self.ok.0 c.swap_remove-2.ensures.len c.swap_remove-2.ensures.by_index.0 c.swap_remove-2.ensures.by_index.1 in
    let freed = c.give_back.ensures.items ∙ c.replace.ensures.items in
    (subst (λ (l : List ℕ). Behind c.args.self.now l c.swap_remove-2.new.self.items c.swap_remove.new.self.items c.args.index) (sym freed)
    (behind-last c.args.self.now t.slots.items t.places.items c.swap_remove-2.new.self.items t.kept.items c.swap_remove.new.self.items c.args.index c.get-slot.result c.len.result c.self.invariant items c.requires c.get-slot.ensures c.if-slot-eq0.false kept places (c.len.ensures ∙ c.swap_remove.new.self.ok.0) (omega (arith, c.if-slot-len.false)))).are

pub returns-then-slot-len : goal.returns-then-slot-len
returns-then-slot-len g c =
    let t = c.self.inside in
    let items = ap (λ (v : RunsView). v.items) c.self.view_is in
    let kept = removed t.kept.items c.swap_remove.new.self.items c.get-slot.result _ _ t.kept.ok.0 c.swap_remove.new.self.ok.0 c.swap_remove.ensures.len c.swap_remove.ensures.by_index.0 c.swap_remove.ensures.by_index.1 in
    let places = removed t.places.items c.swap_remove-2.new.self.items c.get-slot.result _ _ t.places.ok.0 c.swap_remove-2.new.self.ok.0 c.swap_remove-2.ensures.len c.swap_remove-2.ensures.by_index.0 c.swap_remove-2.ensures.by_index.1 in
    let freed = c.give_back.ensures.items ∙ c.replace.ensures.items in
    let written = c.replace-then-slot-len.ensures.items ∙ ap (λ l. slice_set l c.index-moved.result.now c.get-slot.result) freed in
    (subst (λ (l : List ℕ). Behind c.args.self.now l c.swap_remove-2.new.self.items c.swap_remove.new.self.items c.args.index) (sym written)
    (behind-other c.args.self.now t.slots.items t.places.items c.swap_remove-2.new.self.items t.kept.items c.swap_remove.new.self.items c.args.index c.get-slot.result c.len.result c.self.invariant items c.requires c.get-slot.ensures c.if-slot-eq0.false kept places (c.len.ensures ∙ c.swap_remove.new.self.ok.0) c.index-moved.result.now c.index-moved.ensures c.if-slot-len.true)).items

pub returns-else-slot-len : goal.returns-else-slot-len
returns-else-slot-len g c =
    let t = c.self.inside in
    let items = ap (λ (v : RunsView). v.items) c.self.view_is in
    let kept = removed t.kept.items c.swap_remove.new.self.items c.get-slot.result _ _ t.kept.ok.0 c.swap_remove.new.self.ok.0 c.swap_remove.ensures.len c.swap_remove.ensures.by_index.0 c.swap_remove.ensures.by_index.1 in
    let places = removed t.places.items c.swap_remove-2.new.self.items c.get-slot.result _ _ t.places.ok.0 c.swap_remove-2.new.self.ok.0 c.swap_remove-2.ensures.len c.swap_remove-2.ensures.by_index.0 c.swap_remove-2.ensures.by_index.1 in
    let freed = c.give_back.ensures.items ∙ c.replace.ensures.items in
    (subst (λ (l : List ℕ). Behind c.args.self.now l c.swap_remove-2.new.self.items c.swap_remove.new.self.items c.args.index) (sym freed)
    (behind-last c.args.self.now t.slots.items t.places.items c.swap_remove-2.new.self.items t.kept.items c.swap_remove.new.self.items c.args.index c.get-slot.result c.len.result c.self.invariant items c.requires c.get-slot.ensures c.if-slot-eq0.false kept places (c.len.ensures ∙ c.swap_remove.new.self.ok.0) (omega (arith, c.if-slot-len.false)))).items
