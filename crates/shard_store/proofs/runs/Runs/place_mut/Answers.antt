use Rattle.std.proofs.Common.{◌≡◌, ◌≢◌, ℕ, List, ◌<◌, ◌∙◌, ap, arith, length, map, subst, sym, refl, slice_index_or, slice_set}
use Rattle.std.proofs.lemmas.List.{get_or_default, length-map}
use Rattle.mutable_state.specs.RunView.{RunView}
use Rattle.shard_store.specs.Places.{AreSlots, RunsView, empty_place, in_slot}
use Rattle.shard_store.proofs.SlotLemmas.{item-at, items-written, slot_of, there-low, there-slot, written}
use Rattle.shard_store.proofs.runs.Runs.place_mut.Goals as goal

-- what is known of the place and its slot
record At (slots : List ℕ) (kept : List RunView) (k s : ℕ) : Type 0 where
  low : k < length slots
  some : 0 < slot_of slots k
  is : s ≡ slot_of slots k

at : (v : RunsView) (slots places : List ℕ) (kept : List RunView) (k s : ℕ) → AreSlots slots places kept → map (in_slot kept) slots ≡ v.items → slice_index_or v.items k empty_place ≢ empty_place → s ≡ slice_index_or slots k 0 → At slots kept k s
at v slots places kept k s h items there read =
    let begun : slice_index_or (map (in_slot kept) slots) k empty_place ≢ empty_place = (λ none. there (sym (ap (λ l. slice_index_or l k empty_place) items) ∙ none)) in
    let low : k < length slots = omega (arith, there-low (map (in_slot kept) slots) k begun, length-map slots (in_slot kept)) in
    record { low = low; some = there-slot kept slots k h.first begun; is = read }

pub get-slot-requires : goal.get-slot-requires
get-slot-requires g c =
    let low = there-low c.args.self.now.items c.args.index c.requires in
    omega (arith, low, ap (λ (v : RunsView). length v.items) c.self.view_is, length-map c.self.inside.slots.items (in_slot c.self.inside.kept.items))

pub index_mut-requires : goal.index_mut-requires
index_mut-requires g c =
    let t = c.self.inside in
    let a = at c.args.self.now t.slots.items t.places.items t.kept.items c.args.index c.get-slot.result c.self.invariant (ap (λ (v : RunsView). v.items) c.self.view_is) c.requires c.get-slot.ensures in
    omega (arith, a.is, c.self.invariant.there c.args.index a.low, t.kept.ok.0)

pub invariant_of-self-lent : goal.invariant_of-self-lent
invariant_of-self-lent g c w =
    let t = c.self.inside in
    let a = at c.args.self.now t.slots.items t.places.items t.kept.items c.args.index c.get-slot.result c.self.invariant (ap (λ (v : RunsView). v.items) c.self.view_is) c.requires c.get-slot.ensures in
    subst (λ s. AreSlots t.slots.items t.places.items (slice_set t.kept.items s w)) (sym a.is) (written t.slots.items t.places.items t.kept.items c.args.index w c.self.invariant a.low a.some)

pub returns : goal.returns
returns g c =
    let t = c.self.inside in
    let k = c.args.index in
    let items = ap (λ (v : RunsView). v.items) c.self.view_is in
    let a = at c.args.self.now t.slots.items t.places.items t.kept.items k c.get-slot.result c.self.invariant items c.requires c.get-slot.ensures in
    let read : slice_index_or c.args.self.now.items k empty_place ≡ c.index_mut.result.now =
    sym (ap (λ l. slice_index_or l k empty_place) items) ∙ item-at t.kept.items t.slots.items k c.self.invariant.first
    ∙ ap (in_slot t.kept.items) (sym a.is) ∙ get_or_default t.kept.items c.get-slot.result empty_place c.index_mut.result.now (omega (arith, a.is, c.self.invariant.there k a.low)) ∙ sym c.index_mut.ensures.value in
    let within : k < length c.args.self.now.items = there-low c.args.self.now.items k c.requires in (
      (
        refl,
        λ w.
            let one = ap (λ s. map (in_slot (slice_set t.kept.items s w)) t.slots.items) a.is ∙ items-written t.slots.items t.places.items t.kept.items k w c.self.invariant a.low a.some ∙ ap (λ l. slice_set l k w) items in
            λ i. record { items = one i; room = ap (λ (v : RunsView). v.room) c.self.view_is i },
      ),
      record { writes_back = tt; value = sym read ∙ get_or_default c.args.self.now.items k empty_place c.index_mut.result.now within; full = λ none. c.requires (read ∙ none) },
    )
